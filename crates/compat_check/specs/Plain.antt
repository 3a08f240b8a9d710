-- What stands in memory, as plain data.
use Rattle.schema.specs.SchemaOf.{schema_of}
use Rattle.compat_model.specs.Breaks.{PlainBreak}
use Rattle.compat_model.specs.Faults.{StructFault}
use Rattle.compat_model.specs.StructPairs.{SchemaChange, StructPair}
use Rattle.compat_check.specs.declared.change.Change.{Change}
use Rattle.compat_check.specs.declared.faults.Fault.{Fault}
use Rattle.compat_check.specs.declared.pair.Pair.{Pair}
use Rattle.compat_check.specs.declared.pairs.FoundBreak.{FoundBreak}

-- a change
abbrev pub change_of : Change → SchemaChange
change_of c = record { old = schema_of c.old.now; new = schema_of c.new.now }

-- a pair
abbrev pub plain_pair : Pair → StructPair
plain_pair p = record { backward = p.backward; from = p.from; to = p.to }

-- a fault
abbrev pub plain_fault : Fault → StructFault
plain_fault f = record { id = f.id; kind = f.kind }

-- a break
abbrev pub plain_found_break : FoundBreak → PlainBreak
plain_found_break f = record { name = f.name.now; id = f.id; kind = f.kind }
