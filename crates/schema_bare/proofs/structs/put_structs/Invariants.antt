use Rattle.std.proofs.Common.{map, take}
use Rattle.idl_include.specs.SourcesOf.{program_in}
use Rattle.schema_bare.specs.GivenLists.{struct_given}
use Rattle.schema_bare.specs.StructsAdded.{AddsStructs}
use Rattle.schema_bare.proofs.structs.put_structs.Given as goal

abbrev pub invariant-loop-one : goal.invariant-loop-one
invariant-loop-one l =
    AddsStructs (program_in l.tables.names.now) (map struct_given (take l.one-index l.given)) l.initial.structs.items l.structs.items
