use Rattle.std.proofs.Common.{take}
use Rattle.schema_bare.specs.GivenLists.{struct_given}
use Rattle.idl_check.proofs.Sited.{AreBehind, one_given}
use Rattle.idl_check.proofs.sites.put_structs.Given as goal

abbrev pub invariant-loop-one : goal.invariant-loop-one
invariant-loop-one l = AreBehind (one_given struct_given) l.initial.sites.items (take l.one-index l.given) l.sites.items
