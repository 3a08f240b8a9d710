use Rattle.std.proofs.Common.{take}
use Rattle.schema_bare.specs.GivenLists.{service_args}
use Rattle.idl_check.proofs.Sited.{AreBehind}
use Rattle.idl_check.proofs.sites.put_services.Given as goal

abbrev pub invariant-loop-one : goal.invariant-loop-one
invariant-loop-one l = AreBehind service_args l.initial.sites.items (take l.one-index l.given) l.sites.items
