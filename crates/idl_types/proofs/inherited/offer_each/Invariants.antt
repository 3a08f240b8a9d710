use Rattle.idl_types.specs.Inherited.{KeepsOffered}
use Rattle.idl_types.proofs.inherited.offer_each.Given as goal

abbrev pub invariant-loop-service : goal.invariant-loop-service
invariant-loop-service l = KeepsOffered l.parents l.services l.initial.offered l.offered
