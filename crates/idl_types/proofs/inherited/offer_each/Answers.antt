use Rattle.idl_types.proofs.inherited.offer_each.Goals as goal

pub loop-service-init : goal.loop-service-init
loop-service-init c = λ are. are

pub loop-service-preserved : goal.loop-service-preserved
loop-service-preserved c = λ are. c.in_ok-offer.ensures {u = tt} (c.loop-service.invariant are)

pub returns : goal.returns
returns c = c.loop-service.invariant
