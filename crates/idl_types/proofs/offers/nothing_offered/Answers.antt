use Rattle.idl_types.proofs.Sets.{none_more}
use Rattle.idl_types.proofs.offers.nothing_offered.Goals as goal

pub loop-preserved : goal.loop-preserved
loop-preserved c = none_more c.loop.made.items c.push.new.self.items c.in_ok-push.ensures.items c.loop.invariant
