use Rattle.const_evaluator.proofs.ChainTabled.{none_next}
use Rattle.const_evaluator.proofs.chain_ends.no_ends.Goals as goal

pub loop-place-preserved : goal.loop-place-preserved
loop-place-preserved c = none_next c.loop-place.ends.items c.push.new.self.items c.in_ok-push.ensures.items c.loop-place.invariant
