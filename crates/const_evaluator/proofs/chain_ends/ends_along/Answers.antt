use Rattle.const_evaluator.proofs.ChainTabled.{right_more, none_right}
use Rattle.const_evaluator.proofs.chain_ends.ends_along.Goals as goal

pub loop-which-init : goal.loop-which-init
loop-which-init c = none_right c.args.links.now c.in_ok-ends.ends.items c.in_ok-ends.ensures

pub loop-which-preserved : goal.loop-which-preserved
loop-which-preserved c =
    right_more c.args.links.now c.loop-which.which-index c.loop-which.ends.items c.put_end.new.ends.items c.loop-which.invariant c.put_end.ensures
