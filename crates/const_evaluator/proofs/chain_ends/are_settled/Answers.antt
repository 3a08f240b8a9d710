use Rattle.const_evaluator.proofs.ChainTabled.{settled_end}
use Rattle.const_evaluator.proofs.chain_ends.are_settled.Goals as goal

pub returns : goal.returns
returns c = λ told. settled_end c.args.links.now c.args.ends.now c.loop-which.which c.loop-which-test.false c.loop-which.invariant
