use Rattle.const_evaluator.proofs.ChainTabled.{AreSettledBelow}
use Rattle.const_evaluator.proofs.chain_ends.are_settled.Given as goal

-- the chains so far
abbrev pub invariant-loop-which : goal.invariant-loop-which
invariant-loop-which l = AreSettledBelow l.links l.ends l.which
