use Rattle.const_evaluator.proofs.ChainTabled.{AreRightWithin}
use Rattle.const_evaluator.proofs.chain_ends.ends_along.Given as goal

-- what was found so far
abbrev pub invariant-loop-which : goal.invariant-loop-which
invariant-loop-which l = AreRightWithin l.links l.which-index l.ends.items
