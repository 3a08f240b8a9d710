use Rattle.std.proofs.Common.{◌≡◌, ℕ, None}
use Rattle.const_evaluator.specs.ChainTables.{end_in}
use Rattle.const_evaluator.proofs.chain_ends.no_ends.Given as goal

abbrev pub invariant-loop-place : goal.invariant-loop-place
invariant-loop-place l = (which : ℕ) → end_in l.ends.items which ≡ None
