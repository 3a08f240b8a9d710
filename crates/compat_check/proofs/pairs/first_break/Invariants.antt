use Rattle.std.proofs.Common.{◌≡◌, map, drop}
use Rattle.compat_model.specs.Breaks.{pair_break}
use Rattle.compat_model.specs.InOrder.{first_answer}
use Rattle.compat_check.specs.Plain.{change_of, plain_pair}
use Rattle.compat_check.proofs.pairs.first_break.Given as goal

-- the first break of what is left is the first of all
abbrev pub invariant-loop-pair : goal.invariant-loop-pair
invariant-loop-pair l =
    first_answer (pair_break (change_of l.change)) (map plain_pair (drop l.pair-index l.pairs)) ≡ first_answer (pair_break (change_of l.change)) (map plain_pair l.pairs)
