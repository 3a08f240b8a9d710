use Rattle.std.proofs.Common.{map, drop}
use Rattle.compat_check.specs.Plain.{plain_pair}
use Rattle.compat_check.proofs.LookedOnce.{Takes}
use Rattle.compat_check.proofs.fresh.take_each.Given as goal

-- what was taken, and what of the rest is fresh, is all that is
abbrev pub invariant-loop-pair : goal.invariant-loop-pair
invariant-loop-pair l =
    Takes (map plain_pair l.fn.seen.keys) (map plain_pair l.fn.into.items) (map plain_pair l.pairs)
    (map plain_pair l.seen.keys) (map plain_pair l.into.items) (map plain_pair (drop l.pair-index l.pairs))
