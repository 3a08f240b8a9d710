use Rattle.std.proofs.Common.{[], map, drop}
use Rattle.std.specs.Prelude.{flat_map}
use Rattle.compat_model.specs.StructPairs.{pairs_within}
use Rattle.compat_check.specs.Plain.{change_of, plain_pair}
use Rattle.compat_check.proofs.LookedOnce.{Takes}
use Rattle.compat_check.proofs.rounds.next_round.Given as goal

-- what was taken, and what of the rest is fresh, is all that is
abbrev pub invariant-loop-pair : goal.invariant-loop-pair
invariant-loop-pair l =
    Takes (map plain_pair l.fn.seen.keys) [] (flat_map (pairs_within (change_of l.change)) (map plain_pair l.current))
    (map plain_pair l.seen.keys) (map plain_pair l.all.items) (flat_map (pairs_within (change_of l.change)) (map plain_pair (drop l.pair-index l.current)))
