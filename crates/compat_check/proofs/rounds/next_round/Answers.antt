use Rattle.std.proofs.Common.{map, drop, ◌+◌, ap}
use Rattle.std.specs.Prelude.{flat_map}
use Rattle.std.proofs.lemmas.List.{drop_more}
use Rattle.compat_model.specs.StructPairs.{pairs_within}
use Rattle.compat_check.specs.Plain.{change_of, plain_pair}
use Rattle.compat_check.proofs.LookedOnce.{takes_some}
use Rattle.compat_check.proofs.rounds.next_round.Goals as goal

pub loop-pair-preserved : goal.loop-pair-preserved
loop-pair-preserved c =
    takes_some _ _ _ (map plain_pair c.loop-pair.seen.keys) (map plain_pair c.loop-pair.all.items) _
    (flat_map (pairs_within (change_of c.args.change.now)) (map plain_pair (drop (c.loop-pair.pair-index + 1) c.args.current.now))) _
    (map plain_pair c.reach.new.seen.keys) (map plain_pair c.reach.new.into.items)
    (ap (λ xs. flat_map (pairs_within (change_of c.args.change.now)) (map plain_pair xs)) (drop_more c.args.current.now c.loop-pair.pair-index _ c.loop-pair-test.true))
    c.in_ok-reach.ensures.into c.in_ok-reach.ensures.seen c.loop-pair.invariant
