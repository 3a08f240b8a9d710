use Rattle.std.proofs.Common.{rules, ◌≡◌, ◌∙◌, [], map, ap, sym, refl}
use Rattle.std.specs.Prelude.{flat_map}
use Rattle.std.proofs.lemmas.Bool.{eqb-true}
use Rattle.std.proofs.lemmas.List.{nil_from_length}
use Rattle.compat_model.specs.StructPairs.{pairs_within}
use Rattle.compat_check.specs.Plain.{change_of, plain_found_break, plain_pair}
use Rattle.compat_check.proofs.LookedOnce.{last_round, found_in_round, next_round}
use Rattle.compat_check.proofs.rounds.first_in_rounds.Goals as goal

pub returns-then-is_empty : goal.returns-then-is_empty
returns-then-is_empty c =
    let empty : c.loop-round.current.items ≡ [] =
    sym c.as_slice.ensures.value ∙ nil_from_length c.as_slice.result.now (eqb-true _ _ (sym c.is_empty.ensures ∙ c.if-is_empty.true)) in
    last_round (change_of c.args.change.now) (map plain_pair c.loop-round.seen.keys) (map plain_pair c.loop-round.current.items) c.loop-round._round c.loop-round.invariant (ap (map plain_pair) empty)

pub returns-in-Some : goal.returns-in-Some
returns-in-Some c =
    found_in_round (change_of c.args.change.now) (map plain_pair c.loop-round.seen.keys) (map plain_pair c.loop-round.current.items) c.loop-round._round (plain_found_break c.in-Some.found)
    c.loop-round.invariant (search rules)

pub loop-round-preserved : goal.loop-round-preserved
loop-round-preserved c =
    next_round (change_of c.args.change.now) (map plain_pair c.loop-round.seen.keys) (map plain_pair c.loop-round.current.items)
    (flat_map (pairs_within (change_of c.args.change.now)) (map plain_pair c.loop-round.current.items))
    (map plain_pair c.next_round.new.seen.keys) _ c.loop-round._round c.loop-round.invariant (search rules) refl
    (search rules) (search rules)
