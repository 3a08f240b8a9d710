use Rattle.std.proofs.Common.{◌≡◌, ℕ, rules, subst}
use Rattle.const_evaluator.specs.Places.{HasNewPlace}
use Rattle.const_evaluator.proofs.Placed.{new_place}
use Rattle.const_evaluator.proofs.places.put_place.Goals as goal

pub returns : goal.returns
returns c =
    let P : ℕ → Type 0 = λ n. HasNewPlace c.args.file c.args.owner n c.args.numbers.now c.insert.new.self in
    let same : c.in-Ok.number ≡ c.args.number = search rules in
    subst P same (new_place c.args.numbers.now c.insert.new.self c.args.file c.args.owner c.in-Ok.number (search (rules, c.contains_key.ensures)) c.in_ok-insert.ensures.entries)
