use Rattle.std.proofs.Common.{get_or, map, refl}
use Rattle.struct_skew.specs.Plan.{unsent_choice}
use Rattle.struct_skew.proofs.Steps.{get_or_same}
use Rattle.struct_skew.proofs.Tried.{one_appended, all_appended}
use Rattle.struct_skew.proofs.plan.put_unsent.Goals as goal

pub loop-place-preserved : goal.loop-place-preserved
loop-place-preserved c =
    let i = c.loop-place.place-index in
    let place = get_or c.args.places.now i 0 in
    one_appended (map unsent_choice) unsent_choice (λ p ps. refl) c.args.places.now c.loop-place.into.items _ i c.loop-place.invariant place c.push.new.self.items
    c.loop-place-test.true (get_or_same c.args.places.now i 0 place c.loop-place-test.true) c.in_ok-push.ensures.items

pub returns : goal.returns
returns c = all_appended (map unsent_choice) unsent_choice (λ p ps. refl) c.args.places.now c.loop-place.into.items _ c.loop-place.place-index c.loop-place.invariant refl c.loop-place-test.false
