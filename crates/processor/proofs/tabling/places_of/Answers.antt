use Rattle.std.proofs.Common.{◌≡◌, ◌<◌, length, rules, arith, sym, subst}
use Rattle.std.specs.Prelude.{All}
use Rattle.std.proofs.lemmas.List.Elements.{All-push}
use Rattle.processor.proofs.Tabled.{place_more}
use Rattle.processor.proofs.tabling.places_of.Goals as goal

pub loop-place-preserved : goal.loop-place-preserved
loop-place-preserved c =
    let same : c.in-Ok.number ≡ c.loop-place.place = search rules in
    let low : c.in-Ok.number < length c.args.functions.now = subst (λ n. n < length c.args.functions.now) (sym same) c.loop-place-test.true in
    record {
      each = place_more c.loop-place.place c.in-Ok.number c.loop-place.places.items _ c.loop-place.invariant.each same c.in_ok-push.ensures.items;
      within =
          subst (All (λ place. place < length c.args.functions.now)) (sym c.in_ok-push.ensures.items)
          (All-push (λ place. place < length c.args.functions.now) c.loop-place.places.items c.in-Ok.number c.loop-place.invariant.within low);
    }

pub returns-clause-each : goal.returns-clause-each
returns-clause-each c = λ k low. c.loop-place.invariant.each k (omega (arith, low, c.loop-place-test.false))
