use Rattle.std.proofs.Common.{refl}
use Rattle.const_evaluator.proofs.Valued.{value_found_next}
use Rattle.const_evaluator.proofs.enum_tables.first_places.Goals as goal

pub loop-place-preserved : goal.loop-place-preserved
loop-place-preserved c =
    value_found_next c.args.values.now c.loop-place.place c.loop-place.place c.index-values-place.result c.index-values-place.result.name.text c.loop-place.places c.put_value.new.places
    c.loop-place-test.true c.index-values-place.is refl refl c.in_ok-put_value.ensures c.loop-place.invariant
