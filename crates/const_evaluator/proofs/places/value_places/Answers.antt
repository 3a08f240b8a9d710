use Rattle.std.proofs.Common.{refl}
use Rattle.const_evaluator.proofs.Placed.{found_next, own_next, all_placed}
use Rattle.const_evaluator.proofs.places.value_places.Goals as goal

pub loop-number-preserved : goal.loop-number-preserved
loop-number-preserved c = record {
  found =
      found_next c.args.values.now c.loop-number.number c.loop-number.number c.index-values-number.result c.loop-number.numbers c.put_place.new.numbers c.loop-number-test.true
      c.index-values-number.is refl c.in_ok-put_place.ensures c.loop-number.invariant.found;
  own =
      own_next c.args.values.now c.loop-number.number c.loop-number.number c.index-values-number.result c.loop-number.numbers c.put_place.new.numbers c.loop-number-test.true
      c.index-values-number.is refl c.in_ok-put_place.ensures c.loop-number.invariant.own;
}

pub returns : goal.returns
returns c =
    λ program are.
    all_placed c.args.values.now _ c.loop-number.number c.loop-number-test.false c.loop-number.invariant.found c.loop-number.invariant.own program are
