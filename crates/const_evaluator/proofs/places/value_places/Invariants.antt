use Rattle.std.proofs.Common.{take}
use Rattle.const_evaluator.proofs.Placed.{FindsPlaces, HaveOwnPlaces}
use Rattle.const_evaluator.proofs.places.value_places.Given as goal

abbrev pub invariant-loop-number : goal.invariant-loop-number
invariant-loop-number l = record {
  found : FindsPlaces l.numbers (take l.number l.values);
  own : HaveOwnPlaces l.numbers l.values l.number;
}
