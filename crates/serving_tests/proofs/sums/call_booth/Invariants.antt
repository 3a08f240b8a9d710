use Rattle.seat_booth.specs.Seats.{IsSeatOf}
use Rattle.serving_tests.proofs.sums.call_booth.Given as goal

abbrev pub invariant-loop : goal.invariant-loop
invariant-loop g l = IsSeatOf l.booth l.seat
