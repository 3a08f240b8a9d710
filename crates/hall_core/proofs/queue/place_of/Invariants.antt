use Rattle.hall_core.proofs.Placing.{Looks}
use Rattle.hall_core.proofs.queue.place_of.Given as goal

abbrev pub invariant-loop-place : goal.invariant-loop-place
invariant-loop-place l = Looks l.key l.keys l.place
