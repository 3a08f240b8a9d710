use Rattle.std.proofs.Common.{◌≡◌}
use Rattle.seat_booth.specs.Seats.{IsSeatOf}
use Rattle.hall_pool.proofs.Adding.{RunsOn}
use Rattle.hall_pool.proofs.worker.Worker+Hall+H+J.run.Given as goal

abbrev pub invariant-loop : goal.invariant-loop
invariant-loop g l = record {
  seat : IsSeatOf l.booth l.worker;
  number : l.worker.number ≡ l.fn.self.number;
  runs : RunsOn (g.D.Desk.meaning l.desk) l.fn.self.mine l.worker.mine;
}
