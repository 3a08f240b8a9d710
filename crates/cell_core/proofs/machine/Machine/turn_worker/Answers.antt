use Rattle.std.proofs.Common.{refl}
use Rattle.cell_core.specs.declared.stop.RunStop.{RunStop}
use Rattle.cell_core.specs.Parts.{parts_of}
use Rattle.cell_core.specs.Machines.{HasDesk, StopsMachine}
use Rattle.cell_core.proofs.PassRounds.{on_same, machine_of, fails_so}
use Rattle.cell_core.proofs.Lines.{worker_line}
use Rattle.cell_core.proofs.machine.Machine.turn_worker.Goals as goal

pub worker_move-requires-clause-under_way : goal.worker_move-requires-clause-under_way
worker_move-requires-clause-under_way g c κs within =
    machine_of (g.D.Desk.meaning c.args.desk.now) (g.D.Desk.meaning c.args.desk.now).max_frame (parts_of c.args.self.now) refl c.requires.under_way

pub returns-in_err-worker_move-clause-err : goal.returns-in_err-worker_move-clause-err
returns-in_err-worker_move-clause-err g c =
    on_same c.from_residual.result (λ (stop : RunStop). StopsMachine (HasDesk (g.D.Desk.meaning c.args.desk.now)) (parts_of c.args.self.now) (parts_of c.worker_move.new.self) stop)
    c.in_err-worker_move.field-0.0 c.from_residual.ensures.1
    (fails_so (g.D.Desk.meaning c.args.desk.now) (parts_of c.args.self.now) (parts_of c.worker_move.new.self) c.in_err-worker_move.field-0.0 c.in_err-worker_move.ensures.only
    c.in_err-worker_move.ensures.failed c.in_err-worker_move.ensures.kept c.in_err-worker_move.ensures.later)

pub returns-clause-done : goal.returns-clause-done
returns-clause-done g c =
    worker_line (parts_of c.args.self.now) (parts_of c.worker_move.new.self) c.in_ok-worker_move.ensures.kept c.in_ok-worker_move.ensures.count c.in_ok-worker_move.field-0
    (g.D.Desk.meaning c.args.desk.now) c.args.w c.in_ok-worker_move.ensures.moved
