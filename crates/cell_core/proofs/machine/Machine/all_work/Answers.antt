use Rattle.std.proofs.Common.{◌-◌, length, arith}
use Rattle.script_model.specs.ScriptLines.{count_up}
use Rattle.cell_core.specs.declared.stop.RunStop.{RunStop}
use Rattle.cell_loop.specs.Moving.{all_of_workers, first_of_workers}
use Rattle.cell_core.specs.Parts.{parts_of}
use Rattle.cell_core.specs.Machines.{HasDesk, StopsMachine}
use Rattle.cell_core.proofs.PassRounds.{desk_on, workers_begin, workers_round, workers_last, loop_stops, on_same}
use Rattle.cell_core.proofs.machine.Machine.all_work.Goals as goal

pub workers-init : goal.workers-init
workers-init g c = workers_begin (g.D.Desk.meaning c.args.desk.now) (length c.args.self.now.workers.items) (parts_of c.args.self.now) c.requires.under_way.2.room

pub work_through-requires-clause-under_way : goal.work_through-requires-clause-under_way
work_through-requires-clause-under_way g c κs within =
    desk_on (g.D.Desk.meaning c.args.desk.now) (λ s. first_of_workers s (length c.args.self.now.workers.items))
    (λ s. all_of_workers s (count_up c.workers.w (length c.args.self.now.workers.items - c.workers.w))) (parts_of c.args.self.now) (parts_of c.workers.self) c.workers.moved c.workers.invariant c.requires.under_way

pub returns-in_err-worked-clause-err : goal.returns-in_err-worked-clause-err
returns-in_err-worked-clause-err g c =
    on_same c.from_residual.result (λ (stop : RunStop). StopsMachine (HasDesk (g.D.Desk.meaning c.args.desk.now)) (parts_of c.args.self.now) (parts_of c.work_through.new.self) stop)
    c.in_err-worked.field-0.0 c.from_residual.ensures.1
    (loop_stops (HasDesk (g.D.Desk.meaning c.args.desk.now)) (λ s. first_of_workers s (length c.args.self.now.workers.items))
    (λ s. all_of_workers s (count_up c.workers.w (length c.args.self.now.workers.items - c.workers.w))) (parts_of c.args.self.now) (parts_of c.workers.self) (parts_of c.work_through.new.self)
    c.workers.moved c.in_err-worked.field-0.0 c.workers.invariant c.in_err-worked.ensures.err)

pub workers-preserved : goal.workers-preserved
workers-preserved g c =
    workers_round (g.D.Desk.meaning c.args.desk.now) (length c.args.self.now.workers.items) c.workers.w (parts_of c.args.self.now) (parts_of c.workers.self) (parts_of c.work_through.new.self)
    c.workers.moved c.in_ok-worked.worked c.either-moved.result
    (omega (arith, c.workers-test.true, c.in-Ok.ensures, c.len.ensures))
    c.workers.invariant c.in_ok-worked.ensures.done c.either-moved.ensures

pub returns-clause-done : goal.returns-clause-done
returns-clause-done g c =
    workers_last (g.D.Desk.meaning c.args.desk.now) (length c.args.self.now.workers.items) c.workers.w (parts_of c.args.self.now) (parts_of c.workers.self) c.workers.moved
    (omega (arith, c.workers-test.false, c.in-Ok.ensures, c.len.ensures))
    c.workers.invariant
