use Rattle.std.proofs.Common.{◌-◌, ◌<◌, ℕ, refl, sym, subst}
use Rattle.cell_core.specs.declared.stop.RunStop.{RunStop}
use Rattle.cell_loop.specs.Moving.{all_of_worker}
use Rattle.cell_core.specs.Parts.{parts_of}
use Rattle.cell_core.specs.Machines.{HasDesk, StopsMachine}
use Rattle.cell_core.proofs.Rounds.{begins}
use Rattle.cell_core.proofs.PassRounds.{machine_of, desk_on, work_round, work_puts, work_ends, work_stops, fails_so, loop_stops, on_same}
use Rattle.cell_core.proofs.machine.Machine.work_through.Goals as goal

pub tries-init : goal.tries-init
tries-init g c = begins (HasDesk (g.D.Desk.meaning c.args.desk.now)) (λ s. all_of_worker s 3 c.args.w) (parts_of c.args.self.now) c.requires.under_way.2.room

pub worker_move-requires-clause-under_way : goal.worker_move-requires-clause-under_way
worker_move-requires-clause-under_way g c κs within =
    machine_of (g.D.Desk.meaning c.args.desk.now) (g.D.Desk.meaning c.args.desk.now).max_frame (parts_of c.tries.self) refl
    (desk_on (g.D.Desk.meaning c.args.desk.now) (λ s. all_of_worker s 3 c.args.w) (λ s. all_of_worker s (3 - c.tries.tried) c.args.w) (parts_of c.args.self.now) (parts_of c.tries.self) c.tries.moved
    c.tries.invariant c.requires.under_way)

pub worker_move-requires-clause-desk : goal.worker_move-requires-clause-desk
worker_move-requires-clause-desk g c κs within =
    desk_on (g.D.Desk.meaning c.args.desk.now) (λ s. all_of_worker s 3 c.args.w) (λ s. all_of_worker s (3 - c.tries.tried) c.args.w) (parts_of c.args.self.now) (parts_of c.tries.self) c.tries.moved
    c.tries.invariant c.requires.under_way

pub worker_move-requires-clause-there : goal.worker_move-requires-clause-there
worker_move-requires-clause-there g c κs within = subst (λ (n : ℕ). c.args.w < n) (sym c.tries.invariant.kept.workers) c.requires.there

pub returns-in_err-worker_move-clause-err : goal.returns-in_err-worker_move-clause-err
returns-in_err-worker_move-clause-err g c =
    on_same c.from_residual.result (λ (stop : RunStop). StopsMachine (HasDesk (g.D.Desk.meaning c.args.desk.now)) (parts_of c.args.self.now) (parts_of c.worker_move.new.self) stop)
    c.in_err-worker_move.field-0.0 c.from_residual.ensures.1
    (loop_stops (HasDesk (g.D.Desk.meaning c.args.desk.now)) (λ s. all_of_worker s 3 c.args.w) (λ s. all_of_worker s (3 - c.tries.tried) c.args.w) (parts_of c.args.self.now) (parts_of c.tries.self)
    (parts_of c.worker_move.new.self) c.tries.moved c.in_err-worker_move.field-0.0 c.tries.invariant
    (fails_so (g.D.Desk.meaning c.args.desk.now) (parts_of c.tries.self) (parts_of c.worker_move.new.self) c.in_err-worker_move.field-0.0 c.in_err-worker_move.ensures.only
    c.in_err-worker_move.ensures.failed c.in_err-worker_move.ensures.kept c.in_err-worker_move.ensures.later))

pub returns-then-not-branch-clause-done : goal.returns-then-not-branch-clause-done
returns-then-not-branch-clause-done g c =
    work_ends (g.D.Desk.meaning c.args.desk.now) c.tries.tried c.args.w (parts_of c.args.self.now) (parts_of c.tries.self) (parts_of c.worker_move.new.self) c.tries.moved c.in_ok-worker_move.field-0
    c.tries.invariant c.tries-test.true c.in_ok-worker_move.ensures.kept c.in_ok-worker_move.ensures.count c.in_ok-worker_move.ensures.moved c.in_ok-worker_move.ensures.less cc

pub returns-then-rests-clause-done : goal.returns-then-rests-clause-done
returns-then-rests-clause-done g c =
    work_puts (g.D.Desk.meaning c.args.desk.now) c.tries.tried c.args.w (parts_of c.args.self.now) (parts_of c.tries.self) (parts_of c.worker_move.new.self) c.tries.moved c.in_ok-worker_move.field-0
    c.tries.invariant c.tries-test.true c.in_ok-worker_move.ensures.kept c.in_ok-worker_move.ensures.count c.in_ok-worker_move.ensures.moved c.in_ok-worker_move.ensures.less (cc) cc

pub tries-preserved : goal.tries-preserved
tries-preserved g c =
    work_round (g.D.Desk.meaning c.args.desk.now) c.tries.tried c.args.w (parts_of c.args.self.now) (parts_of c.tries.self) (parts_of c.worker_move.new.self) c.tries.moved c.in_ok-worker_move.field-0
    c.tries.invariant c.tries-test.true c.in_ok-worker_move.ensures.kept c.in_ok-worker_move.ensures.count c.in_ok-worker_move.ensures.moved c.in_ok-worker_move.ensures.less (cc) cc

pub returns-clause-done : goal.returns-clause-done
returns-clause-done g c =
    work_stops (g.D.Desk.meaning c.args.desk.now) c.tries.tried c.args.w (parts_of c.args.self.now) (parts_of c.tries.self) c.tries.moved c.tries-test.false c.tries.invariant
