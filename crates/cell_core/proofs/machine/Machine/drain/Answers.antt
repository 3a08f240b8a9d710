use Rattle.std.proofs.Common.{length}
use Rattle.cell_core.specs.declared.stop.RunStop.{RunStop}
use Rattle.cell_loop.specs.Moving.{all_passes}
use Rattle.cell_core.specs.Parts.{parts_of}
use Rattle.cell_core.specs.Machines.{HasCrew, StopsMachine}
use Rattle.cell_core.proofs.Rounds.{sets_out}
use Rattle.cell_core.proofs.PassRounds.{crew_on, drain_round, drain_last, drain_stops, on_same}
use Rattle.cell_core.proofs.machine.Machine.drain.Goals as goal

pub passes-init : goal.passes-init
passes-init g c = sets_out (HasCrew (g.D.Desk.meaning c.args.desk.now) (length c.args.self.now.workers.items)) all_passes (parts_of c.args.self.now) c.requires.under_way.2.room

pub pass-requires-clause-under_way : goal.pass-requires-clause-under_way
pass-requires-clause-under_way g c κs within =
    crew_on (g.D.Desk.meaning c.args.desk.now) all_passes all_passes (parts_of c.args.self.now) (parts_of c.passes.self) c.passes.invariant c.requires.under_way

pub returns-in_err-pass-clause-err : goal.returns-in_err-pass-clause-err
returns-in_err-pass-clause-err g c =
    on_same c.from_residual.result
    (λ (stop : RunStop). StopsMachine (HasCrew (g.D.Desk.meaning c.args.desk.now) (length c.args.self.now.workers.items)) (parts_of c.args.self.now) (parts_of c.pass.new.self) stop)
    c.in_err-pass.field-0.0 c.from_residual.ensures.1
    (drain_stops (g.D.Desk.meaning c.args.desk.now) (parts_of c.args.self.now) (parts_of c.passes.self) (parts_of c.pass.new.self) c.in_err-pass.field-0.0 c.passes.invariant c.in_err-pass.ensures.err)

pub passes-preserved : goal.passes-preserved
passes-preserved g c =
    drain_round (g.D.Desk.meaning c.args.desk.now) (parts_of c.args.self.now) (parts_of c.passes.self) (parts_of c.pass.new.self) c.in_ok-pass.field-0 c.passes.invariant c.in_ok-pass.ensures.done c.if-branch.true

pub returns-clause-done : goal.returns-clause-done
returns-clause-done g c =
    drain_last (g.D.Desk.meaning c.args.desk.now) (parts_of c.args.self.now) (parts_of c.passes.self) (parts_of c.pass.new.self) c.in_ok-pass.field-0 c.passes.invariant c.in_ok-pass.ensures.done c.if-branch.false
