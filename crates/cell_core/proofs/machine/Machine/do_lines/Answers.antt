use Rattle.std.proofs.Common.{length, map, drop}
use Rattle.cell_core.specs.declared.stop.RunStop.{RunStop}
use Rattle.script_text.specs.Plans.{plain_line}
use Rattle.cell_loop.specs.Moving.{all_lines}
use Rattle.cell_core.specs.Parts.{parts_of}
use Rattle.cell_core.specs.Machines.{HasCrew, StopsMachine}
use Rattle.cell_core.proofs.Rounds.{sets_out}
use Rattle.cell_core.proofs.PassRounds.{crew_on, on_same}
use Rattle.cell_core.proofs.Lines.{good_now, lines_round, lines_stop, last_ok, last_err}
use Rattle.cell_core.proofs.machine.Machine.do_lines.Goals as goal

pub lines-init : goal.lines-init
lines-init g c = sets_out (HasCrew (g.D.Desk.meaning c.args.desk.now) (length c.args.self.now.workers.items)) (λ s. all_lines s (map plain_line c.args.lines.now)) (parts_of c.args.self.now) c.requires.under_way.2.room

pub do_line-requires-clause-under_way : goal.do_line-requires-clause-under_way
do_line-requires-clause-under_way g c κs within =
    crew_on (g.D.Desk.meaning c.args.desk.now) (λ s. all_lines s (map plain_line c.args.lines.now)) (λ s. all_lines s (drop c.lines.line-index (map plain_line c.args.lines.now)))
    (parts_of c.args.self.now) (parts_of c.lines.self) c.lines.invariant c.requires.under_way

pub do_line-requires-clause-good : goal.do_line-requires-clause-good
do_line-requires-clause-good g c κs within =
    good_now plain_line c.args.lines.now (parts_of c.args.self.now) (parts_of c.lines.self) c.lines.line-index c.line-item.result c.lines.invariant.kept c.lines-test.true c.line-item.is c.requires.good

pub returns-in_err-do_line-clause-err : goal.returns-in_err-do_line-clause-err
returns-in_err-do_line-clause-err g c =
    on_same c.from_residual.result (λ (stop : RunStop). StopsMachine (HasCrew (g.D.Desk.meaning c.args.desk.now) (length c.args.self.now.workers.items)) (parts_of c.args.self.now) (parts_of c.do_line.new.self) stop)
    c.in_err-do_line.field-0.0 c.from_residual.ensures.1
    (lines_stop plain_line c.args.lines.now (g.D.Desk.meaning c.args.desk.now) c.lines.line-index (parts_of c.args.self.now) (parts_of c.lines.self) (parts_of c.do_line.new.self) c.lines.invariant
    c.in_err-do_line.field-0.0 c.in_err-do_line.ensures.err)

pub lines-preserved : goal.lines-preserved
lines-preserved g c =
    lines_round plain_line c.args.lines.now (g.D.Desk.meaning c.args.desk.now) c.lines.line-index (parts_of c.args.self.now) (parts_of c.lines.self) (parts_of c.do_line.new.self) c.lines.invariant
    c.line-item.result c.lines-test.true c.line-item.is c.in_ok-do_line.ensures.done

pub drain-requires-clause-under_way : goal.drain-requires-clause-under_way
drain-requires-clause-under_way g c κs within =
    crew_on (g.D.Desk.meaning c.args.desk.now) (λ s. all_lines s (map plain_line c.args.lines.now)) (λ s. all_lines s (drop c.lines.line-index (map plain_line c.args.lines.now)))
    (parts_of c.args.self.now) (parts_of c.lines.self) c.lines.invariant c.requires.under_way

pub returns-clause-done : goal.returns-clause-done
returns-clause-done g c =
    last_ok plain_line c.args.lines.now (g.D.Desk.meaning c.args.desk.now) c.lines.line-index (parts_of c.args.self.now) (parts_of c.lines.self) (parts_of c.drain.new.self) c.lines.invariant
    c.drain.result c.lines-test.false c.drain.ensures.done

pub returns-clause-err : goal.returns-clause-err
returns-clause-err g c =
    last_err plain_line c.args.lines.now (g.D.Desk.meaning c.args.desk.now) c.lines.line-index (parts_of c.args.self.now) (parts_of c.lines.self) (parts_of c.drain.new.self) c.lines.invariant
    c.drain.result c.drain.ensures.err
