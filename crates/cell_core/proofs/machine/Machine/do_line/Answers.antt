use Rattle.std.proofs.Common.{length, sym, ap, ◌∙◌}
use Rattle.script_model.specs.ScriptLines.{opening, piece, input_end, input_fault, turn_of_conn, turn_of_worker, turn_of_outcome}
use Rattle.script_text.specs.Plans.{plain_line}
use Rattle.cell_loop.specs.LoopMoves.{AnySetting, HasLongest}
use Rattle.cell_core.specs.Parts.{parts_of}
use Rattle.cell_core.specs.Machines.{HasDesk, HasCrew}
use Rattle.cell_core.proofs.PassRounds.{longest_of}
use Rattle.cell_core.proofs.Lines.{line_through, line_ok, line_err, rest_ok}
use Rattle.cell_core.proofs.machine.Machine.do_line.Goals as goal

pub returns-in-Opens-clause-done : goal.returns-in-Opens-clause-done
returns-in-Opens-clause-done g c =
    line_ok AnySetting (HasCrew (g.D.Desk.meaning c.args.desk.now) (length c.args.self.now.workers.items)) (λ s v. tt) (parts_of c.args.self.now) (parts_of c.open_next.new.self) c.open_next.result opening (plain_line c.args.line.now) (ap plain_line c.in-Opens.is) c.open_next.ensures.done

pub returns-in-Opens-clause-err : goal.returns-in-Opens-clause-err
returns-in-Opens-clause-err g c =
    line_err AnySetting (HasCrew (g.D.Desk.meaning c.args.desk.now) (length c.args.self.now.workers.items)) (λ s v. tt) (parts_of c.args.self.now) (parts_of c.open_next.new.self) c.open_next.result c.open_next.ensures.err

pub returns-in-Piece-clause-done : goal.returns-in-Piece-clause-done
returns-in-Piece-clause-done g c =
    line_ok AnySetting (HasCrew (g.D.Desk.meaning c.args.desk.now) (length c.args.self.now.workers.items)) (λ s v. tt) (parts_of c.args.self.now) (parts_of c.bring.new.self) c.bring.result (piece c.in-Piece.c c.as_slice.result.now) (plain_line c.args.line.now) (ap plain_line c.in-Piece.is ∙ ap (λ b. piece c.in-Piece.c b) (sym c.as_slice.ensures)) c.bring.ensures.done

pub returns-in-Piece-clause-err : goal.returns-in-Piece-clause-err
returns-in-Piece-clause-err g c =
    line_err AnySetting (HasCrew (g.D.Desk.meaning c.args.desk.now) (length c.args.self.now.workers.items)) (λ s v. tt) (parts_of c.args.self.now) (parts_of c.bring.new.self) c.bring.result c.bring.ensures.err

pub returns-in-Ends-clause-done : goal.returns-in-Ends-clause-done
returns-in-Ends-clause-done g c =
    line_through AnySetting (HasCrew (g.D.Desk.meaning c.args.desk.now) (length c.args.self.now.workers.items)) (λ s v. tt) (parts_of c.args.self.now) (parts_of c.end_input.new.self) (input_end c.in-Ends.c) (plain_line c.args.line.now) (ap plain_line c.in-Ends.is) c.end_input.ensures.done

pub returns-in-FailsRead-clause-done : goal.returns-in-FailsRead-clause-done
returns-in-FailsRead-clause-done g c =
    line_through AnySetting (HasCrew (g.D.Desk.meaning c.args.desk.now) (length c.args.self.now.workers.items)) (λ s v. tt) (parts_of c.args.self.now) (parts_of c.fail_input.new.self) (input_fault c.in-FailsRead.c) (plain_line c.args.line.now) (ap plain_line c.in-FailsRead.is) c.fail_input.ensures.done

pub returns-in-Rest-clause-done : goal.returns-in-Rest-clause-done
returns-in-Rest-clause-done g c =
    rest_ok (HasCrew (g.D.Desk.meaning c.args.desk.now) (length c.args.self.now.workers.items)) (parts_of c.args.self.now) (parts_of c.drain.new.self) c.drain.result (plain_line c.args.line.now) (ap plain_line c.in-Rest.is) c.drain.ensures.done

pub returns-in-Loop-clause-done : goal.returns-in-Loop-clause-done
returns-in-Loop-clause-done g c =
    line_ok (HasLongest c.args.max_frame) (HasCrew (g.D.Desk.meaning c.args.desk.now) (length c.args.self.now.workers.items)) (λ s v. longest_of (g.D.Desk.meaning c.args.desk.now) c.args.max_frame c.requires.longest s v.0) (parts_of c.args.self.now) (parts_of c.turn_conn.new.self) c.turn_conn.result (turn_of_conn c.in-Loop.c) (plain_line c.args.line.now) (ap plain_line c.in-Loop.is) c.turn_conn.ensures.done

pub returns-in-Loop-clause-err : goal.returns-in-Loop-clause-err
returns-in-Loop-clause-err g c =
    line_err (HasLongest c.args.max_frame) (HasCrew (g.D.Desk.meaning c.args.desk.now) (length c.args.self.now.workers.items)) (λ s v. longest_of (g.D.Desk.meaning c.args.desk.now) c.args.max_frame c.requires.longest s v.0) (parts_of c.args.self.now) (parts_of c.turn_conn.new.self) c.turn_conn.result c.turn_conn.ensures.err

pub returns-in-Work-clause-done : goal.returns-in-Work-clause-done
returns-in-Work-clause-done g c =
    line_ok (HasDesk (g.D.Desk.meaning c.args.desk.now)) (HasCrew (g.D.Desk.meaning c.args.desk.now) (length c.args.self.now.workers.items)) (λ s v. v.0) (parts_of c.args.self.now) (parts_of c.turn_worker.new.self) c.turn_worker.result (turn_of_worker c.in-Work.w) (plain_line c.args.line.now) (ap plain_line c.in-Work.is) c.turn_worker.ensures.done

pub returns-in-Work-clause-err : goal.returns-in-Work-clause-err
returns-in-Work-clause-err g c =
    line_err (HasDesk (g.D.Desk.meaning c.args.desk.now)) (HasCrew (g.D.Desk.meaning c.args.desk.now) (length c.args.self.now.workers.items)) (λ s v. v.0) (parts_of c.args.self.now) (parts_of c.turn_worker.new.self) c.turn_worker.result c.turn_worker.ensures.err

pub returns-in-Collect-clause-done : goal.returns-in-Collect-clause-done
returns-in-Collect-clause-done g c =
    line_through AnySetting (HasCrew (g.D.Desk.meaning c.args.desk.now) (length c.args.self.now.workers.items)) (λ s v. tt) (parts_of c.args.self.now) (parts_of c.turn_outcome.new.self) turn_of_outcome (plain_line c.args.line.now) (ap plain_line c.in-Collect.is) c.turn_outcome.ensures.done
