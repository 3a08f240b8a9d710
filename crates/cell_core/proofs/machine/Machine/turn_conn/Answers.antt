use Rattle.std.proofs.Common.{refl}
use Rattle.cell_core.specs.declared.stop.RunStop.{RunStop}
use Rattle.cell_core.specs.declared.stop.RunStop.TheVariants.{NoMemory}
use Rattle.cell_loop.specs.LoopMoves.{HasLongest}
use Rattle.cell_core.specs.Parts.{parts_of}
use Rattle.cell_core.specs.Machines.{StopsMachine}
use Rattle.cell_core.proofs.Rounds.{early_stops, stays_early}
use Rattle.cell_core.proofs.PassRounds.{on_same}
use Rattle.cell_core.proofs.Lines.{conn_line}
use Rattle.cell_core.proofs.machine.Machine.turn_conn.Goals as goal

pub returns-in_err-conn_move-clause-err : goal.returns-in_err-conn_move-clause-err
returns-in_err-conn_move-clause-err g c =
    on_same c.from_residual.result (λ (stop : RunStop). StopsMachine (HasLongest c.args.max_frame) (parts_of c.args.self.now) (parts_of c.conn_move.new.self) stop) NoMemory c.from_residual.ensures.1
    (early_stops (HasLongest c.args.max_frame) (parts_of c.args.self.now) (parts_of c.conn_move.new.self) NoMemory refl
    (stays_early (HasLongest c.args.max_frame) (parts_of c.args.self.now) (parts_of c.conn_move.new.self) c.in_err-conn_move.ensures.err c.in_err-conn_move.ensures.kept c.in_err-conn_move.ensures.count))

pub returns-clause-done : goal.returns-clause-done
returns-clause-done g c =
    conn_line (parts_of c.args.self.now) (parts_of c.conn_move.new.self) c.in_ok-conn_move.ensures.kept c.in_ok-conn_move.ensures.count c.in_ok-conn_move.field-0 c.args.max_frame c.args.c
    c.in_ok-conn_move.ensures.moved
