use Rattle.cell_core.specs.declared.stop.RunStop.{RunStop}
use Rattle.cell_core.specs.declared.stop.RunStop.TheVariants.{NoMemory}
use Rattle.std.proofs.Common.{length, refl, ap}
use Rattle.cell_loop.specs.LoopMoves.{AnySetting}
use Rattle.cell_core.specs.Parts.{parts_of}
use Rattle.cell_core.specs.Machines.{StopsMachine}
use Rattle.cell_core.proofs.PassRounds.{on_same}
use Rattle.cell_core.proofs.Lines.{opening_line, opening_stops}
use Rattle.cell_core.proofs.machine.Machine.open_next.Goals as goal

pub returns-in_err-open-clause-err : goal.returns-in_err-open-clause-err
returns-in_err-open-clause-err g c =
    on_same c.from_residual.result
    (λ (stop : RunStop). StopsMachine AnySetting (parts_of c.args.self.now) (record { part = c.open.new.self; hall = c.args.self.now.hall; workers = c.args.self.now.workers.items }) stop)
    NoMemory c.from_residual.ensures.1
    (opening_stops c.open.new.self (parts_of c.args.self.now) c.in_err-open.ensures.room (ap (λ v. length v.items) c.in_err-open.ensures.feeds) NoMemory refl c.in_err-open.ensures.err)

pub returns-clause-done : goal.returns-clause-done
returns-clause-done g c =
    opening_line c.open.new.self (parts_of c.args.self.now) c.in_ok-open.ensures.room (ap (λ v. length v.items) c.in_ok-open.ensures.feeds) c.in_ok-open.field-0
    (λ s one other reached comes. c.moves_are_reached.ensures.opening s one other reached comes) c.in_ok-open.ensures.moved
