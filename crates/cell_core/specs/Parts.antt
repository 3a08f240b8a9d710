-- A machine in memory, as clauses see it: the loop's part, the hall, and what the workers hold.
use Rattle.std.specs.Prelude.{List}
use Rattle.hall_core.specs.Meant.{ServedHall}
use Rattle.cell_loop.specs.declared.loop_part.LoopPart.{LoopPart}
use Rattle.cell_core.specs.declared.worker.Holding.{Holding}
use Rattle.cell_core.specs.declared.machine.Machine.{Machine}

-- the loop's part, the hall as it is seen, and what each worker holds
pub record Parts : Type 0 where
  pub part : LoopPart
  pub hall : ServedHall
  pub workers : List Holding

-- the parts of a machine in memory
abbrev pub parts_of : {H J : Type 0} → Machine H J → Parts
parts_of m = record { part = m.part; hall = m.hall; workers = m.workers.items }
