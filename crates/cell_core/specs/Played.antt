-- A machine in memory, tied to a play that a rehearsal has come to.
use Rattle.std.specs.Prelude.{◌≡◌, ◌≤◌, List, length}
use Rattle.script_model.specs.Rehearsing.{workers_among}
use Rattle.hall_core.specs.Meant.{ServedHall}
use Rattle.cell_loop.specs.declared.loop_part.LoopPart.{LoopPart}
use Rattle.cell_core.specs.declared.worker.Holding.{Holding}
use Rattle.cell_loop.specs.Settings.{CellSetting, ServedPlay}
use Rattle.cell_loop.specs.Reached.{IsReached}
use Rattle.cell_loop.specs.LoopTied.{IsLoopTied, HasRoomToClose}
use Rattle.cell_core.specs.HallTied.{IsHallTied, AreWorkersTied}
use Rattle.call_rules.specs.Desks.{longest_payload}

-- what a machine in memory is tied to
pub record IsPlayed (s : CellSetting) (part : LoopPart) (hall : ServedHall) (workers : List Holding) (play : ServedPlay) : Type 0 where
  pub loop_tied : IsLoopTied s part play
  pub hall_tied : IsHallTied hall play.cell.hall
  pub workers_tied : AreWorkersTied s.desk workers play.cell.workers
  pub reached : IsReached s play

-- What holds of a machine between two moves, whichever play it is tied to: there is one; there are as many workers as move; the tape has room for what closes
-- the open connections; and the desk has its slots.
pub record IsUnderWay (s : CellSetting) (part : LoopPart) (hall : ServedHall) (workers : List Holding) : Type 0 where
  pub play : ServedPlay
  pub tied : IsPlayed s part hall workers play
  pub counted : length workers ≡ workers_among s.workers
  pub room : HasRoomToClose part
  pub slots : s.desk.slots ≡ length s.opening
  pub max : s.desk.max_frame ≤ longest_payload
