-- A cell that a run of the machine has come to, and a play that a rehearsal has.
use Rattle.std.specs.Prelude.{◌≤◌, List}
use Rattle.call_rules.specs.Handling.{handler_rules}
use Rattle.machine_model.specs.Machine.{MachineEvent, EventsLead, IsFirst}
use Rattle.machine_model.specs.Bounds.{NoneIsLeftBehind}
use Rattle.machine_model.specs.AtFronts.{KeepsWithin}
use Rattle.cell_loop.specs.Settings.{CellSetting, ServedCell, ServedPlay, desk_of_setting}
use Rattle.cell_loop.specs.Admitted.{AdmitsWithin}
use Rattle.call_rules.specs.Desks.{longest_payload}

-- a run of the machine from its opening has come to this cell
pub record IsRunTo (s : CellSetting) (cell : ServedCell) : Type 0 where
  pub first : ServedCell
  pub events : List MachineEvent
  pub is_first : IsFirst s.opening first
  pub lead : EventsLead (desk_of_setting s) handler_rules first events cell

-- A rehearsal has come to this play: no connection was given up while its payload was under way, payloads aren't too long, and the sizes that are admitted are
-- within the budget, as the sizes under way have been at each front of the tape.
pub record IsReached (s : CellSetting) (play : ServedPlay) : Type 0 where
  pub max : s.desk.max_frame ≤ longest_payload
  pub run : IsRunTo s play.cell
  pub none_left : NoneIsLeftBehind play.cell.loop
  pub admits : AdmitsWithin s.budget play.cell.loop play.admitted
  pub kept : KeepsWithin s.desk.max_frame s.budget play.cell.loop

-- a play that is reached, to whose cell events lead from another's
pub record IsReachedFrom (s : CellSetting) (old new : ServedPlay) : Type 0 where
  pub reached : IsReached s new
  pub events : List MachineEvent
  pub lead : EventsLead (desk_of_setting s) handler_rules old.cell events new.cell
