-- What a worker's step is, of whichever play the hall is tied to.
use Rattle.std.specs.Prelude.{◌≡◌, ℕ, ◌≤◌, true, length}
use Rattle.streams.specs.Cause.{Rose}
use Rattle.call_rules.specs.Desks.{DeskMeaning, longest_payload}
use Rattle.call_rules.specs.Handling.{handler_rules}
use Rattle.machine_model.specs.Machine.{with_worker, applies, Steps}
use Rattle.machine_model.specs.SeenHall.{MayHave}
use Rattle.hall_core.specs.Meant.{ServedHall}
use Rattle.cell_core.specs.declared.worker.Holding.{Holding}
use Rattle.cell_core.specs.declared.turn.Stepped.{Stepped}
use Rattle.cell_core.specs.declared.turn.Stepped.TheVariants.{Idle, Moves, Fails}
use Rattle.cell_loop.specs.Settings.{CellSetting, ServedCell, ServedPlay, HallInCell, desk_of_setting}
use Rattle.cell_loop.specs.Moving.{HasNoMove, GoesTo, one_of_worker}
use Rattle.cell_core.specs.HallTied.{IsHallTied, plain_worker, KnowsItsCall}
use Rattle.cell_loop.specs.Reached.{IsReached}

-- the hall's journal has failed at a call: its service is a call ahead of the journal, whose entries are as before, and its count rose
pub record IsHallTorn (old new : ServedHall) (hall : HallInCell) : Type 0 where
  pub told : MayHave new.told hall.journal
  pub memories : hall.memories ≡ new.memories
  pub torn : new.broken ≡ true
  pub rose : Rose old.faults new.faults

-- What a worker's step makes of a play whose worker w held the old, by what it came to.
abbrev pub TurnMakes : CellSetting → ℕ → ServedPlay → ServedHall → ServedHall → Holding → Stepped → Type 0
TurnMakes s w play old new worker Idle =
    HasNoMove (one_of_worker s w) play × IsHallTied new play.cell.hall × (play.cell.workers w ≡ plain_worker worker) × KnowsItsCall s.desk worker
TurnMakes s w play old new worker Moves =
    GoesTo (one_of_worker s w) (λ next. IsHallTied new next.cell.hall × KnowsItsCall s.desk worker
    × (next.cell ≡ record play.cell { hall = next.cell.hall; workers = with_worker play.cell.workers w (plain_worker worker) })
    × (next.unread ≡ play.unread) × (next.finish ≡ play.finish) × (next.rules ≡ play.rules) × (next.admitted ≡ play.admitted)) play
TurnMakes s w play old new worker Fails =
    (cell : ServedCell) × Steps (desk_of_setting s) handler_rules play.cell (applies w) cell × (cell.loop ≡ play.cell.loop) × IsHallTorn old new cell.hall

-- a worker that may make a step: in some play that is reached, it holds this, and the hall is that play's
pub record MayTurn (desk : DeskMeaning) (hall : ServedHall) (worker : Holding) : Type 0 where
  pub setting : CellSetting
  pub play : ServedPlay
  pub w : ℕ
  pub desk_is : setting.desk ≡ desk
  pub slots : desk.slots ≡ length setting.opening
  pub max : desk.max_frame ≤ longest_payload
  pub reached : IsReached setting play
  pub hall_tied : IsHallTied hall play.cell.hall
  pub holds : play.cell.workers w ≡ plain_worker worker
  pub known : KnowsItsCall desk worker
