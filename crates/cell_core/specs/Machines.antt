-- What the machine's moves are, of whichever play it is tied to.
use Rattle.std.specs.Prelude.{◌≡◌, ℕ, ◌<◌, ◌≤◌, Bool, true, false, length}
use Rattle.call_rules.specs.Desks.{DeskMeaning}
use Rattle.script_model.specs.ScriptLines.{PlanLine, piece, input_end, input_fault, turn_of_worker}
use Rattle.script_model.specs.Rehearsing.{workers_among}
use Rattle.machine_model.specs.AtFronts.{KeepsWithin}
use Rattle.machine_model.specs.Bounds.{NoneIsLeftBehind}
use Rattle.cell_core.specs.declared.stop.RunStop.{RunStop}
use Rattle.cell_core.specs.declared.stop.RunStop.TheVariants.{JournalFault, NoMemory}
use Rattle.cell_loop.specs.Settings.{CellSetting, ServedCell, ServedPlay}
use Rattle.cell_core.specs.Parts.{Parts}
use Rattle.cell_loop.specs.Moving.{Doing, GoesTo, GoesOrStays}
use Rattle.cell_loop.specs.LoopTied.{IsLoopTied, HasRoomToClose}
use Rattle.cell_core.specs.Played.{IsPlayed, IsUnderWay}
use Rattle.cell_loop.specs.Reached.{IsRunTo}
use Rattle.cell_core.specs.TurnMoves.{IsHallTorn}
use Rattle.cell_core.specs.Work.{steps_left}

-- a machine's parts are tied to a play
abbrev pub ArePlayed : CellSetting → Parts → ServedPlay → Type 0
ArePlayed s now play = IsPlayed s now.part now.hall now.workers play

-- they are a machine between two moves, in this setting
abbrev pub AreUnderWay : CellSetting → Parts → Type 0
AreUnderWay s now = IsUnderWay s now.part now.hall now.workers

-- a machine between two moves, with some setting
abbrev pub SomeMachine : Parts → Type 0
SomeMachine now = (s : CellSetting) × AreUnderWay s now

-- the same, with some setting in which the longest payload is this
abbrev pub IsMachine : ℕ → Parts → Type 0
IsMachine max now = (s : CellSetting) × (s.desk.max_frame ≡ max) × AreUnderWay s now

-- the same, with some setting of this desk
abbrev pub IsOfDesk : DeskMeaning → Parts → Type 0
IsOfDesk desk now = (s : CellSetting) × (s.desk ≡ desk) × AreUnderWay s now

-- Whichever play the machine was tied to, with this longest payload: this is done with it, or there is no such move.
abbrev pub MachineMoves : ℕ → (CellSetting → Doing) → Parts → Bool → Parts → Type 0
MachineMoves max doing old moved new =
    (s : CellSetting) (play : ServedPlay) → s.desk.max_frame ≡ max → ArePlayed s old play → GoesOrStays (doing s) (ArePlayed s new) play moved

-- the same, with this desk
abbrev pub DeskMoves : DeskMeaning → (CellSetting → Doing) → Parts → Bool → Parts → Type 0
DeskMoves desk doing old moved new =
    (s : CellSetting) (play : ServedPlay) → s.desk ≡ desk → ArePlayed s old play → GoesOrStays (doing s) (ArePlayed s new) play moved

-- Whichever play the machine was tied to, it stays tied to it.
abbrev pub StaysPlayed : Parts → Parts → Type 0
StaysPlayed old new = (s : CellSetting) (play : ServedPlay) → ArePlayed s old play → ArePlayed s new play

-- What each move keeps, also one that breaks off: there is room for what closes the open connections, and there are as many workers and feeds.
pub record MoveKeeps (old new : Parts) : Type 0 where
  pub room : HasRoomToClose new.part
  pub workers : length new.workers ≡ length old.workers
  pub feeds : length new.part.feeds.items ≡ length old.part.feeds.items

-- A run of the machine has come to a cell whose loop the part is tied to, and at whose last call the journal has failed. The loop has kept within the budget,
-- and no connection was given up while its payload was under way.
pub record HasFailed (s : CellSetting) (old new : Parts) : Type 0 where
  pub cell : ServedCell
  pub play : ServedPlay
  pub run : IsRunTo s cell
  pub kept : KeepsWithin s.desk.max_frame s.budget cell.loop
  pub none_left : NoneIsLeftBehind cell.loop
  pub tied : IsLoopTied s new.part play
  pub same : cell.loop ≡ play.cell.loop
  pub torn : IsHallTorn old.hall new.hall cell.hall

-- Whichever play the machine was tied to, with this desk, a move more has come to that.
abbrev pub FailsAt : DeskMeaning → Parts → Parts → Type 0
FailsAt desk old new = (s : CellSetting) (play : ServedPlay) → s.desk ≡ desk → ArePlayed s old play → HasFailed s old new

-- less is to be done, where a move was made
abbrev pub IsLess : Bool → ℕ → ℕ → Type 0
IsLess true before now = now < before
IsLess false before now = now ≡ before

-- less is to be done by a machine, where a move was made
abbrev pub LeavesLess : Bool → Parts → Parts → Type 0
LeavesLess moved old new = IsLess moved (steps_left old.part old.hall old.workers) (steps_left new.part new.hall new.workers)

-- moves were made between two plays, or none
abbrev pub CountsMove : Bool → ServedPlay → ServedPlay → Type 0
CountsMove true old new = old.moves < new.moves
CountsMove false old new = new.moves ≡ old.moves

-- Whichever play the machine was tied to, with such a setting: all of this is done with it, by moves or by none.
abbrev pub MachineGoes : (CellSetting → Type 0) → (CellSetting → Doing) → Parts → Bool → Parts → Type 0
MachineGoes with_setting doing old moved new =
    (s : CellSetting) (play : ServedPlay) → with_setting s → ArePlayed s old play
    → GoesTo (doing s) (λ next. ArePlayed s new next × CountsMove moved play next) play

-- All of this is done with the machine: it keeps what each move keeps, leaves less to be done where it moved, and counts no fault of the journal.
pub record IsDone (with_setting : CellSetting → Type 0) (doing : CellSetting → Doing) (old : Parts) (moved : Bool) (new : Parts) : Type 0 where
  pub goes : MachineGoes with_setting doing old moved new
  pub kept : MoveKeeps old new
  pub less : LeavesLess moved old new
  pub count : new.hall.faults ≡ old.hall.faults

-- Whichever play the machine was tied to, with such a setting: it is tied to one that is reached.
abbrev pub StaysReached : (CellSetting → Type 0) → Parts → Parts → Type 0
StaysReached with_setting old new =
    (s : CellSetting) (play : ServedPlay) → with_setting s → ArePlayed s old play → (now : ServedPlay) × ArePlayed s new now

-- What is done with it breaks off, for want of memory, and no fault was counted.
pub record EndsEarly (with_setting : CellSetting → Type 0) (old new : Parts) : Type 0 where
  pub reached : StaysReached with_setting old new
  pub kept : MoveKeeps old new
  pub count : new.hall.faults ≡ old.hall.faults

-- the desk of a setting is this
abbrev pub HasDesk : DeskMeaning → CellSetting → Type 0
HasDesk desk s = s.desk ≡ desk

-- the desk of a setting is this, and so many workers move in it
abbrev pub HasCrew : DeskMeaning → ℕ → CellSetting → Type 0
HasCrew desk count s = (s.desk ≡ desk) × (workers_among s.workers ≡ count)

-- A run stops: for want of memory, where it is tied to a play that is reached and no fault was counted; or since the journal has failed.
abbrev pub StopsBy : (CellSetting → Type 0) → Parts → Parts → RunStop → Type 0
StopsBy with_setting old new NoMemory = StaysReached with_setting old new × (new.hall.faults ≡ old.hall.faults)
StopsBy with_setting old new JournalFault = (s : CellSetting) (play : ServedPlay) → with_setting s → ArePlayed s old play → HasFailed s old new

-- It stops so, and keeps what each move keeps.
pub record StopsMachine (with_setting : CellSetting → Type 0) (old new : Parts) (stop : RunStop) : Type 0 where
  pub by : StopsBy with_setting old new stop
  pub kept : MoveKeeps old new
  pub later : old.hall.faults ≤ new.hall.faults

-- Whichever play the machine was tied to, with such a setting: all of this is done with it, what each move keeps is kept, and no fault is counted.
pub record ComesThrough (with_setting : CellSetting → Type 0) (doing : CellSetting → Doing) (old new : Parts) : Type 0 where
  pub goes : (s : CellSetting) (play : ServedPlay) → with_setting s → ArePlayed s old play → GoesTo (doing s) (ArePlayed s new) play
  pub kept : MoveKeeps old new
  pub count : new.hall.faults ≡ old.hall.faults

-- A line that a machine with so many feeds and so many workers may do: it brings a piece of a byte at least, or an end, to a feed that there is; or it moves a
-- worker that there is.
abbrev pub IsLineFor : ℕ → ℕ → PlanLine → Type 0
IsLineFor feeds workers (piece c bytes) = (c < feeds) × (0 < length bytes)
IsLineFor feeds workers (input_end c) = c < feeds
IsLineFor feeds workers (input_fault c) = c < feeds
IsLineFor feeds workers (turn_of_worker w) = w < workers
IsLineFor feeds workers _ = Unit {0}
