-- What each move of the loop's part is, of whichever play it is tied to.
use Rattle.std.specs.Prelude.{◌≡◌, ℕ, Bool, false, Some, List, [], ◌∷◌, ◌++◌, map, length, slice_get, slice_index_or}
use Rattle.streams.specs.declared.outcomes.Settled.{Settled}
use Rattle.host_model.specs.declared.key.Key.{Key}
use Rattle.host_model.specs.declared.cause.EndCause.{EndCause}
use Rattle.host_model.specs.declared.cause.EndCause.TheVariants.{Stopped}
use Rattle.call_rules.specs.Handling.{handler_rules}
use Rattle.machine_model.specs.HallState.{JobOutcome, key_of}
use Rattle.machine_model.specs.HallRule.{job_of, outcome_of}
use Rattle.machine_model.specs.Loop.{Loop}
use Rattle.machine_model.specs.Machine.{EventsLead, HaveAllEnded}
use Rattle.cell_loop.specs.declared.loop_part.CellStage.{CellStage}
use Rattle.cell_loop.specs.declared.loop_part.CellStage.TheVariants.{Lean, Over}
use Rattle.cell_loop.specs.declared.loop_part.LoopPart.{LoopPart}
use Rattle.cell_loop.specs.Settings.{CellSetting, ServedCell, ServedPlay, desk_of_setting}
use Rattle.cell_loop.specs.Moving.{Doing, GoesTo, GoesOrStays, one_of_conn, one_of_outcome}
use Rattle.cell_loop.specs.LoopTied.{IsLoopTied, HasRoomToClose}
use Rattle.cell_loop.specs.Stops.{if_open, stop_of, stops_of}

-- the loop's part between two moves
pub record IsLoopUnderWay (part : LoopPart) : Type 0 where
  pub setting : CellSetting
  pub play : ServedPlay
  pub tied : IsLoopTied setting part play
  pub room : HasRoomToClose part

-- a play whose hall and workers are those of another
abbrev pub HasSameHall : ServedPlay → ServedPlay → Type 0
HasSameHall old new = (new.cell.hall ≡ old.cell.hall) × (new.cell.workers ≡ old.cell.workers)

-- whichever play the loop's part was tied to, it stays tied to it
abbrev pub StaysTied : LoopPart → LoopPart → Type 0
StaysTied old new = (s : CellSetting) (play : ServedPlay) → IsLoopTied s old play → IsLoopTied s new play

-- Whichever play the loop's part was tied to, this is done with it, or there is no such move; hall and workers have no part in it.
abbrev pub LoopMoves : (CellSetting → Type 0) → (CellSetting → Doing) → LoopPart → Bool → LoopPart → Type 0
LoopMoves with_setting doing old moved new =
    (s : CellSetting) (play : ServedPlay) → with_setting s → IsLoopTied s old play
    → GoesOrStays (doing s) (λ next. IsLoopTied s new next × HasSameHall play next) play moved

-- any setting will do
abbrev pub AnySetting : CellSetting → Type 0
AnySetting s = Unit {0}

-- one in which the longest payload is this
abbrev pub HasLongest : ℕ → CellSetting → Type 0
HasLongest max s = s.desk.max_frame ≡ max

-- A payload of connection c is handed out under this number: the move submits it, to a hall that is open.
abbrev pub GivesOut : ℕ → ℕ → List ℕ → LoopPart → LoopPart → Type 0
GivesOut c i payload old new =
    (s : CellSetting) (play : ServedPlay) → IsLoopTied s old play → play.cell.hall.closed ≡ false
    → ((play.cell.loop.conns c).submitted ≡ i) × (slice_get (play.cell.loop.conns c).payloads i ≡ Some payload)
    × GoesTo (one_of_conn s c) (λ next. IsLoopTied s new next × (next.cell.workers ≡ play.cell.workers)
    × (next.cell.hall ≡ record play.cell.hall { jobs = play.cell.hall.jobs ++ job_of (key_of c i) payload ∷ [] })) play

-- An outcome of connection c is taken: the oldest one is collected.
abbrev pub TakesOutcome : Key → Settled → LoopPart → LoopPart → Type 0
TakesOutcome key settled old new =
    (s : CellSetting) (play : ServedPlay) (later : List JobOutcome) → IsLoopTied s old play → play.cell.hall.outcomes ≡ outcome_of key settled ∷ later
    → GoesTo (one_of_outcome s) (λ next. IsLoopTied s new next × (next.cell.workers ≡ play.cell.workers)
    × (next.cell.hall ≡ record play.cell.hall { outcomes = later })) play

-- a connection has ended, and is gone
abbrev pub StandIsOver : CellStage → Type 0
StandIsOver (Over cause) = Unit {0}
StandIsOver _ = ⊥

-- Whichever play the loop's part was tied to, these numbers of its loop are stopped: the events lead from its cell to that of one which it is tied to now; hall
-- and workers have no part in it.
abbrev pub LoopStops : (Loop → List ℕ) → LoopPart → LoopPart → Type 0
LoopStops numbers old new =
    (s : CellSetting) (cell : ServedCell) (play : ServedPlay) → IsLoopTied s old play → cell.loop ≡ play.cell.loop
    → (next : ServedPlay) × EventsLead (desk_of_setting s) handler_rules cell (map stop_of (numbers cell.loop)) (record cell { loop = next.cell.loop }) × IsLoopTied s new next

-- Connection c has ended now, by a stop where it was open; and as many are known as before, of which those that had ended still have.
pub record StopsOne (c : ℕ) (old new : LoopPart) : Type 0 where
  pub stops : LoopStops (λ loop. if_open (loop.conns c).cause c) old new
  pub count : length new.stages.items ≡ length old.stages.items
  pub over : StandIsOver (slice_index_or new.stages.items c Lean)
  pub by_a_stop : (StandIsOver (slice_index_or old.stages.items c Lean) → ⊥) → slice_index_or new.stages.items c Lean ≡ Over Stopped
  pub others : (x : ℕ) → StandIsOver (slice_index_or old.stages.items x Lean) → StandIsOver (slice_index_or new.stages.items x Lean)

-- Each connection that was opened has ended, by the cause at its number, and the table is empty.
pub record AreAllOver (part : LoopPart) (causes : List EndCause) : Type 0 where
  pub count : length causes ≡ length part.stages.items
  pub each : (c : ℕ) (cause : EndCause) → slice_get causes c ≡ Some cause → slice_get part.stages.items c ≡ Some (Over cause)

-- A loop of the machine that has ended everywhere, and has this tape.
pub record IsEndedLoop (part : LoopPart) (loop : Loop) : Type 0 where
  pub tape : loop.tape ≡ part.tape.items
  pub causes : List EndCause
  pub over : AreAllOver part causes
  pub ended : HaveAllEnded loop causes

-- Whichever play the loop's part was tied to, the stops of its open connections, by rising number, lead from its cell to one of which each connection has
-- ended; hall and workers have no part in it.
abbrev pub StopsAll : LoopPart → LoopPart → Type 0
StopsAll old new =
    (s : CellSetting) (cell : ServedCell) (play : ServedPlay) → IsLoopTied s old play → cell.loop ≡ play.cell.loop
    → (loop : Loop) × EventsLead (desk_of_setting s) handler_rules cell (stops_of cell.loop) (record cell { loop = loop }) × IsEndedLoop new loop
