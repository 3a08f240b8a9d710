-- What a rehearsal in memory comes to.
use Rattle.std.specs.Prelude.{◌≡◌, ◌≢◌, ◌⊎◌, ℕ, zero, suc, Option, List, [], ◌∷◌, ◌++◌, replicate, slice_get, slice_index_or, slice_set, Some}
use Rattle.streams.specs.declared.marks.Mark.{Mark}
use Rattle.streams.specs.declared.marks.Mark.TheVariants.{Wrote}
use Rattle.streams.specs.Cause.{Rose}
use Rattle.host_model.specs.Marks.{marks_of, output}
use Rattle.host_model.specs.Journal.{after}
use Rattle.host_model.specs.declared.cause.EndCause.{EndCause}
use Rattle.host_model.specs.declared.cause.EndCause.TheVariants.{Stopped, NoMemory}
use Rattle.call_rules.specs.Entries.{CallEntry}
use Rattle.call_rules.specs.Handling.{ServiceState, handler_rules}
use Rattle.machine_model.specs.Loop.{Loop}
use Rattle.machine_model.specs.Machine.{MachineEvent, EventsLead, IsFirst, HaveAllEnded}
use Rattle.machine_model.specs.SeenHall.{MayHave}
use Rattle.machine_model.specs.AtFronts.{IsBounded}
use Rattle.machine_model.specs.Bounds.{NoneIsLeftBehind}
use Rattle.script_model.specs.ScriptLines.{ScriptPlan}
use Rattle.script_model.specs.Playing.{MemoryAt, always_ample}
use Rattle.script_model.specs.Rehearsing.{IsRehearsalOf, workers_among}
use Rattle.script_model.specs.Fed.{IsFedBy}
use Rattle.script_model.specs.Showing.{IsRehearsedTo}
use Rattle.cell_loop.specs.declared.loop_part.LoopPart.{LoopPart}
use Rattle.cell_core.specs.declared.worker.Holding.{Holding}
use Rattle.cell_core.specs.declared.worker.Holding.TheVariants.{Idle}
use Rattle.cell_loop.specs.Feeds.{AreFreshFeeds}
use Rattle.cell_loop.specs.Settings.{CellSetting, ServedCell, desk_of_setting}
use Rattle.cell_loop.specs.Stops.{stops_of, IsStopped}

-- What is seen of a run after its end: the tape, the causes, what the journal tells, the services, and the journal's count of faults before the run and then.
pub record SeenRun : Type 0 where
  pub tape : List Mark
  pub causes : List EndCause
  pub told : Option (List CallEntry)
  pub services : List ServiceState
  pub faults_before : ℕ
  pub faults : ℕ

-- a machine that looks so after its end
pub record ShowsRun (run : SeenRun) (last : ServedCell) : Type 0 where
  pub tape : last.loop.tape ≡ run.tape
  pub ended : HaveAllEnded last.loop run.causes
  pub told : MayHave run.told last.hall.journal
  pub services : last.hall.memories ≡ run.services

-- It is a run of the machine from its opening to where it came to its end or stopped, by when no connection was given up while its payload was under way; after
-- that each connection that was open is stopped, by rising number. At each front of its tape no more connections are open, and no more bytes are admitted, than
-- may be. Unless the journal's count rose, the services have the memories after the journal.
pub record IsSeenRun (s : CellSetting) (run : SeenRun) : Type 0 where
  pub first : ServedCell
  pub stop : ServedCell
  pub last : ServedCell
  pub events : List MachineEvent
  pub is_first : IsFirst s.opening first
  pub lead : EventsLead (desk_of_setting s) handler_rules first events stop
  pub stops : EventsLead (desk_of_setting s) handler_rules stop (stops_of stop.loop) last
  pub none_left : NoneIsLeftBehind stop.loop
  pub looks : ShowsRun run last
  pub stopped : IsStopped stop.loop run.tape run.causes
  pub bounded : (front back : List Mark) → run.tape ≡ front ++ back → IsBounded s.desk.max_frame s.budget front
  pub services : (Rose run.faults_before run.faults → ⊥) → run.services ≡ after handler_rules s.opening last.hall.journal

-- It is the rehearsal of a script, however memory was at its moves, and the script feeds it. None of its connections has ended since the host stopped; and
-- where none has ended for want of memory, it is the one that shows with ample memory.
pub record IsSeenRehearsal (s : CellSetting) (script : ScriptPlan) (run : SeenRun) : Type 0 where
  pub first : ServedCell
  pub last : ServedCell
  pub memory : ℕ → MemoryAt
  pub wants : ℕ
  pub is_first : IsFirst s.opening first
  pub rehearsed : IsRehearsalOf (desk_of_setting s) handler_rules memory s.budget s.workers script wants first last
  pub looks : ShowsRun run last
  pub fed : IsFedBy (desk_of_setting s) s.budget script run.tape last.hall.journal
  pub none_stopped : (c : ℕ) → slice_get run.causes c ≢ Some Stopped
  pub with_ample : ((c : ℕ) → slice_get run.causes c ≢ Some NoMemory)
      → IsRehearsedTo (desk_of_setting s) handler_rules s.opening always_ample s.budget s.workers script 0 run.tape last.hall.journal run.causes

-- The stops of a cell's open connections lead to one with this tape whose connections have ended so, and whose hall is the same.
pub record LeadsToEnd (s : CellSetting) (cell : ServedCell) (tape : List Mark) (causes : List EndCause) : Type 0 where
  pub loop : Loop
  pub lead : EventsLead (desk_of_setting s) handler_rules cell (stops_of cell.loop) (record cell { loop = loop })
  pub same_tape : loop.tape ≡ tape
  pub ended : HaveAllEnded loop causes

-- the loop's part of a script, before its first line
pub record IsOpenedPart (budget : ℕ) (script : ScriptPlan) (part : LoopPart) : Type 0 where
  pub table : part.table ≡ record { budget = budget; slots = [] }
  pub tape : part.tape.items ≡ []
  pub stages : part.stages.items ≡ []
  pub ends : part.ends.items ≡ []
  pub feeds : AreFreshFeeds script.rules part.feeds.items

-- as many workers as move, each without a job
abbrev pub AreFirstWorkers : ℕ → List Holding → Type 0
AreFirstWorkers workers all = all ≡ replicate (workers_among workers) Idle

-- what the tape says was written to connections from number c on, of which there are so many
abbrev pub written_from : List Mark → ℕ → ℕ → List (List ℕ)
written_from tape c zero = []
written_from tape c (suc n) = output (marks_of c tape) ∷ written_from tape (suc c) n

-- what it says was written to each of so many
abbrev pub AreWritten : ℕ → List Mark → List (List ℕ) → Type 0
AreWritten count tape outs = outs ≡ written_from tape 0 count

-- the same, or nothing is handed back, where there was no memory for it
abbrev pub AreWrittenOrNone : ℕ → List Mark → List (List ℕ) → Type 0
AreWrittenOrNone count tape outs = AreWritten count tape outs ⊎ (outs ≡ [])

-- what was written to each after one mark more
abbrev pub rows_behind : List (List ℕ) → Mark → List (List ℕ)
rows_behind rows (Wrote c bytes) = slice_set rows c (slice_index_or rows c [] ++ bytes)
rows_behind rows _ = rows
