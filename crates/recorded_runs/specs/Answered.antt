-- What an answered recording says of its input and its output.
use Rattle.std.specs.Prelude.{◌≡◌, ◌≢◌, ℕ, ◌<◌, true, List, ◌++◌, Option, Some, Result, slice_get}
use Rattle.streams.specs.declared.marks.Mark.{Mark}
use Rattle.host_model.specs.declared.cause.EndCause.{EndCause}
use Rattle.host_model.specs.declared.cause.EndCause.TheVariants.{Stopped, NoMemory}
use Rattle.host_model.specs.Headline.{Headline}
use Rattle.call_rules.specs.Entries.{CallEntry}
use Rattle.call_rules.specs.Desks.{DeskMeaning, desk_rules}
use Rattle.call_rules.specs.Handling.{ServiceState, handler_rules}
use Rattle.machine_model.specs.AtFronts.{IsBounded}
use Rattle.script_model.specs.ScriptLines.{ScriptPlan, openings}
use Rattle.script_model.specs.Playing.{always_ample}
use Rattle.script_model.specs.Fed.{IsFedBy}
use Rattle.script_model.specs.Showing.{IsRehearsedTo}
use Rattle.script_model.specs.Failing.{EndsByItsPieces}
use Rattle.script_text.specs.Reading.{script_of_text}
use Rattle.recorded_runs.specs.declared.fault.ServingFault.{ServingFault}
use Rattle.recorded_runs.specs.Recorded.{Streams, ScriptReading, ReportsRunOf, IsReportOfInput, MeansRecorded}

-- What answers: a desk, the services as they were before, how many workers were asked for, and the read budget; and the line of an entry.
pub record Answering : Type 0 where
  pub desk : DeskMeaning
  pub services : List ServiceState
  pub workers : ℕ
  pub budget : ℕ
  pub line : CallEntry → List ℕ

-- no connection has ended by this cause
abbrev pub HasNone : EndCause → List EndCause → Type 0
HasNone cause causes = (c : ℕ) → slice_get causes c ≢ Some cause

-- A run of a script: its tape, journal and causes meet the headline; the script feeds it; at no point were more connections open, or more bytes admitted, than
-- may be; and no connection has ended since the host stopped. Each that the script opens has ended; one that nothing lets fail, for want of memory or by what its
-- pieces decide. Where none has ended for want of memory, it is the one that the script determines.
pub record IsRunOfScript (a : Answering) (script : ScriptPlan) (tape : List Mark) (journal : List CallEntry) (causes : List EndCause) : Type 0 where
  pub headline : Headline (desk_rules a.desk) handler_rules a.services tape journal causes
  pub fed : IsFedBy (desk_rules a.desk) a.budget script tape journal
  pub bounded : (front back : List Mark) → tape ≡ front ++ back → IsBounded a.desk.max_frame a.budget front
  pub none_stopped : HasNone Stopped causes
  pub ends : (c : ℕ) → c < openings script.lines → EndsByItsPieces (desk_rules a.desk) script causes c
  pub determined : HasNone NoMemory causes
      → IsRehearsedTo (desk_rules a.desk) handler_rules a.services always_ample a.budget a.workers script 0 tape journal causes

-- A journal tells the entries of a run at this desk, by the services from the memories that they had: with some tape and some causes they meet the headline.
pub record TellsSomeRun (a : Answering) (told : Option (List CallEntry)) : Type 0 where
  pub tape : List Mark
  pub journal : List CallEntry
  pub causes : List EndCause
  pub told_so : told ≡ Some journal
  pub headline : Headline (desk_rules a.desk) handler_rules a.services tape journal causes

-- the text is the report of a run of the script
abbrev pub ReportsScript : Answering → ScriptPlan → List ℕ → Type 0
ReportsScript a script text = ReportsRunOf (IsRunOfScript a) a.line script text

-- the text of an input is read as a script for these workers, with lines of a schedule, or has a first fault
abbrev pub script_for : Answering → ScriptReading
script_for a = script_of_text a.workers true true

-- The input was a script, read to its end, and this is the report of a run of it.
abbrev pub IsReportOf : Answering → Streams → List ℕ → Type 0
IsReportOf a s report = IsReportOfInput (script_for a) (IsRunOfScript a) a.line s report

-- what a result says of them
abbrev pub MeansAnswered : {A : Type 0} → Answering → Result A ServingFault → Streams → Type 0
MeansAnswered a result s = MeansRecorded (script_for a) (IsRunOfScript a) a.line result s
