-- Runs of a script whose connections were served by a loop.
use Rattle.std.specs.Prelude.{◌≡◌, ℕ, ◌<◌, false, true, List, ◌++◌}
use Rattle.streams.specs.declared.marks.Mark.{Mark}
use Rattle.host_model.specs.declared.cause.EndCause.{EndCause}
use Rattle.host_model.specs.declared.cause.EndCause.TheVariants.{Stopped}
use Rattle.host_model.specs.Headline.{Headline}
use Rattle.call_rules.specs.Entries.{CallEntry}
use Rattle.call_rules.specs.Desks.{desk_rules}
use Rattle.call_rules.specs.Handling.{handler_rules}
use Rattle.machine_model.specs.AtFronts.{IsBounded}
use Rattle.script_model.specs.ScriptLines.{ScriptPlan, openings}
use Rattle.script_model.specs.Fed.{IsFedBy}
use Rattle.script_model.specs.Failing.{EndsByItsPieces}
use Rattle.script_text.specs.Reading.{script_of_text}
use Rattle.recorded_runs.specs.Recorded.{ScriptReading}
use Rattle.recorded_runs.specs.Answered.{Answering, HasNone}
use Rattle.host_loop.specs.Served.{ServerSetting}

-- the text of an input is read as a script for these workers, without lines of a schedule, or has a first fault
abbrev pub script_to_serve : Answering → ScriptReading
script_to_serve a = script_of_text a.workers false true

-- A run of a script that was served. Its tape, journal and causes meet the headline, at the desk and from the memories that the services had. The script feeds it, so that
-- its tape has the opening of each connection that the script opens. At no point were more connections open, or more bytes admitted, than may be; and no connection
-- has ended since the host stopped. Each has ended; one that nothing lets fail, for want of memory or by what its pieces decide.
pub record IsServedScript (a : Answering) (script : ScriptPlan) (tape : List Mark) (journal : List CallEntry) (causes : List EndCause) : Type 0 where
  pub headline : Headline (desk_rules a.desk) handler_rules a.services tape journal causes
  pub fed : IsFedBy (desk_rules a.desk) a.budget script tape journal
  pub bounded : (front back : List Mark) → tape ≡ front ++ back → IsBounded a.desk.max_frame a.budget front
  pub none_stopped : HasNone Stopped causes
  pub ends : (c : ℕ) → c < openings script.lines → EndsByItsPieces (desk_rules a.desk) script causes c

-- what serves
abbrev pub setting_of : Answering → ServerSetting
setting_of a = record { desk = a.desk; services = a.services; budget = a.budget }
