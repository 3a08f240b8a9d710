-- Reports of one connection alone, on what arrives on it.
use Rattle.std.specs.Prelude.{ℕ, List}
use Rattle.script_model.specs.Arrival.{Arrival}
use Rattle.script_model.specs.Rehearsal.{is_scripted, IsReportOfOneConnection}
use Rattle.call_rules.specs.Desks.{desk_rules}
use Rattle.call_rules.specs.Handling.{handler_rules}
use Rattle.recorded_runs.specs.Answered.{Answering}

-- the text is the report of a run on what arrived, whose tape, journal and cause meet the headline
abbrev pub ReportsRun : Answering → Arrival → List ℕ → Type 0
ReportsRun a arrival text = IsReportOfOneConnection (desk_rules a.desk) handler_rules a.services is_scripted a.line arrival text
