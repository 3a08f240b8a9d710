-- Steps on the way to an answered recording. No part of the promise: no public clause cites them.
use Rattle.std.specs.Prelude.{◌≡◌, ◌⊎◌, ℕ, List, take, Option, Result, MatchResult}
use Rattle.streams.specs.Content.{told_more}
use Rattle.call_rules.specs.Entries.{CallEntry}
use Rattle.script_model.specs.ScriptLines.{ScriptPlan}
use Rattle.run_report.specs.declared.fault.ReportFault.{ReportFault}
use Rattle.run_report.specs.declared.fault.ReportFault.TheVariants as report
use Rattle.script_text.specs.declared.fault.ScriptFault.{ScriptFault}
use Rattle.script_text.specs.declared.fault.ScriptKind.{ScriptKind}
use Rattle.script_text.specs.declared.fault.ScriptKind.TheVariants as kinds
use Rattle.recorded_runs.specs.declared.fault.ServingFault.{ServingFault}
use Rattle.recorded_runs.specs.declared.fault.ServingFault.TheVariants as faults
use Rattle.recorded_runs.specs.declared.input.InputError.{InputError}
use Rattle.recorded_runs.specs.declared.input.InputError.TheVariants as input
use Rattle.recorded_runs.specs.Recorded.{ScriptRuns, ReportsRunOf}

-- the fault of an input that isn't read
abbrev pub fault_of_input : InputError → ServingFault
fault_of_input input.Failed = faults.ReadFault
fault_of_input input.NoMemory = faults.NoMemory

-- the fault of a text that isn't read as a script, by its kind
abbrev pub fault_of_kind : ScriptFault → ScriptKind → ServingFault
fault_of_kind fault kinds.NoMemory = faults.NoMemory
fault_of_kind fault _ = faults.NoScript fault

-- the fault of such a text
abbrev pub fault_of_script : ScriptFault → ServingFault
fault_of_script fault = fault_of_kind fault fault.kind

-- of a report that isn't written whole
abbrev pub fault_of_report : ReportFault → ServingFault
fault_of_report report.Failed = faults.WriteFault
fault_of_report report.NoMemory = faults.NoMemory

module _ (IsRunOf : ScriptRuns) (line : CallEntry → List ℕ) where
  -- the report of a run of a script was written
  abbrev pub WritesReport : ScriptPlan → (taken_before taken : Option (List ℕ)) → Type 0
  WritesReport script taken_before taken = (text : List ℕ) × ReportsRunOf IsRunOf line script text × (taken ≡ told_more taken_before text)

  -- a beginning of such a report was written
  abbrev pub WritesReportInPart : ScriptPlan → (taken_before taken : Option (List ℕ)) → Type 0
  WritesReportInPart script taken_before taken =
      (text : List ℕ) × (front : ℕ) × ReportsRunOf IsRunOf line script text × (taken ≡ told_more taken_before (take front text))

  -- what is known of the output where no whole report is written
  abbrev pub EndsReport : ServingFault → ScriptPlan → (taken_before taken : Option (List ℕ)) → Type 0
  EndsReport faults.WriteFault script taken_before taken = WritesReportInPart script taken_before taken
  EndsReport faults.JournalFault script taken_before taken = taken ≡ taken_before
  EndsReport faults.NoMemory script taken_before taken = (taken ≡ taken_before) ⊎ WritesReportInPart script taken_before taken
  EndsReport _ script taken_before taken = ⊥

  -- what serving and reporting came to
  abbrev pub ReportsServed : {A : Type 0} → ScriptPlan → (taken_before taken : Option (List ℕ)) → Result A ServingFault → Type 0
  ReportsServed script taken_before taken result =
      MatchResult result (λ _. WritesReport script taken_before taken) (λ fault. EndsReport fault script taken_before taken)
