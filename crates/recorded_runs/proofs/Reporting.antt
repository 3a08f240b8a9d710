-- A report that was written, or a beginning of it.
use Rattle.std.proofs.Common.{◌≡◌, ℕ, List, Option, take, refl, ap, ◌∙◌, inr}
use Rattle.std.specs.Prelude.{◌≢◌, Result, Err}
use Rattle.streams.specs.Content.{told_more}
use Rattle.streams.specs.declared.marks.Mark.{Mark}
use Rattle.host_model.specs.declared.cause.EndCause.{EndCause}
use Rattle.host_model.specs.Report.{report}
use Rattle.call_rules.specs.Entries.{CallEntry}
use Rattle.script_model.specs.ScriptLines.{ScriptPlan}
use Rattle.run_report.specs.declared.fault.ReportFault.{ReportFault}
use Rattle.run_report.specs.declared.fault.ReportFault.TheVariants.{Failed, NoMemory}
use Rattle.recorded_runs.specs.declared.fault.ServingFault.{ServingFault}
use Rattle.recorded_runs.specs.declared.fault.ServingFault.TheVariants.{WriteFault}
use Rattle.recorded_runs.specs.Recorded.{ScriptRuns, ReportsRunOf}
use Rattle.recorded_runs.specs.Steps.{EndsReport, fault_of_report}

module _ (IsRunOf : ScriptRuns) (line : CallEntry → List ℕ) where
  -- the report's text, from what was handed to the report
  pub text_of : (script : ScriptPlan) (tape marks : List Mark) (causes ends : List EndCause) (entries : List CallEntry)
      → marks ≡ tape → ends ≡ causes → IsRunOf script tape entries causes → ReportsRunOf IsRunOf line script (report line marks entries ends)
  text_of script tape marks causes ends entries same_tape same_causes run =
      record {
        tape = tape;
        journal = entries;
        causes = causes;
        run = run;
        printed = ap (λ (t : List Mark). report line t entries ends) same_tape ∙ ap (λ (cs : List EndCause). report line tape entries cs) same_causes;
      }

  -- a beginning of it
  pub in_part : (script : ScriptPlan) (text : List ℕ) (front : ℕ) (before now : Option (List ℕ)) (error : ReportFault) → ReportsRunOf IsRunOf line script text
      → now ≡ told_more before (take front text) → EndsReport IsRunOf line (fault_of_report error) script before now
  in_part script text front before now Failed reports is = (text, front, reports, is)
  in_part script text front before now NoMemory reports is = inr (text, front, reports, is)

-- the output's count of faults stays where the fault isn't the output's
pub count_left : {A B : Type 0} (before now : ℕ) (error : ReportFault) → (◌≢◌ {A = Result A ReportFault} (Err error) (Err Failed) → now ≡ before)
    → ◌≢◌ {A = Result B ServingFault} (Err (fault_of_report error)) (Err WriteFault) → now ≡ before
count_left before now Failed kept other = absurd (other refl)
count_left before now NoMemory kept other = kept (λ e. absurd (let never : ⊥ = cc in never))
