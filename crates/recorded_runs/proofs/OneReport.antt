-- One input has one report.
use Rattle.std.proofs.Common.{◌≡◌, ℕ, Option, Some, List, ◌++◌, sym, ap, ◌∙◌, subst, append-nil}
use Rattle.std.specs.Prelude.{None, Result, Ok}
use Rattle.std.proofs.lemmas.Option.{same_Some}
use Rattle.streams.specs.Content.{told_before, IsSpent}
use Rattle.streams.specs.declared.marks.Mark.{Mark}
use Rattle.host_model.specs.declared.cause.EndCause.{EndCause}
use Rattle.host_model.specs.declared.cause.EndCause.TheVariants.{NoMemory}
use Rattle.host_model.specs.Report.{report}
use Rattle.call_rules.specs.Desks.{desk_rules}
use Rattle.call_rules.specs.Entries.{CallEntry}
use Rattle.call_rules.specs.Handling.{handler_rules}
use Rattle.script_model.specs.ScriptLines.{ScriptPlan}
use Rattle.script_model.specs.Playing.{always_ample}
use Rattle.script_model.proofs.BarePlays.{shows_one}
use Rattle.script_text.specs.declared.fault.ScriptFault.{ScriptFault}
use Rattle.recorded_runs.specs.Recorded.{Streams}
use Rattle.recorded_runs.specs.Answered.{Answering, IsRunOfScript, IsReportOf, ReportsScript, HasNone, script_for}

-- what was read to the end is what was there
pub all_read : (input : List ℕ) (left : Option (List ℕ)) (text : List ℕ) → told_before text left ≡ Some input → IsSpent left → text ≡ input
all_read input None text e spent = absurd (let f : ⊥ = cc in f)
all_read input (Some rest) text e spent = sym (append-nil text) ∙ ap (λ r. text ++ r) (sym spent) ∙ same_Some (text ++ rest) input e

-- what a script determines is one run
pub one_run : (a : Answering) (script : ScriptPlan) (text other : List ℕ) (x : ReportsScript a script text) (y : ReportsScript a script other)
    → HasNone NoMemory x.causes → HasNone NoMemory y.causes → (x.tape ≡ y.tape) × (x.journal ≡ y.journal) × (x.causes ≡ y.causes)
one_run a script text other x y more less =
    let t = shows_one (desk_rules a.desk) handler_rules always_ample a.budget a.workers script a.services 0 0 x.tape y.tape x.journal y.journal x.causes y.causes
    (x.run.determined more) (y.run.determined less) in
    (t.1, t.2, t.3)

-- and it has one text
one_text : (a : Answering) (script : ScriptPlan) (text other : List ℕ) (x : ReportsScript a script text) (y : ReportsScript a script other)
    → HasNone NoMemory x.causes → HasNone NoMemory y.causes → text ≡ other
one_text a script text other x y more less =
    let t = one_run a script text other x y more less in
    x.printed ∙ ap (λ (tape : List Mark). report a.line tape x.journal x.causes) t.0 ∙ ap (λ (es : List CallEntry). report a.line y.tape es x.causes) t.1
    ∙ ap (λ (cs : List EndCause). report a.line y.tape y.journal cs) t.2 ∙ sym y.printed

-- a script that was read
abbrev pub read_as : ScriptPlan → Result ScriptPlan ScriptFault
read_as script = Ok script

-- two scripts that one reading gives are one
pub same_script : (script other : ScriptPlan) → read_as script ≡ read_as other → script ≡ other
same_script script other e = cc

-- one input has one report
pub one_report : (a : Answering) (input : List ℕ) (s t : Streams) (text other : List ℕ)
    → s.left_before ≡ Some input → t.left_before ≡ Some input → (x : IsReportOf a s text) (y : IsReportOf a t other)
    → HasNone NoMemory x.reports.causes → HasNone NoMemory y.reports.causes → text ≡ other
one_report a input s t text other before before' x y more less =
    let same : x.text ≡ y.text =
    all_read input s.left x.text (sym x.read ∙ before) x.to_its_end ∙ sym (all_read input t.left y.text (sym y.read ∙ before') y.to_its_end) in
    let scripts : x.script ≡ y.script = same_script x.script y.script (sym x.is_script ∙ ap (script_for a) same ∙ y.is_script) in
    one_text a y.script text other
    (record {
      tape = x.reports.tape;
      journal = x.reports.journal;
      causes = x.reports.causes;
      run = subst (λ script. IsRunOfScript a script x.reports.tape x.reports.journal x.reports.causes) scripts x.reports.run;
      printed = x.reports.printed;
    })
    y.reports more less
