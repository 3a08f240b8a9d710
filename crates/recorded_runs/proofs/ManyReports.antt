-- A report of a run of a script is of one run, and so is one of the run of an input.
use Rattle.std.proofs.Common.{◌≡◌, ℕ, ◌<◌, ◌≤◌, ◌^◌, ◌⊎◌, inl, inr, ◌==◌, Bool, true, false, cond, Some, List, [], ◌∷◌, length, get_or, refl, sym, ap, ◌∙◌, subst, eq-eqb}
use Rattle.std.specs.Prelude.{Ok}
use Rattle.std.specs.List.{AllByRecursion}
use Rattle.std.proofs.lemmas.Bool.{cases_lt}
use Rattle.std.proofs.lemmas.Option.{slice_get-get_or}
use Rattle.limits.specs.Limits.{most_connections}
use Rattle.streams.specs.declared.marks.Mark.{Mark}
use Rattle.host_model.specs.declared.cause.EndCause.{EndCause}
use Rattle.host_model.specs.declared.cause.EndCause.TheVariants.{End}
use Rattle.host_model.specs.Marks.{marks_of, output}
use Rattle.host_model.specs.Journal.{entries_of}
use Rattle.host_model.specs.Headline.{Headline}
use Rattle.script_model.specs.Rehearsal.{IsCallLine, HaveCallLines}
use Rattle.script_model.specs.ScriptLines.{ScriptPlan, openings}
use Rattle.script_model.specs.Fed.{IsFedBy}
use Rattle.script_model.specs.Telling.{MayBeTold}
use Rattle.script_model.proofs.Determined.{IsDone, done_of}
use Rattle.script_model.proofs.ManyTold.{one_run_of_many}
use Rattle.call_rules.specs.Entries.{CallEntry}
use Rattle.call_rules.specs.Desks.{IsDesk, desk_rules}
use Rattle.call_rules.specs.Handling.{handler_rules}
use Rattle.recorded_runs.specs.Recorded.{Streams, ScriptReading, ScriptRuns, ReportsRunOf, IsReportOfInput}
use Rattle.recorded_runs.specs.Answered.{Answering}
use Rattle.recorded_runs.specs.CallLines.{TellCalls}
use Rattle.recorded_runs.proofs.OneReport.{all_read, same_script}
use Rattle.recorded_runs.proofs.PlainRuns.{lined, plain_done}

-- what holds of each connection's entries holds of all
behind_first : (P : CallEntry → Type 0) (here : Bool) (e : CallEntry) (es : List CallEntry) → AllByRecursion P (cond here (e ∷ es) es) → AllByRecursion P es
behind_first P true e es a = a.1
behind_first P false e es a = a

all_of_each : (P : CallEntry → Type 0) (es : List CallEntry) → ((c : ℕ) → AllByRecursion P (entries_of c es)) → AllByRecursion P es
all_of_each P [] each = tt
all_of_each P (e ∷ es) each = (
  (subst (λ b. AllByRecursion P (cond b (e ∷ entries_of e.key.c es) (entries_of e.key.c es))) (eq-eqb e.key.c e.key.c refl) (each e.key.c)).0,
  all_of_each P es (λ c. behind_first P (e.key.c == c) e (entries_of c es) (each c)),
)

module _ (a : Answering) (desk : IsDesk a.desk) (lines : TellCalls a.line) where
  -- each entry of a run has the line of a call
  lined_on : (tape : List Mark) (journal : List CallEntry) (causes : List EndCause) → Headline (desk_rules a.desk) handler_rules a.services tape journal causes
      → (c : ℕ) → HaveCallLines a.line (entries_of c journal)
  lined_on tape journal causes x c = go (cases_lt c (length causes))
    where
      go : (c < length causes) ⊎ (length causes ≤ c) → HaveCallLines a.line (entries_of c journal)
      go (inl low) =
          let cause = get_or causes c End in
          let talk = (x.each c cause (slice_get-get_or causes c End low)).talk in
          let done : IsDone (desk_rules a.desk) (entries_of c journal) talk.payloads =
          done_of (desk_rules a.desk) talk.payloads talk.rest (entries_of c journal) (output (marks_of c tape)) cause talk.ended in
          lined a.line lines.named (entries_of c journal) (plain_done a.desk desk (entries_of c journal) talk.payloads done)
      go (inr high) = subst (HaveCallLines a.line) (sym (x.no_entries c high)) tt

  all_lined : (tape : List Mark) (journal : List CallEntry) (causes : List EndCause) → Headline (desk_rules a.desk) handler_rules a.services tape journal causes
      → HaveCallLines a.line journal
  all_lined tape journal causes x = all_of_each (λ (e : CallEntry). IsCallLine (a.line e)) journal (lined_on tape journal causes x)

  module _ (IsRunOf : ScriptRuns) (small : a.desk.max_frame < 2 ^ 31)
      (headline : (script : ScriptPlan) (tape : List Mark) (journal : List CallEntry) (causes : List EndCause) → IsRunOf script tape journal causes
      → Headline (desk_rules a.desk) handler_rules a.services tape journal causes)
      (fed : (script : ScriptPlan) (tape : List Mark) (journal : List CallEntry) (causes : List EndCause) → IsRunOf script tape journal causes
      → IsFedBy (desk_rules a.desk) a.budget script tape journal) where
    -- a run may be told by its report
    may_be_told : (script : ScriptPlan) (tape : List Mark) (journal : List CallEntry) (causes : List EndCause) → IsRunOf script tape journal causes
        → MayBeTold a.line (desk_rules a.desk) handler_rules a.services a.budget script tape journal causes
    may_be_told script tape journal causes run =
        record {
          headline = headline script tape journal causes run;
          fed = fed script tape journal causes run;
          lines = all_lined tape journal causes (headline script tape journal causes run);
        }

    -- a report is of one run
    pub one_run_told_of_many : (script : ScriptPlan) (text : List ℕ) → openings script.lines ≤ most_connections → (x y : ReportsRunOf IsRunOf a.line script text)
        → (x.tape ≡ y.tape) × (x.journal ≡ y.journal) × (x.causes ≡ y.causes)
    one_run_told_of_many script text few x y =
        one_run_of_many (desk_rules a.desk) handler_rules a.services a.budget script a.line x.tape y.tape x.journal y.journal x.causes y.causes small few lines.connections
        (may_be_told script x.tape x.journal x.causes x.run) (may_be_told script y.tape y.journal y.causes y.run) (sym x.printed ∙ y.printed)

    -- and so is one of an input
    pub one_input_told : (script_in : ScriptReading) (input : List ℕ) (s t : Streams) (text : List ℕ)
        → ((read : List ℕ) (script : ScriptPlan) → script_in read ≡ Ok script → openings script.lines ≤ most_connections)
        → s.left_before ≡ Some input → t.left_before ≡ Some input
        → (x : IsReportOfInput script_in IsRunOf a.line s text) (y : IsReportOfInput script_in IsRunOf a.line t text)
        → (x.reports.tape ≡ y.reports.tape) × (x.reports.journal ≡ y.reports.journal) × (x.reports.causes ≡ y.reports.causes)
    one_input_told script_in input s t text few before other x y =
        let same : x.text ≡ y.text =
        all_read input s.left x.text (sym x.read ∙ before) x.to_its_end ∙ sym (all_read input t.left y.text (sym y.read ∙ other) y.to_its_end) in
        let scripts : x.script ≡ y.script = same_script x.script y.script (sym x.is_script ∙ ap script_in same ∙ y.is_script) in
        one_run_told_of_many y.script text (few y.text y.script y.is_script)
        (record {
          tape = x.reports.tape;
          journal = x.reports.journal;
          causes = x.reports.causes;
          run = subst (λ (script : ScriptPlan). IsRunOf script x.reports.tape x.reports.journal x.reports.causes) scripts x.reports.run;
          printed = x.reports.printed;
        })
        y.reports
