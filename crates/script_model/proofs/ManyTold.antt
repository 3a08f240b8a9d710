-- A report over a script of many connections is of one run.
use Rattle.std.proofs.Common.{◌≡◌, ℕ, ◌<◌, ◌≤◌, ◌^◌, List, [], ◌∷◌, length, map, codes, refl, sym, ◌∙◌, subst, arith}
use Rattle.std.specs.List.{AllByRecursion}
use Rattle.limits.specs.Limits.{most_connections}
use Rattle.streams.specs.declared.marks.Mark.{Mark}
use Rattle.text_out.specs.Line.{line_of}
use Rattle.host_model.specs.declared.cause.EndCause.{EndCause}
use Rattle.host_model.specs.Marks.{connection_of}
use Rattle.host_model.specs.Journal.{JournalEntry, ServiceRules, entries_of}
use Rattle.host_model.specs.DeskRules.{DeskRules}
use Rattle.host_model.specs.Headline.{Headline}
use Rattle.host_model.specs.Report.{numbered, report}
use Rattle.host_model.proofs.Lists.{nil-cons, cons_parts}
use Rattle.script_model.specs.ScriptLines.{ScriptPlan, openings}
use Rattle.script_model.specs.Writing.{KeepsItsRules}
use Rattle.script_model.specs.Telling.{TellsConnections, MayBeTold}
use Rattle.script_model.proofs.Openings.{all_below, as_many_causes}
use Rattle.script_model.proofs.ReportLines.{end_and_count, same_parts}
use Rattle.script_model.proofs.MarkLines.{head_of, same_heads}
use Rattle.script_model.proofs.ManyRuns.{read_on, conn_of, same_reads_of_many, same_marks_of_many, same_journal_of_many}
use Rattle.script_model.proofs.EndLines.{same_causes}

-- entries of the same lines are of the same connections
same_conns : {C A : Type 0} (line : JournalEntry C A → List ℕ) → TellsConnections line → (es fs : List (JournalEntry C A))
    → AllByRecursion (λ e. e.key.c < most_connections) es → AllByRecursion (λ e. e.key.c < most_connections) fs → map line es ≡ map line fs → map conn_of es ≡ map conn_of fs
same_conns line tells [] [] low high e = refl
same_conns line tells [] (f ∷ fs) low high e = absurd (nil-cons (line f) (map line fs) e)
same_conns line tells (x ∷ es) [] low high e = absurd (nil-cons (line x) (map line es) (sym e))
same_conns line tells (x ∷ es) (f ∷ fs) low high e =
    let p = cons_parts (line x) (line f) (map line es) (map line fs) e in
    let own : conn_of x ≡ conn_of f = tells x f low.0 high.0 p.0 in
    let rest : map conn_of es ≡ map conn_of fs = same_conns line tells es fs low.1 high.1 p.1 in
    (λ i. own i ∷ rest i)

module _ {C A M : Type 0} (d : DeskRules C A) (r : ServiceRules C A M) (memories : List M) (budget : ℕ) (script : ScriptPlan) (line : JournalEntry C A → List ℕ)
    (few : openings script.lines ≤ most_connections) where
  -- there are as many causes as connections that the script opens
  counted : (tape : List Mark) (journal : List (JournalEntry C A)) (causes : List EndCause) → MayBeTold line d r memories budget script tape journal causes
      → length causes ≡ openings script.lines
  counted tape journal causes x = as_many_causes d r memories tape journal causes (openings script.lines) x.headline x.fed.opened

  -- and all marks and entries are theirs
  marks_below : (tape : List Mark) (journal : List (JournalEntry C A)) (causes : List EndCause) → MayBeTold line d r memories budget script tape journal causes
      → AllByRecursion (λ m. connection_of m < 2 ^ 64) tape
  marks_below tape journal causes x =
      let count : length causes ≡ openings script.lines = counted tape journal causes x in
      all_below connection_of (2 ^ 64) tape (λ c h. x.headline.no_marks c (omega (arith, count, few, h)))

  entries_below : (tape : List Mark) (journal : List (JournalEntry C A)) (causes : List EndCause) → MayBeTold line d r memories budget script tape journal causes
      → AllByRecursion (λ (e : JournalEntry C A). e.key.c < most_connections) journal
  entries_below tape journal causes x =
      let count : length causes ≡ openings script.lines = counted tape journal causes x in
      all_below (λ (e : JournalEntry C A). e.key.c) most_connections journal (λ c h. x.headline.no_entries c (omega (arith, count, few, h)))

pub one_run_of_many : {C A M : Type 0} (d : DeskRules C A) (r : ServiceRules C A M) (memories : List M) (budget : ℕ) (script : ScriptPlan) (line : JournalEntry C A → List ℕ)
    (tape marks : List Mark) (journal entries : List (JournalEntry C A)) (causes ends : List EndCause) → d.max < 2 ^ 31 → openings script.lines ≤ most_connections → TellsConnections line
    → MayBeTold line d r memories budget script tape journal causes → MayBeTold line d r memories budget script marks entries ends
    → report line tape journal causes ≡ report line marks entries ends → (tape ≡ marks) × (journal ≡ entries) × (causes ≡ ends)
one_run_of_many {C} {A} {M} d r memories budget script line tape marks journal entries causes ends small few tells x y printed =
    let parts = same_parts line tape marks journal entries causes ends x.lines y.lines printed in
    let counts : length causes ≡ length ends =
    counted d r memories budget script line few tape journal causes x ∙ sym (counted d r memories budget script line few marks entries ends y) in
    let heads : map head_of tape ≡ map head_of marks =
    same_heads tape marks (marks_below d r memories budget script line few tape journal causes x) (marks_below d r memories budget script line few marks entries ends y) parts.0 in
    let reads : (c : ℕ) → read_on c tape ≡ read_on c marks =
    same_reads_of_many d.max script small tape marks x.fed.each_read y.fed.each_read [] [] tape marks refl refl (λ c. refl) heads in
    let conns : map conn_of journal ≡ map conn_of entries =
    same_conns line tells journal entries (entries_below d r memories budget script line few tape journal causes x) (entries_below d r memories budget script line few marks entries ends y) parts.1 in
    let journals : journal ≡ entries = same_journal_of_many d r memories small tape marks journal entries causes ends x.headline y.headline counts reads conns in
    let written : (c : ℕ) → KeepsItsRules d script c (entries_of c journal) marks =
    (λ c. subst (λ (es : List (JournalEntry C A)). KeepsItsRules d script c (entries_of c es) marks) (sym journals) (y.fed.each_written c)) in
    let tapes : tape ≡ marks =
    same_marks_of_many d script small tape marks journal x.fed.each_read y.fed.each_read x.fed.each_written written [] tape marks refl refl heads in
    let other : Headline d r memories tape journal ends =
    subst (λ (ms : List Mark). Headline d r memories ms journal ends) (sym tapes)
    (subst (λ (es : List (JournalEntry C A)). Headline d r memories marks es ends) (sym journals) y.headline) in
    let behind : end_and_count tape journal causes ≡ end_and_count tape journal ends = parts.2 ∙ (λ i. end_and_count (sym tapes i) (sym journals i) ends) in
    (tapes, journals, same_causes d small tape journal r memories causes ends (line_of (numbered (codes "calls") (length journal))) counts x.headline other behind)
