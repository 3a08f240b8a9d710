-- What a run of a workload comes to, summed up over its connections.
use Rattle.std.proofs.Common.{◌≡◌, ◌≢◌, ℕ, ℤ, zero, suc, ◌+◌, ◌+ℤ◌, ◌%◌, ◌^◌, ◌<◌, ◌≤◌, ◌==◌, Some, List, [], ◌∷◌, length, get_or, slice_get, refl, sym, ap, ◌∙◌, arith}
use Rattle.std.specs.List.{flat_map, sum_by, AllByRecursion}
use Rattle.std.proofs.Math.Nat.{mod-lt}
use Rattle.std.proofs.lemmas.List.Sums.{sum_by-cons}
use Rattle.std.proofs.lemmas.Option.{slice_get-get_or}
use Rattle.streams.specs.declared.marks.Mark.{Mark}
use Rattle.host_model.specs.declared.cause.EndCause.{EndCause}
use Rattle.host_model.specs.declared.cause.EndCause.TheVariants.{End, NoMemory, Stopped}
use Rattle.host_model.specs.Marks.{connection_of, marks_of, read_by, written_by, input, output}
use Rattle.host_model.specs.Journal.{entries_of}
use Rattle.host_model.specs.DeskRules.{DeskRules}
use Rattle.host_model.specs.Headline.{Headline}
use Rattle.call_rules.specs.PlainCalls.{PlainCall, PlainAnswer}
use Rattle.call_rules.specs.Entries.{CallEntry}
use Rattle.call_rules.specs.Handling.{ServiceState, handler_rules}
use Rattle.script_model.specs.ScriptLines.{count_up}
use Rattle.script_model.specs.RestLines.{opened_in}
use Rattle.script_model.specs.Fed.{IsFedBy}
use Rattle.script_model.proofs.Openings.{all_kept, all_below, as_many_causes}
use Rattle.workload.specs.CallFrames.{frame_at}
use Rattle.workload.specs.LoadPlan.{connections_of, frames_on, workload_plan}
use Rattle.workload.specs.SummaryText.{sum_over, answer_adds, sum_of_answers}
use Rattle.workload.specs.ExpectedRun.{frame_answer, reply_at, bytes_in, bytes_out, sum_of}
use Rattle.workload.proofs.Grouped.{grouped, grouped_counts, always}
use Rattle.workload.proofs.Carried.{carried, carried_whole}
use Rattle.workload.specs.Payloads.{payload_at, most_payload_bytes}
use Rattle.workload.specs.Calls.{call_in_load, answer_in_load}
use Rattle.workload.specs.Summed.{HasCalculator, ComesToSum}
use Rattle.workload.proofs.Plans.{openings_are}
use Rattle.workload.proofs.Parts.{LessThanAFrame}
use Rattle.workload.proofs.Histories.{AnswersFrames, IsRight, all_right}
use Rattle.workload.proofs.Talks.{IsReplied, AreReplied, Matches, Answers, done_matches, all_answered, as_many, sent_is}
use Rattle.workload.proofs.Connections.{IsWhole, is_whole}

same_counts : (f g : ℕ → ℕ) (n from m : ℕ) → from + n ≤ m → ((c : ℕ) → c < m → f c ≡ g c) → sum_by f (count_up from n) ≡ sum_by g (count_up from n)
same_counts f g zero from m h same = refl
same_counts f g (suc n) from m h same =
    sum_by-cons f from (count_up (suc from) n) ∙ (λ i. same from (omega arith) i + same_counts f g n (suc from) m (omega arith) same i)
    ∙ sym (sum_by-cons g from (count_up (suc from) n))

same_sums : (f g : ℕ → ℤ) (n from m : ℕ) → from + n ≤ m → ((c : ℕ) → c < m → f c ≡ g c) → sum_over f (count_up from n) ≡ sum_over g (count_up from n)
same_sums f g zero from m h same = refl
same_sums f g (suc n) from m h same = λ i. same from (omega arith) i +ℤ same_sums f g n (suc from) m (omega arith) same i

ones : {X : Type 0} (xs : List X) → sum_by (λ x. 1) xs ≡ length xs
ones [] = refl
ones (x ∷ xs) = let more = ones xs in sum_by-cons (λ y. 1) x xs ∙ (let e : 1 + sum_by (λ y. 1) xs ≡ suc (length xs) = omega (arith, more) in e)

counted_length : (n from : ℕ) → length (count_up from n) ≡ n
counted_length zero from = refl
counted_length (suc n) from = ap suc (counted_length n (suc from))

all_counted : (P : ℕ → Type 0) (n from m : ℕ) → from + n ≤ m → ((k : ℕ) → k < m → P k) → AllByRecursion P (count_up from n)
all_counted P zero from m h each = tt
all_counted P (suc n) from m h each = (each from (omega arith), all_counted P n (suc from) m (omega arith) each)

module _ (seed size : ℕ) (some : 1 ≤ size) (d : DeskRules PlainCall PlainAnswer) (budget : ℕ) (services : List ServiceState) (tape : List Mark) (journal : List CallEntry)
    (causes : List EndCause) (small : d.max < 2 ^ 31) (most : most_payload_bytes ≤ d.max) (partial : LessThanAFrame d.max) (answers : AnswersFrames) (has : HasCalculator services)
    (replied : (k : ℕ) → k < size → IsReplied d (payload_at seed k) (call_in_load seed k) (answer_in_load seed k) (reply_at seed k))
    (headline : Headline d handler_rules services tape journal causes) (fed : IsFedBy d budget (workload_plan seed size) tape journal)
    (memory : (c : ℕ) → slice_get causes c ≢ Some NoMemory) (goes : (c : ℕ) → slice_get causes c ≢ Some Stopped) where
  abbrev conns : ℕ
  conns = connections_of size

  some_conns : 0 < conns
  some_conns = omega arith

  opened : opened_in tape ≡ count_up 0 conns
  opened = fed.opened ∙ ap (count_up 0) (openings_are seed size)

  cause_at : (c : ℕ) → c < length causes → slice_get causes c ≡ Some (get_or causes c End)
  cause_at c h = slice_get-get_or causes c End h

  as_many_conns : length causes ≡ conns
  as_many_conns = as_many_causes d handler_rules services tape journal causes conns headline opened

  opened_ended : (c : ℕ) → c < conns → c < length causes
  opened_ended c h = omega (arith, as_many_conns, h)

  here : (c : ℕ) → AreReplied d (payload_at seed) (call_in_load seed) (answer_in_load seed) (reply_at seed) (frames_on conns c size)
  here c =
      all_kept (λ k. k % conns == c) (λ k. IsReplied d (payload_at seed k) (call_in_load seed k) (answer_in_load seed k) (reply_at seed k)) (count_up 0 size)
      (all_counted (λ k. IsReplied d (payload_at seed k) (call_in_load seed k) (answer_in_load seed k) (reply_at seed k)) size 0 size (omega arith) replied)

  whole : (c : ℕ) (h : c < conns) → IsWhole seed size d tape journal c h small most partial (fed.each_read c) (fed.each_written c) (here c)
  whole c h =
      let at = cause_at c (opened_ended c h) in
      is_whole seed size d tape journal c h small most partial (fed.each_read c) (fed.each_written c) (here c) (get_or causes c End) (headline.each c (get_or causes c End) at)
      (λ e. memory c (at ∙ ap (λ x. Some x) e)) (λ e. goes c (at ∙ ap (λ x. Some x) e))

  matches : (c : ℕ) → c < conns → Matches d (payload_at seed) (call_in_load seed) (answer_in_load seed) (reply_at seed) 0 (entries_of c journal) (frames_on conns c size)
  matches c h =
      done_matches d (payload_at seed) (call_in_load seed) (answer_in_load seed) (reply_at seed) (entries_of c journal) (frames_on conns c size) (here c) (whole c h).finished.done

  right : AllByRecursion (IsRight seed) journal
  right = all_right seed answers services journal has headline.legal

  answered_here : (c : ℕ) → c < conns → Answers d (payload_at seed) (call_in_load seed) (answer_in_load seed) (reply_at seed) (entries_of c journal) (frames_on conns c size)
  answered_here c h =
      all_answered d (payload_at seed) (call_in_load seed) (answer_in_load seed) (reply_at seed) 0 (entries_of c journal) (frames_on conns c size) (matches c h)
      (all_kept (λ (e : CallEntry). e.key.c == c) (IsRight seed) journal right)

  sent_here : (c : ℕ) → c < conns → output (marks_of c tape) ≡ flat_map (reply_at seed) (frames_on conns c size)
  sent_here c h =
      (whole c h).finished.written
      ∙ sent_is d (payload_at seed) (call_in_load seed) (answer_in_load seed) (reply_at seed) (entries_of c journal) (frames_on conns c size) (matches c h) (answered_here c h) (here c)

  adds_up : (es : List CallEntry) (ks : List ℕ) → Answers d (payload_at seed) (call_in_load seed) (answer_in_load seed) (reply_at seed) es ks
      → sum_over (λ (e : CallEntry). answer_adds e.answer) es ≡ sum_over (frame_answer seed) ks
  adds_up [] [] a = refl
  adds_up [] (k ∷ ks) a = absurd a
  adds_up (e ∷ es) [] a = absurd a
  adds_up (e ∷ es) (k ∷ ks) a = λ i. answer_adds (a.0 i) +ℤ adds_up es ks a.1 i

  marks_below : AllByRecursion (λ mark. connection_of mark < conns) tape
  marks_below = all_below connection_of conns tape (λ c h. headline.no_marks c (omega (arith, as_many_conns, h)))

  entries_below : AllByRecursion (λ (e : CallEntry). e.key.c < conns) journal
  entries_below = all_below (λ (e : CallEntry). e.key.c) conns journal (λ c h. headline.no_entries c (omega (arith, as_many_conns, h)))

  frames_below : AllByRecursion (λ k. k % conns < conns) (count_up 0 size)
  frames_below = always (λ k. k % conns < conns) (λ k. mod-lt k some_conns) (count_up 0 size)

  all_read : length (input tape) ≡ bytes_in seed size
  all_read =
      sym (carried_whole connection_of read_by conns tape marks_below)
      ∙ same_counts (λ c. length (input (marks_of c tape))) (λ c. length (flat_map (frame_at seed) (frames_on conns c size))) conns 0 conns (omega arith)
      (λ c h. ap length (whole c h).read)
      ∙ carried (λ k. k % conns) (frame_at seed) conns (count_up 0 size) frames_below

  all_written : length (output tape) ≡ bytes_out seed size
  all_written =
      sym (carried_whole connection_of written_by conns tape marks_below)
      ∙ same_counts (λ c. length (output (marks_of c tape))) (λ c. length (flat_map (reply_at seed) (frames_on conns c size))) conns 0 conns (omega arith)
      (λ c h. ap length (sent_here c h))
      ∙ carried (λ k. k % conns) (reply_at seed) conns (count_up 0 size) frames_below

  all_called : length journal ≡ size
  all_called =
      sym (ones journal)
      ∙ sym (grouped_counts (λ (e : CallEntry). e.key.c) (λ e. 1) conns journal entries_below)
      ∙ same_counts (λ c. sum_by (λ e. 1) (entries_of c journal)) (λ c. sum_by (λ k. 1) (frames_on conns c size)) conns 0 conns (omega arith)
      (λ c h. ones (entries_of c journal)
      ∙ as_many d (payload_at seed) (call_in_load seed) (answer_in_load seed) (reply_at seed) 0 (entries_of c journal) (frames_on conns c size) (matches c h)
      ∙ sym (ones (frames_on conns c size)))
      ∙ grouped_counts (λ k. k % conns) (λ k. 1) conns (count_up 0 size) frames_below
      ∙ ones (count_up 0 size) ∙ counted_length size 0

  all_summed : sum_of_answers journal ≡ sum_of seed size
  all_summed =
      sym (grouped (λ (e : CallEntry). e.key.c) (λ (e : CallEntry). answer_adds e.answer) conns journal entries_below)
      ∙ same_sums (λ c. sum_over (λ (e : CallEntry). answer_adds e.answer) (entries_of c journal)) (λ c. sum_over (frame_answer seed) (frames_on conns c size)) conns 0 conns
      (omega arith) (λ c h. adds_up (entries_of c journal) (frames_on conns c size) (answered_here c h))
      ∙ grouped (λ k. k % conns) (frame_answer seed) conns (count_up 0 size) frames_below

  pub comes_to : ComesToSum seed size tape journal causes
  comes_to = record { connections = as_many_conns; calls = all_called; read = all_read; written = all_written; sum = all_summed }
