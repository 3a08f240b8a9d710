-- In a rehearsal each write is by the rule whose turn it is.
use Rattle.std.proofs.Common.{◌≡◌, ℕ, suc, ◌+◌, ◌-◌, ◌<◌, ◌≤◌, ◌⊎◌, inl, inr, min, not, nat_lt, nat_le, if◌then◌else◌, Option, None, Some, List, [], ◌∷◌, ◌++◌, map, filter, length, take, drop, refl, sym, ap, ◌∙◌, subst, option_map, arith, append-nil, length-take, take_all}
use Rattle.std.proofs.lemmas.Bool.{cases_eq, cases_lt}
use Rattle.streams.specs.declared.marks.Mark.{Mark}
use Rattle.streams.specs.declared.marks.Mark.TheVariants.{Wrote, WriteFailed, Closed}
use Rattle.host_model.specs.declared.cause.EndCause.{EndCause}
use Rattle.host_model.specs.declared.cause.EndCause.TheVariants.{NoMemory, WriteFault}
use Rattle.host_model.specs.Marks.{marks_of, output}
use Rattle.host_model.specs.Journal.{JournalEntry, ServiceRules, entries_of}
use Rattle.host_model.specs.DeskRules.{DeskRules, DeskDecision, Close, Silent, Reply, Invoke}
use Rattle.machine_model.specs.HallState.{Job, JobOutcome}
use Rattle.machine_model.specs.Loop.{LoopConn, Loop, IsOpen, with_cause, changed, ConnEvent, opens, reads, ends, fails_read, writes, fails_write, gives_up, Happens}
use Rattle.machine_model.specs.Worker.{WorkerState, idle, holds, has_answer, has_none}
use Rattle.machine_model.specs.Machine.{Cell, MachineEvent, on_conn, submits, takes, puts, collects, EventsLead, IsFirst}
use Rattle.machine_model.specs.Places.{PayloadPlace, collected_all, jobs_of, outcomes_of, WhatIsWritten, CellKeeps}
use Rattle.machine_model.specs.Plain.{is_empty, is_open, Told, goes, puts_none, event_told, told_plain, run_plain}
use Rattle.machine_model.specs.AtFronts.{size_in}
use Rattle.machine_model.proofs.Lists.{put_same, put_other}
use Rattle.machine_model.proofs.Merging.{runs-append}
use Rattle.machine_model.proofs.Standing.{clear_by_left}
use Rattle.machine_model.proofs.Taping.{AllOf}
use Rattle.script_model.specs.ScriptLines.{PlanLine, opening, piece, input_end, input_fault, resting, turn_of_conn, turn_of_worker, turn_of_outcome, PlanRule, takes_most, blocks, fails, ScriptPlan, rules_of, governs, rule_of}
use Rattle.script_model.specs.Writing.{writes_in, KeepsItsRules}
use Rattle.script_model.specs.Playing.{InputFinish, finishes, faults, MemoryAt, ample, lacking, lacking_for_call, lacking_for_answer, is_ample, Play, most_read, at_number, pieces_left, moved_on, all_admitted, event_on, or_else, told_without, told_wanting, by_memory, admission, freed, freed_if_over, with_rules, with_unread, told_in, on_one, read_behind, read_move, write_move, size_move, open_move, conn_move, step_of_worker, worker_move, collect_first, collect_move}
use Rattle.script_model.specs.Rehearsing.{drain, line_done, lines_done, before_all, IsRehearsalOf}
use Rattle.script_model.proofs.Growing.{AreNoWrites, TellsNoWrite, Grows, Growing, grows_so}
use Rattle.script_model.proofs.Stepping.{Holds, mapped, either, or_keeps, and_keeps, left_keeps, drain_keeps}
use Rattle.script_model.proofs.Written.{EachMark, none_there, writes-append, next_left, none_left, IsPartUnder, IsRuled, ruled_on, ruled_first, keeps_rules, AreRulesLeft, rules_stay, rules_changed}

-- so many at most of what is left
take_min : (count : ℕ) (left : List ℕ) → take (min count (length left)) left ≡ take count left
take_min count left = go (cases_lt count (length left))
  where
    go : (count < length left) ⊎ (length left ≤ count) → take (min count (length left)) left ≡ take count left
    go (inl l) = ap (λ n. take n left) (let e : min count (length left) ≡ count = omega arith in e)
    go (inr l) =
        ap (λ n. take n left) (let e : min count (length left) ≡ length left = omega arith in e)
        ∙ take_all (length left) left (omega arith) ∙ sym (take_all count left l)

module _ {C A M : Type 0} (d : DeskRules C A) (r : ServiceRules C A M) (memory : ℕ → MemoryAt) (script : ScriptPlan) (opened : List M) (first : Cell C A M)
    (computes : (old cell : Cell C A M) (told : List Told) → run_plain d r told (Some old) ≡ Some cell → EventsLead d r old (map event_told told) cell)
    (cells : (cell : Cell C A M) (events : List MachineEvent) → EventsLead d r first events cell → CellKeeps d r opened cell) where
  -- A cell that events lead to: each of its writes was by its rule, and these rules are left.
  record Ruled (cell : Cell C A M) (rules : ℕ → List PlanRule) : Type 0 where
    events : List MachineEvent
    lead : EventsLead d r first events cell
    left : AreRulesLeft script cell.loop.tape rules
    each : EachMark (IsRuled d script cell.hall.journal) cell.loop.tape

  -- it is so of a play
  abbrev Kept : Play C A M → Type 0
  Kept play = Ruled play.cell play.rules

  abbrev Keeping : Option (Play C A M) → Type 0
  Keeping o = Holds Kept o

  -- what the machine is told leads on
  led_on : (old new : Cell C A M) (told : Told) (events : List MachineEvent) → told_plain d r old told ≡ Some new → EventsLead d r first events old
      → EventsLead d r first (events ++ event_told told ∷ []) new
  led_on old new told events e lead = runs-append d r first old new events (event_told told ∷ []) lead (computes old new (told ∷ []) e)

  -- it is told of no write
  quiet : (old new : Cell C A M) (told : Told) (rules : ℕ → List PlanRule) → TellsNoWrite told → told_plain d r old told ≡ Some new → Ruled old rules → Ruled new rules
  quiet old new told rules q e k =
      let g : Grows old new = subst (Growing old) e (grows_so d r old told q) in
      record {
        events = k.events ++ event_told told ∷ [];
        lead = led_on old new told k.events e k.lead;
        left = subst (λ t. AreRulesLeft script t rules) (sym g.tape) (rules_stay script old.loop.tape g.marks rules g.none k.left);
        each = subst (λ (s : List Mark × List (JournalEntry C A)). EachMark (IsRuled d script s.1) s.0) (λ i. (sym g.tape i, sym g.journal i))
            (ruled_on d script old.loop.tape g.marks old.hall.journal g.entries g.none k.each);
      }

  -- it is told of a write of connection c, made or failed, by the rule whose turn it is
  writes_on : (old new : Cell C A M) (told : Told) (c : ℕ) (mark : Mark) (marks : List Mark) (rules others : ℕ → List PlanRule) → told_plain d r old told ≡ Some new
      → new.loop.tape ≡ old.loop.tape ++ mark ∷ marks → new.hall.journal ≡ old.hall.journal → AllOf c (mark ∷ marks) → writes_in (mark ∷ marks) ≡ 1 → AreNoWrites marks
      → ((x : ℕ) → (x ≡ c → ⊥) → others x ≡ rules x)
      → filter governs (others c) ≡ drop (suc (writes_in (marks_of c old.loop.tape))) (filter governs (rules_of c script))
      → IsRuled d script old.hall.journal old.loop.tape mark → Ruled old rules → Ruled new others
  writes_on old new told c mark marks rules others e tape journal all one none same after here k =
      let s : writes_in (marks_of c old.loop.tape ++ mark ∷ marks) ≡ writes_in (marks_of c old.loop.tape) + writes_in (mark ∷ marks) =
      writes-append (marks_of c old.loop.tape) (mark ∷ marks) in
      let n : suc (writes_in (marks_of c old.loop.tape)) ≡ writes_in (marks_of c old.loop.tape ++ mark ∷ marks) = omega (arith, one) in
      record {
        events = k.events ++ event_told told ∷ [];
        lead = led_on old new told k.events e k.lead;
        left = subst (λ t. AreRulesLeft script t others) (sym tape)
            (rules_changed script old.loop.tape (mark ∷ marks) rules others c all k.left same (after ∙ ap (λ m. drop m (filter governs (rules_of c script))) n));
        each = subst (λ (s : List Mark × List (JournalEntry C A)). EachMark (IsRuled d script s.1) s.0) (λ i. (sym tape i, sym journal i))
            (ruled_first d script old.loop.tape marks mark old.hall.journal none k.each here);
      }

  -- so many bytes are written
  wrote : (old new : Cell C A M) (c count : ℕ) (rules others : ℕ → List PlanRule) → told_plain d r old (goes (on_conn (writes c count))) ≡ Some new
      → IsPartUnder d (rule_of script c (writes_in (marks_of c old.loop.tape))) (old.loop.conns c).left (take count (old.loop.conns c).left)
      → ((x : ℕ) → (x ≡ c → ⊥) → others x ≡ rules x)
      → filter governs (others c) ≡ drop (suc (writes_in (marks_of c old.loop.tape))) (filter governs (rules_of c script)) → Ruled old rules → Ruled new others
  wrote old new c count rules others e part same after k = go (computes old new (goes (on_conn (writes c count)) ∷ []) e)
    where
      conn : LoopConn
      conn = old.loop.conns c

      es : List (JournalEntry C A)
      es = entries_of c old.hall.journal

      here : IsOpen old.loop c → 1 ≤ count → count ≤ length conn.left → IsRuled d script old.hall.journal old.loop.tape (Wrote c (take count conn.left))
      here o some within =
          let keeps : CellKeeps d r opened old = cells old k.events k.lead in
          let n : conn.left ≡ [] → ⊥ = λ z. let l : length conn.left ≡ 0 = ap length z in let f : ⊥ = omega arith in f in
          let place : keeps.place c ≡ collected_all =
          clear_by_left d old.workers (jobs_of c old.hall.jobs) (outcomes_of c old.hall.outcomes) es c conn (keeps.place c) (keeps.at c o.0) n in
          let w : WhatIsWritten d es (output (marks_of c old.loop.tape)) conn None collected_all =
          subst (λ (x : Option EndCause × PayloadPlace). WhatIsWritten d es (output (marks_of c old.loop.tape)) conn x.0 x.1) (λ i. (o.1 i, place i)) (keeps.written c o.0) in
          let t : length (take count conn.left) ≡ min count (length conn.left) = length-take count conn.left in
          record {
            before = es;
            later = [];
            split = sym (append-nil es);
            payloads = conn.payloads;
            rest = conn.held;
            frames = keeps.frames c o.0;
            done = w.0;
            left = conn.left;
            sent_by_then = sym w.1;
            some = omega arith;
            part = part;
          }

      go : EventsLead d r old (on_conn (writes c count) ∷ []) new → Ruled new others
      go t =
          let h : Happens d.max old.loop (writes c count) t.1.0 = t.1.1 in
          let is : new ≡ record old { loop = changed old.loop c (record conn { left = drop count conn.left }) (Wrote c (take count conn.left) ∷ []) } =
          t.2 ∙ t.1.2 ∙ ap (λ (loop : Loop). record old { loop = loop }) h.3 in
          writes_on old new (goes (on_conn (writes c count))) c (Wrote c (take count conn.left)) [] rules others e (ap (λ (cell : Cell C A M). cell.loop.tape) is)
          (ap (λ (cell : Cell C A M). cell.hall.journal) is) (refl, tt) refl tt same after (here h.0 h.1 h.2) k

  -- a write fails
  failed : (old new : Cell C A M) (c : ℕ) (rules others : ℕ → List PlanRule) → told_plain d r old (goes (on_conn (fails_write c))) ≡ Some new
      → rule_of script c (writes_in (marks_of c old.loop.tape)) ≡ Some fails → ((x : ℕ) → (x ≡ c → ⊥) → others x ≡ rules x)
      → filter governs (others c) ≡ drop (suc (writes_in (marks_of c old.loop.tape))) (filter governs (rules_of c script)) → Ruled old rules → Ruled new others
  failed old new c rules others e so same after k = go (computes old new (goes (on_conn (fails_write c)) ∷ []) e)
    where
      go : EventsLead d r old (on_conn (fails_write c) ∷ []) new → Ruled new others
      go t =
          let h : Happens d.max old.loop (fails_write c) t.1.0 = t.1.1 in
          let is : new ≡ record old { loop = changed old.loop c (with_cause (old.loop.conns c) WriteFault) (WriteFailed c ∷ Closed c ∷ []) } =
          t.2 ∙ t.1.2 ∙ ap (λ (loop : Loop). record old { loop = loop }) h.2 in
          writes_on old new (goes (on_conn (fails_write c))) c (WriteFailed c) (Closed c ∷ []) rules others e (ap (λ (cell : Cell C A M). cell.loop.tape) is)
          (ap (λ (cell : Cell C A M). cell.hall.journal) is) (refl, (refl, tt)) refl (refl, tt) same after so k

  told_keeps : (play : Play C A M) (told : Told) → TellsNoWrite told → Kept play → Keeping (told_in d r play told)
  told_keeps play told q k = go (told_plain d r play.cell told) refl
    where
      go : (o : Option (Cell C A M)) → told_plain d r play.cell told ≡ o → Keeping (option_map (λ cell. record play { cell = cell; moves = suc play.moves }) o)
      go None e = tt
      go (Some cell) e = quiet play.cell cell told play.rules q e k

  wanting_keeps : (play : Play C A M) (told : Told) → TellsNoWrite told → Kept play → Keeping (told_wanting d r play told)
  wanting_keeps play told q k = go (told_plain d r play.cell told) refl
    where
      go : (o : Option (Cell C A M)) → told_plain d r play.cell told ≡ o → Keeping (option_map (λ cell. record play { cell = cell; moves = suc play.moves; wants = suc play.wants }) o)
      go None e = tt
      go (Some cell) e = quiet play.cell cell told play.rules q e k

  memory_keeps : (play : Play C A M) (at : MemoryAt) (told : Told) (o : Option (Play C A M)) → TellsNoWrite told → Kept play → Keeping o → Keeping (by_memory d r at play told o)
  memory_keeps play at told o q k a = either Kept (is_ample at) o (or_else (told_wanting d r play told) o) a (or_keeps Kept (told_wanting d r play told) o (wanting_keeps play told q k) a)

  one_keeps : (play : Play C A M) (c : ℕ) (conn_event : ConnEvent) → TellsNoWrite (goes (on_conn conn_event)) → Kept play → Keeping (on_one d r play c conn_event)
  one_keeps play c conn_event q k = mapped Kept Kept (freed_if_over c) (told_in d r play (goes (on_conn conn_event))) (λ p a. a) (told_keeps play (goes (on_conn conn_event)) q k)

  -- what something on a connection leaves, by what it leaves of the machine
  one_holds : (Q : Play C A M → Type 0) (play : Play C A M) (c : ℕ) (conn_event : ConnEvent)
      → ((cell : Cell C A M) → told_plain d r play.cell (goes (on_conn conn_event)) ≡ Some cell → Q (freed_if_over c (record play { cell = cell; moves = suc play.moves })))
      → Holds Q (on_one d r play c conn_event)
  one_holds Q play c conn_event each = go (told_plain d r play.cell (goes (on_conn conn_event))) refl
    where
      go : (o : Option (Cell C A M)) → told_plain d r play.cell (goes (on_conn conn_event)) ≡ o
          → Holds Q (option_map (freed_if_over c) (option_map (λ cell. record play { cell = cell; moves = suc play.moves }) o))
      go None e = tt
      go (Some cell) e = each cell e

  behind_keeps : (play : Play C A M) (c : ℕ) (finish : Option InputFinish) → Kept play → Keeping (read_behind d r play c finish)
  behind_keeps play c None k = tt
  behind_keeps play c (Some finishes) k = one_keeps play c (ends c) tt k
  behind_keeps play c (Some faults) k = one_keeps play c (fails_read c) tt k

  read_keeps : (play : Play C A M) (c missing : ℕ) (pieces : List (List ℕ)) → Kept play → Keeping (read_move d r play c missing pieces)
  read_keeps play c missing [] k = behind_keeps play c (play.finish c) k
  read_keeps play c missing (bytes ∷ pieces) k =
      let n : ℕ = min (min missing most_read) (length bytes) in
      mapped Kept Kept (with_unread c (pieces_left (drop n bytes) pieces)) (on_one d r play c (reads c (take n bytes))) (λ p a. a) (one_keeps play c (reads c (take n bytes)) tt k)

  -- rules that govern no write may be passed over
  passed_over : (play : Play C A M) (c : ℕ) (rules : List PlanRule) → filter governs (play.rules c) ≡ filter governs rules → Kept play → Kept (with_rules c rules play)
  passed_over play c rules e k = record { events = k.events; lead = k.lead; left = λ x. go x (cases_eq x c); each = k.each }
    where
      go : (x : ℕ) → (x ≡ c) ⊎ (x ≡ c → ⊥)
          → filter governs (at_number play.rules c rules x) ≡ drop (writes_in (marks_of x play.cell.loop.tape)) (filter governs (rules_of x script))
      go x (inl s) =
          subst (λ y. filter governs (at_number play.rules c rules y) ≡ drop (writes_in (marks_of y play.cell.loop.tape)) (filter governs (rules_of y script))) (sym s)
          (ap (filter governs) (put_same play.rules c rules) ∙ sym e ∙ k.left c)
      go x (inr n) = ap (filter governs) (put_other play.rules c rules x n) ∙ k.left x

  write_keeps : (play : Play C A M) (c : ℕ) (rules : List PlanRule) → play.rules c ≡ rules → Kept play → Keeping (write_move d r play c (play.cell.loop.conns c).left rules)
  write_keeps play c [] e k =
      let n : ℕ = writes_in (marks_of c play.cell.loop.tape) in
      let left : List ℕ = (play.cell.loop.conns c).left in
      let t = none_left n (filter governs (rules_of c script)) (sym (k.left c) ∙ ap (filter governs) e) in
      one_holds Kept play c (writes c (length left))
      (λ cell w. wrote play.cell cell c (length left) play.rules play.rules w (subst (λ o. IsPartUnder d o left (take (length left) left)) (sym t.0) (take_all (length left) left (omega arith)))
      (λ x m. refl) (ap (filter governs) e ∙ sym t.1) k)
  write_keeps play c (takes_most count ∷ rules) e k =
      let n : ℕ = writes_in (marks_of c play.cell.loop.tape) in
      let left : List ℕ = (play.cell.loop.conns c).left in
      let t = next_left n (filter governs (rules_of c script)) (filter governs rules) (takes_most count) (sym (k.left c) ∙ ap (filter governs) e) in
      let m : ℕ = min count (length left) in
      mapped (λ p. Kept (with_rules c rules p)) Kept (with_rules c rules) (on_one d r play c (writes c m)) (λ p a. a)
      (one_holds (λ p. Kept (with_rules c rules p)) play c (writes c m)
      (λ cell w. wrote play.cell cell c m play.rules (at_number play.rules c rules) w (subst (λ o. IsPartUnder d o left (take m left)) (sym t.0) (take_min count left))
      (put_other play.rules c rules) (ap (filter governs) (put_same play.rules c rules) ∙ sym t.1) k))
  write_keeps play c (blocks ∷ rules) e k = passed_over play c rules (ap (filter governs) e) k
  write_keeps play c (fails ∷ rules) e k =
      let n : ℕ = writes_in (marks_of c play.cell.loop.tape) in
      let t = next_left n (filter governs (rules_of c script)) (filter governs rules) fails (sym (k.left c) ∙ ap (filter governs) e) in
      mapped (λ p. Kept (with_rules c rules p)) Kept (with_rules c rules) (on_one d r play c (fails_write c)) (λ p a. a)
      (one_holds (λ p. Kept (with_rules c rules p)) play c (fails_write c)
      (λ cell w. failed play.cell cell c play.rules (at_number play.rules c rules) w t.0 (put_other play.rules c rules) (ap (filter governs) (put_same play.rules c rules) ∙ sym t.1) k))

  admission_keeps : (play : Play C A M) (c size : ℕ) → Kept play → Keeping (admission d r memory play c size)
  admission_keeps play c size k =
      memory_keeps play (memory play.moves) (goes (on_conn (gives_up c NoMemory))) (Some (moved_on (record play { admitted = at_number play.admitted c (Some size) }))) tt k k

  size_keeps : (budget : ℕ) (play : Play C A M) (c : ℕ) (held : List ℕ) (size : Option ℕ) → Kept play → Keeping (size_move d r memory budget play c held size)
  size_keeps budget play c held (Some size) k = read_keeps play c ((4 + size) - length held) (play.unread c) k
  size_keeps budget play c held None k =
      either Kept (nat_le (all_admitted play + size_in held) budget) (admission d r memory play c (size_in held)) None (admission_keeps play c (size_in held) k) tt

  open_keeps : (budget c : ℕ) (play : Play C A M) → Kept play → Keeping (open_move d r memory budget play c (play.cell.loop.conns c))
  open_keeps budget c play k =
      let conn : LoopConn = play.cell.loop.conns c in
      let sizing : Option (Play C A M) = read_move d r play c (4 - length conn.held) (play.unread c) in
      let sized : Option (Play C A M) = size_move d r memory budget play c conn.held (play.admitted c) in
      let reading : Option (Play C A M) = if nat_lt (length conn.held) 4 then sizing else sized in
      let waiting : Option (Play C A M) = if nat_lt conn.collected conn.submitted then None else reading in
      let submitting : Option (Play C A M) = if nat_lt conn.submitted (length conn.payloads) then told_in d r play (goes (submits c)) else waiting in
      either Kept (not (is_empty conn.left)) (write_move d r play c conn.left (play.rules c)) submitting (write_keeps play c (play.rules c) refl k)
      (either Kept (nat_lt conn.submitted (length conn.payloads)) (told_in d r play (goes (submits c))) waiting (told_keeps play (goes (submits c)) tt k)
      (either Kept (nat_lt conn.collected conn.submitted) None reading tt
      (either Kept (nat_lt (length conn.held) 4) sizing sized (read_keeps play c (4 - length conn.held) (play.unread c) k) (size_keeps budget play c conn.held (play.admitted c) k))))

  conn_keeps : (budget c : ℕ) (play : Play C A M) → Kept play → Keeping (conn_move d r memory budget c play)
  conn_keeps budget c play k = either Kept (is_open play.cell.loop c) (open_move d r memory budget play c (play.cell.loop.conns c)) None (open_keeps budget c play k) tt

  no_write_on : (w : ℕ) (decision : DeskDecision C) → TellsNoWrite (goes (event_on d r w decision))
  no_write_on w (Invoke call) = tt
  no_write_on w (Close fault) = tt
  no_write_on w Silent = tt
  no_write_on w (Reply reply) = tt

  no_write_without : (w : ℕ) (at : MemoryAt) (decision : DeskDecision C) → TellsNoWrite (told_without d r w at decision)
  no_write_without w ample decision = tt
  no_write_without w lacking decision = tt
  no_write_without w lacking_for_call (Invoke call) = tt
  no_write_without w lacking_for_call (Close fault) = tt
  no_write_without w lacking_for_call Silent = tt
  no_write_without w lacking_for_call (Reply reply) = tt
  no_write_without w lacking_for_answer (Invoke call) = tt
  no_write_without w lacking_for_answer (Close fault) = tt
  no_write_without w lacking_for_answer Silent = tt
  no_write_without w lacking_for_answer (Reply reply) = tt

  step_keeps : (play : Play C A M) (w : ℕ) (worker : WorkerState A) (jobs : List Job) → Kept play → Keeping (step_of_worker d r memory play w worker jobs)
  step_keeps play w idle [] k = tt
  step_keeps play w idle (job ∷ jobs) k = told_keeps play (goes (takes w)) tt k
  step_keeps play w (holds key payload) jobs k =
      let told : Told = goes (event_on d r w (d.decide payload)) in
      memory_keeps play (memory play.moves) (told_without d r w (memory play.moves) (d.decide payload)) (told_in d r play told) (no_write_without w (memory play.moves) (d.decide payload)) k
      (told_keeps play told (no_write_on w (d.decide payload)) k)
  step_keeps play w (has_answer key payload answer) jobs k =
      memory_keeps play (memory play.moves) (puts_none w) (told_in d r play (goes (puts w))) tt k (told_keeps play (goes (puts w)) tt k)
  step_keeps play w (has_none key payload) jobs k = told_keeps play (puts_none w) tt k

  worker_keeps : (w : ℕ) (play : Play C A M) → Kept play → Keeping (worker_move d r memory w play)
  worker_keeps w play k = step_keeps play w (play.cell.workers w) play.cell.hall.jobs k

  first_keeps : (play : Play C A M) (outcomes : List JobOutcome) → Kept play → Keeping (collect_first d r play outcomes)
  first_keeps play [] k = tt
  first_keeps play (outcome ∷ outcomes) k = mapped Kept Kept (freed outcome.key.c) (told_in d r play (goes collects)) (λ p a. a) (told_keeps play (goes collects) tt k)

  collect_keeps : (play : Play C A M) → Kept play → Keeping (collect_move d r play)
  collect_keeps play k = first_keeps play play.cell.hall.outcomes k

  drained : (fuel budget workers : ℕ) (play : Play C A M) → Kept play → Keeping (drain d r memory fuel fuel budget workers play)
  drained fuel budget workers play k = drain_keeps d r memory Kept conn_keeps worker_keeps collect_keeps fuel fuel budget workers play k

  line_keeps : (fuel budget workers : ℕ) (play : Play C A M) (line : PlanLine) → Kept play → Keeping (line_done d r memory fuel budget workers play line)
  line_keeps fuel budget workers play opening k = left_keeps Kept play (told_in d r play (goes (on_conn opens))) k (told_keeps play (goes (on_conn opens)) tt k)
  line_keeps fuel budget workers play (piece c bytes) k = k
  line_keeps fuel budget workers play (input_end c) k = k
  line_keeps fuel budget workers play (input_fault c) k = k
  line_keeps fuel budget workers play resting k = drained fuel budget workers play k
  line_keeps fuel budget workers play (turn_of_conn c) k = left_keeps Kept play (conn_move d r memory budget c play) k (conn_keeps budget c play k)
  line_keeps fuel budget workers play (turn_of_worker w) k = left_keeps Kept play (worker_move d r memory w play) k (worker_keeps w play k)
  line_keeps fuel budget workers play turn_of_outcome k = left_keeps Kept play (collect_move d r play) k (collect_keeps play k)

  lines_keep : (fuel budget workers : ℕ) (lines : List PlanLine) (play : Play C A M) → Kept play → Keeping (lines_done d r memory fuel budget workers lines play)
  lines_keep fuel budget workers [] play k = drained fuel budget workers play k
  lines_keep fuel budget workers (line ∷ lines) play k =
      and_keeps Kept (λ next. lines_done d r memory fuel budget workers lines next) (line_done d r memory fuel budget workers play line) (line_keeps fuel budget workers play line k)
      (λ next a. lines_keep fuel budget workers lines next a)

  -- at the start no write was made, and all rules are left
  at_start : IsFirst opened first → Kept (before_all first script)
  at_start start =
      record {
        events = [];
        lead = refl;
        left = subst (λ t. AreRulesLeft script t (λ c. rules_of c script)) (sym start.tape) (λ c. refl);
        each = subst (EachMark (IsRuled d script first.hall.journal)) (sym start.tape) (none_there (IsRuled d script first.hall.journal));
      }

  pub each_written : (budget workers : ℕ) (wants : ℕ) (last : Cell C A M) → IsFirst opened first → IsRehearsalOf d r memory budget workers script wants first last
      → (c : ℕ) → KeepsItsRules d script c (entries_of c last.hall.journal) last.loop.tape
  each_written budget workers wants last start t c =
      let k : Kept t.play = subst Keeping t.done (lines_keep t.fuel budget workers script.lines (before_all first script) (at_start start)) in
      subst (λ (cell : Cell C A M). KeepsItsRules d script c (entries_of c cell.hall.journal) cell.loop.tape) (sym t.same)
      (keeps_rules d script t.play.cell.loop.tape t.play.cell.hall.journal k.each c)
