-- Where memory ran out it tells: by a worker or an outcome at first, and at the end by the cause of a connection.
use Rattle.std.proofs.Common.{◌≡◌, ℕ, suc, ◌+◌, ◌-◌, ◌<◌, ◌≤◌, ◌⊎◌, min, not, nat_lt, nat_le, Bool, true, false, if◌then◌else◌, Option, None, Some, List, [], ◌∷◌, ◌++◌, map, length, take, drop, refl, sym, ap, ◌∙◌, subst, inl, inr, ⊎_elim, option_map, arith}
use Rattle.std.proofs.lemmas.Bool.{and_parts, ltb-false, true≢false, false≢true}
use Rattle.std.proofs.lemmas.Option.{none-some, same_Some}
use Rattle.streams.specs.declared.outcomes.Settled.TheVariants.{NoMemory as Lack}
use Rattle.host_model.specs.declared.key.Key.{Key}
use Rattle.host_model.specs.declared.cause.EndCause.{EndCause}
use Rattle.host_model.specs.declared.cause.EndCause.TheVariants.{NoMemory}
use Rattle.host_model.specs.Journal.{ServiceRules}
use Rattle.host_model.specs.DeskRules.{DeskRules, DeskDecision, Close, Silent, Reply, Invoke}
use Rattle.machine_model.specs.HallState.{Job, JobOutcome}
use Rattle.machine_model.specs.HallRule.{outcome_of}
use Rattle.machine_model.specs.Loop.{LoopConn, Loop, ConnEvent, opens, reads, ends, fails_read, writes, fails_write, gives_up, with_cause}
use Rattle.machine_model.specs.Worker.{WorkerState, idle, holds, has_answer, has_none, key_held}
use Rattle.machine_model.specs.Machine.{Cell, with_worker, MachineEvent, on_conn, submits, takes, puts, collects, Steps, EventsLead, IsFirst}
use Rattle.machine_model.specs.Plain.{is_empty, is_open, has_none_yet, ApplyResult, lacks_for_call, lacks_for_answer, Told, goes, applies_so, puts_none, event_told, told_plain, run_plain, apply_result_plain, broken_plain, call_plain, apply_plain, lack_plain}
use Rattle.machine_model.specs.Places.{CellKeeps}
use Rattle.machine_model.specs.AtFronts.{size_in}
use Rattle.machine_model.proofs.Lists.{put_same}
use Rattle.machine_model.proofs.Merging.{runs-append}
use Rattle.script_model.specs.ScriptLines.{PlanRule, takes_most, blocks, fails, ScriptPlan}
use Rattle.script_model.specs.Playing.{InputFinish, finishes, faults, MemoryAt, lacking_for_call, lacking_for_answer, is_ample, Play, most_read, at_number, pieces_left, moved_on, all_admitted, event_on, or_else, told_without, told_wanting, by_memory, admission, freed, freed_if_over, with_rules, with_unread, told_in, on_one, read_behind, read_move, write_move, size_move, open_move, conn_move, step_of_worker, worker_move, collect_first}
use Rattle.script_model.specs.Rehearsing.{before_all, IsRehearsalOf}
use Rattle.script_model.proofs.Waiting.{AllWait, Allowed, HasLack, lack_last, Tells, step_waits, step_tells}
use Rattle.script_model.proofs.Clearing.{Quiet, Clears, step_clears}
use Rattle.script_model.proofs.Lasting.{Holding, by_test, mapped_holds, or_holds, lines_hold}

no_cause : (cause : Option EndCause) → has_none_yet cause ≡ true → cause ≡ None
no_cause None e = refl
no_cause (Some cause) e = absurd (false≢true e)

none_left : (left : List ℕ) → not (is_empty left) ≡ false → left ≡ []
none_left [] e = refl
none_left (byte ∷ bytes) e = absurd (true≢false e)

module _ {C A M : Type 0} (d : DeskRules C A) (r : ServiceRules C A M) where
  -- the cell tells that memory ran out, and its hall is as broken as it was
  record Wanted (old new : Cell C A M) : Type 0 where
    tells : Tells new
    broken : new.hall.broken ≡ old.hall.broken

  -- what is told where memory runs out: it gives up nothing that is under way, and the cell tells of it then
  record Wants (cell : Cell C A M) (told : Told) : Type 0 where
    may : Allowed cell.loop (event_told told)
    wanted : (next : Cell C A M) → told_plain d r cell told ≡ Some next → Steps d r cell (event_told told) next → Wanted cell next

  put_wants : (cell : Cell C A M) (w : ℕ) → Wants cell (puts_none w)
  put_wants cell w = record { may = tt; wanted = λ next e s. go (key_held (cell.workers w)) next e }
    where
      go : (key : Option Key) (next : Cell C A M) → lack_plain cell w key ≡ Some next → Wanted cell next
      go None next e = absurd (none-some next e)
      go (Some key) next e = subst (Wanted cell) (same_Some _ next e) (record { tells = inr (inr (lack_last cell.hall.outcomes (outcome_of key Lack) refl)); broken = refl })

  module _ (cell : Cell C A M) (w : ℕ) where
    -- an Apply without an answer
    in_vain_so : (next : Cell C A M) (key : Key) (payload : List ℕ) → next.workers ≡ with_worker cell.workers w (has_none key payload) → next.hall.broken ≡ cell.hall.broken → Wanted cell next
    in_vain_so next key payload e f =
        record { tells = inr (inl (w, key, payload, ap (λ (x : ℕ → WorkerState A). x w) e ∙ put_same cell.workers w (has_none key payload))); broken = f }

    apply_wants : (apply_result : ApplyResult)
        → ((key : Key) (payload : List ℕ) (call : C) (m : Option M) (next : Cell C A M) → apply_result_plain r cell w key payload call apply_result m ≡ Some next → Wanted cell next)
        → ((key : Key) (payload : List ℕ) (next : Cell C A M) → broken_plain cell w key payload apply_result ≡ Some next → Wanted cell next) → Wants cell (applies_so w apply_result)
    apply_wants apply_result applied broken = record { may = tt; wanted = λ next e s. by_holding (cell.workers w) next e }
      where
        by_hall : (b : Bool) (key : Key) (payload : List ℕ) (call : C) (m : Option M) (next : Cell C A M)
            → (if b then broken_plain cell w key payload apply_result else apply_result_plain r cell w key payload call apply_result m) ≡ Some next → Wanted cell next
        by_hall true key payload call m next e = broken key payload next e
        by_hall false key payload call m next e = applied key payload call m next e

        by_decision : (decision : DeskDecision C) (key : Key) (payload : List ℕ) (next : Cell C A M) → call_plain r cell w key payload apply_result decision ≡ Some next → Wanted cell next
        by_decision (Invoke call) key payload next e = by_hall cell.hall.broken key payload call _ next e
        by_decision (Close fault) key payload next e = absurd (none-some next e)
        by_decision Silent key payload next e = absurd (none-some next e)
        by_decision (Reply reply) key payload next e = absurd (none-some next e)

        by_holding : (worker : WorkerState A) (next : Cell C A M) → apply_plain d r cell w apply_result worker ≡ Some next → Wanted cell next
        by_holding (holds key payload) next e = by_decision (d.decide payload) key payload next e
        by_holding idle next e = absurd (none-some next e)
        by_holding (has_answer key payload answer) next e = absurd (none-some next e)
        by_holding (has_none key payload) next e = absurd (none-some next e)

    call_wants : Wants cell (applies_so w lacks_for_call)
    call_wants =
        apply_wants lacks_for_call
        (λ key payload call m next e. subst (Wanted cell) (same_Some _ next e) (in_vain_so (record cell { workers = with_worker cell.workers w (has_none key payload) }) key payload refl refl))
        (λ key payload next e. absurd (none-some next e))

    answer_wants : Wants cell (applies_so w lacks_for_answer)
    answer_wants = apply_wants lacks_for_answer go (λ key payload next e. absurd (none-some next e))
      where
        go : (key : Key) (payload : List ℕ) (call : C) (m : Option M) (next : Cell C A M) → apply_result_plain r cell w key payload call lacks_for_answer m ≡ Some next → Wanted cell next
        go key payload call None next e = absurd (none-some next e)
        go key payload call (Some m) next e = subst (Wanted cell) (same_Some _ next e) (in_vain_so _ key payload refl refl)

  without_wants : (cell : Cell C A M) (w : ℕ) (at : MemoryAt) (decision : DeskDecision C) → Wants cell (told_without d r w at decision)
  without_wants cell w lacking_for_call (Invoke call) = call_wants cell w
  without_wants cell w lacking_for_answer (Invoke call) = answer_wants cell w
  without_wants cell w _ decision = put_wants cell w

  give_wants : (cell : Cell C A M) (c : ℕ) → ((cell.loop.conns c).collected < length (cell.loop.conns c).payloads → ⊥) → Wants cell (goes (on_conn (gives_up c NoMemory)))
  give_wants cell c none = record { may = none; wanted = λ next e s. given next s }
    where
      given : (next : Cell C A M) → Steps d r cell (on_conn (gives_up c NoMemory)) next → Wanted cell next
      given next s =
          record {
            tells = inl (
              c,
              subst (λ (x : Cell C A M). c < x.loop.count) (sym s.2) (subst (λ (x : Loop). c < x.count) (sym s.1.2) s.1.0.0),
              ap (λ (x : Cell C A M). (x.loop.conns c).cause) s.2 ∙ ap (λ (x : Loop). (x.conns c).cause) s.1.2
                  ∙ ap (λ (x : LoopConn). x.cause) (put_same cell.loop.conns c (with_cause (cell.loop.conns c) NoMemory)),
            );
            broken = ap (λ (x : Cell C A M). x.hall.broken) s.2;
          }

module _ {C A M : Type 0} (d : DeskRules C A) (r : ServiceRules C A M) (memory : ℕ → MemoryAt) (memories : List M) (first : Cell C A M)
    (computes : (first cell : Cell C A M) (told : List Told) → run_plain d r told (Some first) ≡ Some cell → EventsLead d r first (map event_told told) cell)
    (stands : (cell : Cell C A M) (events : List MachineEvent) → EventsLead d r first events cell → CellKeeps d r memories cell) where
  -- the cell is one that a run reaches, what is under way in it waits, its hall isn't broken; and it tells that memory ran out just where it did
  pub record ShowsAt (cell : Cell C A M) (wants : ℕ) : Type 0 where
    pub events : List MachineEvent
    pub lead : EventsLead d r first events cell
    pub waits : AllWait cell.loop
    pub whole : cell.hall.broken ≡ false
    pub told : (wants ≡ 0) ⊎ Tells cell
    pub only : wants ≡ 0 → Tells cell → ⊥

  abbrev pub Shows : Play C A M → Type 0
  Shows play = ShowsAt play.cell play.wants

  abbrev Showing : Option (Play C A M) → Type 0
  Showing o = Holding Shows o

  told_shows : (play : Play C A M) (told : Told) → Shows play → Allowed play.cell.loop (event_told told)
      → ((next : Cell C A M) → told_plain d r play.cell told ≡ Some next → Steps d r play.cell (event_told told) next → Clears d r play.cell next) → Showing (told_in d r play told)
  told_shows play told s may clears = go (told_plain d r play.cell told) refl
    where
      go : (o : Option (Cell C A M)) → told_plain d r play.cell told ≡ o → Showing (option_map (λ cell. record play { cell = cell; moves = suc play.moves }) o)
      go None e = tt
      go (Some cell) e =
          let l : EventsLead d r play.cell (event_told told ∷ []) cell = computes play.cell cell (told ∷ []) e in
          let step : Steps d r play.cell (event_told told) cell = subst (Steps d r play.cell (event_told told)) (sym l.2) l.1 in
          let k : CellKeeps d r memories play.cell = stands play.cell s.events s.lead in
          let x : Clears d r play.cell cell = clears cell e step in
          record {
            events = s.events ++ event_told told ∷ [];
            lead = runs-append d r first play.cell cell s.events (event_told told ∷ []) s.lead l;
            waits = step_waits d r memories play.cell k s.waits (event_told told) cell may step;
            whole = x.broken ∙ s.whole;
            told = ⊎_elim (λ z. inl z) (λ t. inr (step_tells d r memories play.cell k s.waits (event_told told) cell step t)) s.told;
            only = λ z t. s.only z (x.back t);
          }

  wanting_shows : (play : Play C A M) (told : Told) → Shows play → Wants d r play.cell told → Showing (told_wanting d r play told)
  wanting_shows play told s wants = go (told_plain d r play.cell told) refl
    where
      go : (o : Option (Cell C A M)) → told_plain d r play.cell told ≡ o → Showing (option_map (λ cell. record play { cell = cell; moves = suc play.moves; wants = suc play.wants }) o)
      go None e = tt
      go (Some cell) e =
          let l : EventsLead d r play.cell (event_told told ∷ []) cell = computes play.cell cell (told ∷ []) e in
          let step : Steps d r play.cell (event_told told) cell = subst (Steps d r play.cell (event_told told)) (sym l.2) l.1 in
          let k : CellKeeps d r memories play.cell = stands play.cell s.events s.lead in
          let x : Wanted d r play.cell cell = wants.wanted cell e step in
          record {
            events = s.events ++ event_told told ∷ [];
            lead = runs-append d r first play.cell cell s.events (event_told told ∷ []) s.lead l;
            waits = step_waits d r memories play.cell k s.waits (event_told told) cell wants.may step;
            whole = x.broken ∙ s.whole;
            told = inr x.tells;
            only = λ z t. let f : ⊥ = omega arith in f;
          }

  event_shows : (play : Play C A M) (event : MachineEvent) → Shows play → Allowed play.cell.loop event → Quiet event → Showing (told_in d r play (goes event))
  event_shows play event s may quiet = told_shows play (goes event) s may (λ next e step. step_clears d r play.cell event next quiet s.whole e step)

  memory_shows : (play : Play C A M) (at : MemoryAt) (told : Told) (o : Option (Play C A M)) → Shows play → Wants d r play.cell told → Showing o → Showing (by_memory d r at play told o)
  memory_shows play at told o s wants a =
      by_test Shows (is_ample at) o (or_else (told_wanting d r play told) o) (λ e. a) (λ e. or_holds Shows (told_wanting d r play told) o (wanting_shows play told s wants) a)

  one_shows : (play : Play C A M) (c : ℕ) (conn_event : ConnEvent) → Shows play → Allowed play.cell.loop (on_conn conn_event) → Quiet (on_conn conn_event) → Showing (on_one d r play c conn_event)
  one_shows play c conn_event s may quiet =
      mapped_holds Shows (freed_if_over c) (told_in d r play (goes (on_conn conn_event))) (λ p h. h) (event_shows play (on_conn conn_event) s may quiet)

  behind_shows : (play : Play C A M) (c : ℕ) (finish : Option InputFinish) → Shows play → Showing (read_behind d r play c finish)
  behind_shows play c None s = tt
  behind_shows play c (Some finishes) s = one_shows play c (ends c) s tt tt
  behind_shows play c (Some faults) s = one_shows play c (fails_read c) s tt tt

  read_shows : (play : Play C A M) (c missing : ℕ) (pieces : List (List ℕ)) → Shows play → Showing (read_move d r play c missing pieces)
  read_shows play c missing [] s = behind_shows play c (play.finish c) s
  read_shows play c missing (bytes ∷ pieces) s =
      let n : ℕ = min (min missing most_read) (length bytes) in
      mapped_holds Shows (with_unread c (pieces_left (drop n bytes) pieces)) (on_one d r play c (reads c (take n bytes))) (λ p h. h) (one_shows play c (reads c (take n bytes)) s tt tt)

  write_shows : (play : Play C A M) (c : ℕ) (left : List ℕ) (rules : List PlanRule) → Shows play → Showing (write_move d r play c left rules)
  write_shows play c left [] s = one_shows play c (writes c (length left)) s tt tt
  write_shows play c left (takes_most count ∷ rules) s =
      mapped_holds Shows (with_rules c rules) (on_one d r play c (writes c (min count (length left)))) (λ p h. h) (one_shows play c (writes c (min count (length left))) s tt tt)
  write_shows play c left (blocks ∷ rules) s = s
  write_shows play c left (fails ∷ rules) s = mapped_holds Shows (with_rules c rules) (on_one d r play c (fails_write c)) (λ p h. h) (one_shows play c (fails_write c) s tt tt)

  size_shows : (budget : ℕ) (play : Play C A M) (c : ℕ) (held : List ℕ) (size : Option ℕ) → Shows play → ((play.cell.loop.conns c).collected < length (play.cell.loop.conns c).payloads → ⊥)
      → Showing (size_move d r memory budget play c held size)
  size_shows budget play c held (Some size) s none = read_shows play c ((4 + size) - length held) (play.unread c) s
  size_shows budget play c held None s none =
      let next : Play C A M = moved_on (record play { admitted = at_number play.admitted c (Some (size_in held)) }) in
      by_test Shows (nat_le (all_admitted play + size_in held) budget) (admission d r memory play c (size_in held)) None
      (λ e. memory_shows play (memory play.moves) (goes (on_conn (gives_up c NoMemory))) (Some next) s (give_wants d r play.cell c none) s) (λ e. tt)

  open_shows : (budget c : ℕ) (play : Play C A M) → Shows play → (play.cell.loop.conns c).cause ≡ None → Showing (open_move d r memory budget play c (play.cell.loop.conns c))
  open_shows budget c play s is_open =
      let conn : LoopConn = play.cell.loop.conns c in
      let sizing : Option (Play C A M) = read_move d r play c (4 - length conn.held) (play.unread c) in
      let sized : Option (Play C A M) = size_move d r memory budget play c conn.held (play.admitted c) in
      let reading : Option (Play C A M) = if nat_lt (length conn.held) 4 then sizing else sized in
      let waiting : Option (Play C A M) = if nat_lt conn.collected conn.submitted then None else reading in
      let submitting : Option (Play C A M) = if nat_lt conn.submitted (length conn.payloads) then told_in d r play (goes (submits c)) else waiting in
      by_test Shows (not (is_empty conn.left)) (write_move d r play c conn.left (play.rules c)) submitting (λ e. write_shows play c conn.left (play.rules c) s)
      (λ left. by_test Shows (nat_lt conn.submitted (length conn.payloads)) (told_in d r play (goes (submits c))) waiting
      (λ e. event_shows play (submits c) s (is_open, none_left conn.left left) tt)
      (λ submitted. by_test Shows (nat_lt conn.collected conn.submitted) None reading (λ f. tt)
      (λ still. by_test Shows (nat_lt (length conn.held) 4) sizing sized (λ f. read_shows play c (4 - length conn.held) (play.unread c) s)
      (λ f. size_shows budget play c conn.held (play.admitted c) s
      (λ l.
      let k : length conn.payloads ≤ conn.submitted = ltb-false conn.submitted (length conn.payloads) submitted in
      let m : conn.submitted ≤ conn.collected = ltb-false conn.collected conn.submitted still in
      let g : ⊥ = omega arith in
      g)))))

  conn_shows : (budget c : ℕ) (play : Play C A M) → Shows play → Showing (conn_move d r memory budget c play)
  conn_shows budget c play s =
      by_test Shows (is_open play.cell.loop c) (open_move d r memory budget play c (play.cell.loop.conns c)) None
      (λ e. open_shows budget c play s (no_cause (play.cell.loop.conns c).cause (and_parts (nat_lt c play.cell.loop.count) (has_none_yet (play.cell.loop.conns c).cause) e).1)) (λ e. tt)

  event_may : (loop : _) (w : ℕ) (decision : DeskDecision C) → Allowed loop (event_on d r w decision)
  event_may loop w (Invoke call) = tt
  event_may loop w (Close fault) = tt
  event_may loop w Silent = tt
  event_may loop w (Reply reply) = tt

  event_quiet : (w : ℕ) (decision : DeskDecision C) → Quiet (event_on d r w decision)
  event_quiet w (Invoke call) = tt
  event_quiet w (Close fault) = tt
  event_quiet w Silent = tt
  event_quiet w (Reply reply) = tt

  -- where a worker's call had no answer, the cell has told already
  none_clears : (play : Play C A M) (w : ℕ) (key : Key) (payload : List ℕ) → play.cell.workers w ≡ has_none key payload → (next : Cell C A M) → told_plain d r play.cell (puts_none w) ≡ Some next
      → Clears d r play.cell next
  none_clears play w key payload is next e = go (key_held (play.cell.workers w)) e
    where
      go : (held : Option Key) → lack_plain play.cell w held ≡ Some next → Clears d r play.cell next
      go None f = absurd (none-some next f)
      go (Some k) f = subst (Clears d r play.cell) (same_Some _ next f) (record { back = λ t. inr (inl (w, key, payload, is)); broken = refl })

  step_shows : (play : Play C A M) (w : ℕ) (worker : WorkerState A) (jobs : List Job) → play.cell.workers w ≡ worker → Shows play → Showing (step_of_worker d r memory play w worker jobs)
  step_shows play w idle [] is s = tt
  step_shows play w idle (job ∷ jobs) is s = event_shows play (takes w) s tt tt
  step_shows play w (holds key payload) jobs is s =
      let told : Told = goes (event_on d r w (d.decide payload)) in
      memory_shows play (memory play.moves) (told_without d r w (memory play.moves) (d.decide payload)) (told_in d r play told) s
      (without_wants d r play.cell w (memory play.moves) (d.decide payload)) (event_shows play (event_on d r w (d.decide payload)) s (event_may play.cell.loop w (d.decide payload)) (event_quiet w (d.decide payload)))
  step_shows play w (has_answer key payload answer) jobs is s =
      memory_shows play (memory play.moves) (puts_none w) (told_in d r play (goes (puts w))) s (put_wants d r play.cell w) (event_shows play (puts w) s tt tt)
  step_shows play w (has_none key payload) jobs is s = told_shows play (puts_none w) s tt (λ next e step. none_clears play w key payload is next e)

  worker_shows : (w : ℕ) (play : Play C A M) → Shows play → Showing (worker_move d r memory w play)
  worker_shows w play s = step_shows play w (play.cell.workers w) play.cell.hall.jobs refl s

  first_shows : (play : Play C A M) (outcomes : List JobOutcome) → Shows play → Showing (collect_first d r play outcomes)
  first_shows play [] s = tt
  first_shows play (outcome ∷ outcomes) s = mapped_holds Shows (freed outcome.key.c) (told_in d r play (goes collects)) (λ p h. h) (event_shows play collects s tt tt)

  -- before the first line nothing tells
  first_tells : IsFirst memories first → Tells first → ⊥
  first_tells is_first (inl t) = let none : first.loop.count ≡ 0 = is_first.count in let l : t.0 < first.loop.count = t.1 in let f : ⊥ = omega arith in f
  first_tells is_first (inr (inl t)) = none-some t.1 (ap key_held (sym (is_first.workers t.0) ∙ t.3))
  first_tells is_first (inr (inr h)) = subst HasLack is_first.hall.opened.outcomes h

  at_first : (script : ScriptPlan) → IsFirst memories first → Shows (before_all first script)
  at_first script is_first =
      let none : first.loop.count ≡ 0 = is_first.count in
      record {
        events = [];
        lead = refl;
        waits = record { each = λ c l. absurd (let f : ⊥ = omega arith in f) };
        whole = is_first.hall.opened.broken;
        told = inl refl;
        only = λ z t. first_tells is_first t;
      }

  -- at the end of a rehearsal
  pub shown : (budget workers : ℕ) (script : ScriptPlan) (wants : ℕ) (last : Cell C A M) → IsFirst memories first → IsRehearsalOf d r memory budget workers script wants first last → ShowsAt last wants
  shown budget workers script wants last is_first t =
      let s : Shows t.play =
      subst Showing t.done
      (lines_hold Shows d r memory conn_shows worker_shows (λ play s. first_shows play play.cell.hall.outcomes s) (λ play s. event_shows play (on_conn opens) s tt tt) (λ play unread finish s. s)
      t.fuel budget workers script.lines (before_all first script) (at_first script is_first)) in
      subst (λ (x : Cell C A M × ℕ). ShowsAt x.0 x.1) (λ i. (sym t.same i, sym t.count i)) s

  -- where no worker has a job and no outcome is left, a connection tells
  pub at_its_end : (budget workers : ℕ) (script : ScriptPlan) (wants : ℕ) (last : Cell C A M) → IsFirst memories first → IsRehearsalOf d r memory budget workers script wants first last
      → ((w : ℕ) → last.workers w ≡ idle) → last.hall.outcomes ≡ [] → ((c : ℕ) → c < last.loop.count → (last.loop.conns c).cause ≡ Some NoMemory → ⊥) → wants ≡ 0
  at_its_end budget workers script wants last is_first t idles none no_cause = go (shown budget workers script wants last is_first t).told
    where
      key_of_idle : (w : ℕ) (key : Key) (payload : List ℕ) → last.workers w ≡ has_none key payload → ⊥
      key_of_idle w key payload e = none-some key (ap key_held (sym (idles w) ∙ e))

      go : (wants ≡ 0) ⊎ Tells last → wants ≡ 0
      go (inl z) = z
      go (inr (inl k)) = absurd (no_cause k.0 k.1 k.2)
      go (inr (inr (inl k))) = absurd (key_of_idle k.0 k.1 k.2 k.3)
      go (inr (inr (inr k))) = absurd (subst HasLack none k)
