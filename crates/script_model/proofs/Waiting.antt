-- In a rehearsal a connection whose last payload isn't collected is open, and nothing is left to write of it; and what tells that memory ran out goes on to tell it.
use Rattle.std.proofs.Common.{◌≡◌, ℕ, suc, ◌+◌, ◌<◌, ◌≤◌, ◌⊎◌, Bool, true, false, Option, None, Some, List, [], ◌∷◌, ◌++◌, length, refl, sym, ap, ◌∙◌, subst, inl, inr, arith, length-append}
use Rattle.std.proofs.lemmas.Bool.{cases_eq, cases_lt, true≢false}
use Rattle.std.proofs.lemmas.Option.{none-some}
use Rattle.streams.specs.declared.outcomes.Settled.{Settled}
use Rattle.streams.specs.declared.outcomes.Settled.TheVariants.{Reply as Replied, Nothing, Close as Refused, NoMemory}
use Rattle.streams.specs.declared.marks.Mark.{Mark}
use Rattle.host_model.specs.declared.key.Key.{Key}
use Rattle.host_model.specs.declared.cause.EndCause.{EndCause}
use Rattle.host_model.specs.declared.cause.EndCause.TheVariants.{NoMemory as LackOfMemory}
use Rattle.host_model.specs.Journal.{JournalEntry, ServiceRules, entries_of}
use Rattle.host_model.specs.DeskRules.{DeskRules}
use Rattle.host_model.proofs.Lists.{nil-cons}
use Rattle.machine_model.specs.HallState.{key_of, Job, JobOutcome, HallState}
use Rattle.machine_model.specs.HallRule.{HallOperation, submit, take_job, apply, put, collect, close, HallAnswer, done, job, empty, is_closed, applied, no_memory, journal_fault, is_broken, outcome, outcome_of, TakesEffect, ApplyGives, HallGives}
use Rattle.machine_model.specs.Loop.{LoopConn, new_conn, Loop, OwesNothing, FrameProgress, part, bad_size, whole, read_more, with_conn, changed, ConnEvent, opens, reads, ends, fails_read, writes, fails_write, gives_up, Happens, conn_settled, LoopAsks}
use Rattle.machine_model.specs.Worker.{WorkerState, idle, holds, has_answer, has_none, settlement}
use Rattle.machine_model.specs.Machine.{Cell, with_worker, MachineEvent, on_conn, submits, takes, applies, puts, collects, closes, Steps}
use Rattle.machine_model.specs.Places.{PayloadPlace, collected_all, ready, queued, held_by, put_out, jobs_of, outcomes_of, IsUncollected, PayloadIsAt, CellKeeps}
use Rattle.machine_model.proofs.Lists.{put_same, put_other, own_first}

-- a connection whose last payload isn't collected is open, and nothing is left to write of it
abbrev pub WaitsOpen : LoopConn → Type 0
WaitsOpen conn = conn.collected < length conn.payloads → (conn.cause ≡ None) × (conn.left ≡ [])

pub record AllWait (loop : Loop) : Type 0 where
  pub each : (c : ℕ) → c < loop.count → WaitsOpen (loop.conns c)

-- what is asked of the loop where a connection is given up, and where a payload is submitted
abbrev pub Allowed : Loop → MachineEvent → Type 0
Allowed loop (on_conn (gives_up c cause)) = (loop.conns c).collected < length (loop.conns c).payloads → ⊥
Allowed loop (submits c) = ((loop.conns c).cause ≡ None) × ((loop.conns c).left ≡ [])
Allowed loop _ = Unit {0}

-- how many payloads are submitted and collected of those that were read
pub record Counted (conn : LoopConn) : Type 0 where
  pub submitted : conn.submitted ≤ length conn.payloads
  pub collected : conn.collected ≤ conn.submitted
  pub few : length conn.payloads ≤ suc conn.collected

-- causes stay
record KeepsCauses (old new : Loop) : Type 0 where
  count : old.count ≤ new.count
  cause : (c : ℕ) (k : EndCause) → c < old.count → (old.conns c).cause ≡ Some k → (new.conns c).cause ≡ Some k

-- some outcome is want of memory
abbrev pub HasLack : List JobOutcome → Type 0
HasLack [] = ⊥
HasLack (o ∷ outs) = (o.settled ≡ NoMemory) ⊎ HasLack outs

lack_pushed : (outs : List JobOutcome) (o : JobOutcome) → HasLack outs → HasLack (outs ++ o ∷ [])
lack_pushed [] o h = absurd h
lack_pushed (x ∷ outs) o (inl e) = inl e
lack_pushed (x ∷ outs) o (inr h) = inr (lack_pushed outs o h)

pub lack_last : (outs : List JobOutcome) (o : JobOutcome) → o.settled ≡ NoMemory → HasLack (outs ++ o ∷ [])
lack_last [] o e = inl e
lack_last (x ∷ outs) o e = inr (lack_last outs o e)

-- what tells that memory ran out: the cause of a connection, a worker whose call had no answer, or an outcome
abbrev pub Tells : {C A M : Type 0} → Cell C A M → Type 0
Tells {C} {A} {M} cell =
    ((c : ℕ) × (c < cell.loop.count) × ((cell.loop.conns c).cause ≡ Some LackOfMemory))
    ⊎ (((w : ℕ) × (key : Key) × (payload : List ℕ) × (cell.workers w ≡ has_none key payload)) ⊎ HasLack cell.hall.outcomes)

-- a worker's call had no answer
abbrev pub in_vain : {A : Type 0} → WorkerState A → Bool
in_vain (has_none key payload) = true
in_vain _ = false

module _ (old : Loop) where
  module _ (w : AllWait old) where
    changed_waits : (c : ℕ) (conn : LoopConn) (marks : List Mark) → WaitsOpen conn → AllWait (changed old c conn marks)
    changed_waits c conn marks k = record { each = λ x l. go x l (cases_eq x c) }
      where
        go : (x : ℕ) → x < old.count → (x ≡ c) ⊎ (x ≡ c → ⊥) → WaitsOpen (with_conn old.conns c conn x)
        go x l (inl e) = subst (λ y. WaitsOpen (with_conn old.conns c conn y)) (sym e) (subst (λ (z : LoopConn). WaitsOpen z) (sym (put_same old.conns c conn)) k)
        go x l (inr n) = subst (λ (z : LoopConn). WaitsOpen z) (sym (put_other old.conns c conn x n)) (w.each x l)

    opened_waits : (tape : List Mark) → AllWait (record { tape = tape; count = suc old.count; conns = with_conn old.conns old.count new_conn })
    opened_waits tape = record { each = λ x l. go x l (cases_eq x old.count) }
      where
        go : (x : ℕ) → x < suc old.count → (x ≡ old.count) ⊎ (x ≡ old.count → ⊥) → WaitsOpen (with_conn old.conns old.count new_conn x)
        go x l (inl e) =
            subst (λ y. WaitsOpen (with_conn old.conns old.count new_conn y)) (sym e)
            (subst (λ (z : LoopConn). WaitsOpen z) (sym (put_same old.conns old.count new_conn)) (λ f. absurd (let g : ⊥ = omega arith in g)))
        go x l (inr n) = subst (λ (z : LoopConn). WaitsOpen z) (sym (put_other old.conns old.count new_conn x n)) (w.each x (omega arith))

    -- of a connection that owes nothing, each payload is collected
    none_under_way : (c : ℕ) → (old.conns c).collected ≡ length (old.conns c).payloads → (old.conns c).collected < length (old.conns c).payloads → ⊥
    none_under_way c e f = omega arith

    read_waits : (c : ℕ) (bytes : List ℕ) (progress : FrameProgress) (marks : List Mark) → (old.conns c).cause ≡ None → OwesNothing (old.conns c)
        → AllWait (changed old c (read_more (old.conns c) bytes progress) marks)
    read_waits c bytes part marks o owes = changed_waits c _ marks (λ f. absurd (none_under_way c owes.0 f))
    read_waits c bytes (bad_size size) marks o owes = changed_waits c _ marks (λ f. absurd (none_under_way c owes.0 f))
    read_waits c bytes (whole payload) marks o owes = changed_waits c _ marks (λ f. (o, owes.1))

    event_waits : (max : ℕ) (conn_event : ConnEvent) (new : Loop) → Allowed old (on_conn conn_event) → Happens max old conn_event new → AllWait new
    event_waits max opens new may h = subst AllWait (sym h.1) (opened_waits _)
    event_waits max (reads c bytes) new may h = subst AllWait (sym h.6) (read_waits c bytes h.0 _ h.1.1 h.2)
    event_waits max (ends c) new may h = subst AllWait (sym h.2) (changed_waits c _ _ (λ f. absurd (none_under_way c h.1.0 f)))
    event_waits max (fails_read c) new may h = subst AllWait (sym h.2) (changed_waits c _ _ (λ f. absurd (none_under_way c h.1.0 f)))
    event_waits max (writes c count) new may h =
        subst AllWait (sym h.3)
        (changed_waits c _ _
        (λ f. absurd (let e : length (old.conns c).left ≡ 0 = ap length (w.each c h.0.0 f).1 in let a : 1 ≤ count = h.1 in let b : count ≤ length (old.conns c).left = h.2 in omega arith)))
    event_waits max (fails_write c) new may h = subst AllWait (sym h.2) (changed_waits c _ _ (λ f. absurd (h.1 (w.each c h.0.0 f).1)))
    event_waits max (gives_up c cause) new may h = subst AllWait (sym h.2) (changed_waits c _ _ (λ f. absurd (may f)))

    settled_waits : (c : ℕ) (settled : Settled) (marks : List Mark) (cause : Option EndCause) → Counted (old.conns c) → AllWait (changed old c (conn_settled cause settled (old.conns c)) marks)
    settled_waits c settled marks cause k = changed_waits c _ marks (go cause settled)
      where
        past : suc (old.conns c).collected < length (old.conns c).payloads → ⊥
        past f = let g : length (old.conns c).payloads ≤ suc (old.conns c).collected = k.few in omega arith

        go : (cause : Option EndCause) (settled : Settled) → WaitsOpen (conn_settled cause settled (old.conns c))
        go None (Replied reply) = λ f. absurd (past f)
        go None Nothing = λ f. absurd (past f)
        go None (Refused fault) = λ f. absurd (past f)
        go None NoMemory = λ f. absurd (past f)
        go (Some cause) settled = λ f. absurd (past f)

  changed_keeps : (c : ℕ) (conn : LoopConn) (marks : List Mark) → ((k : EndCause) → (old.conns c).cause ≡ Some k → conn.cause ≡ Some k) → KeepsCauses old (changed old c conn marks)
  changed_keeps c conn marks same = record { count = omega arith; cause = λ x k l e. go x k e (cases_eq x c) }
    where
      go : (x : ℕ) (k : EndCause) → (old.conns x).cause ≡ Some k → (x ≡ c) ⊎ (x ≡ c → ⊥) → (with_conn old.conns c conn x).cause ≡ Some k
      go x k e (inl is) =
          subst (λ y. (with_conn old.conns c conn y).cause ≡ Some k) (sym is)
          (ap (λ (z : LoopConn). z.cause) (put_same old.conns c conn) ∙ same k (subst (λ y. (old.conns y).cause ≡ Some k) is e))
      go x k e (inr n) = ap (λ (z : LoopConn). z.cause) (put_other old.conns c conn x n) ∙ e

  all_keep : KeepsCauses old old
  all_keep = record { count = omega arith; cause = λ c k l e. e }

  open_keeps : (c : ℕ) (conn : LoopConn) (marks : List Mark) → (old.conns c).cause ≡ None → KeepsCauses old (changed old c conn marks)
  open_keeps c conn marks none = changed_keeps c conn marks (λ k e. absurd (none-some k (sym none ∙ e)))

  event_keeps : (max : ℕ) (conn_event : ConnEvent) (new : Loop) → Happens max old conn_event new → KeepsCauses old new
  event_keeps max opens new h =
      subst (KeepsCauses old) (sym h.1)
      (record {
        count = omega arith;
        cause = λ c k l e. ap (λ (z : LoopConn). z.cause) (put_other old.conns old.count new_conn c (λ is. let f : ⊥ = omega arith in f)) ∙ e;
      })
  event_keeps max (reads c bytes) new h = subst (KeepsCauses old) (sym h.6) (open_keeps c _ _ h.1.1)
  event_keeps max (ends c) new h = subst (KeepsCauses old) (sym h.2) (open_keeps c _ _ h.0.1)
  event_keeps max (fails_read c) new h = subst (KeepsCauses old) (sym h.2) (open_keeps c _ _ h.0.1)
  event_keeps max (writes c count) new h = subst (KeepsCauses old) (sym h.3) (open_keeps c _ _ h.0.1)
  event_keeps max (fails_write c) new h = subst (KeepsCauses old) (sym h.2) (open_keeps c _ _ h.0.1)
  event_keeps max (gives_up c cause) new h = subst (KeepsCauses old) (sym h.2) (open_keeps c _ _ h.0.1)

  settled_keeps : (c : ℕ) (settled : Settled) (marks : List Mark) → KeepsCauses old (changed old c (conn_settled (old.conns c).cause settled (old.conns c)) marks)
  settled_keeps c settled marks = go (old.conns c).cause refl
    where
      go : (cause : Option EndCause) → (old.conns c).cause ≡ cause → KeepsCauses old (changed old c (conn_settled cause settled (old.conns c)) marks)
      go None none = open_keeps c _ marks none
      go (Some cause) e = changed_keeps c _ marks (λ k f. f)

abbrev outcomes_in : {C A M : Type 0} → HallState C A M → List JobOutcome
outcomes_in hall = hall.outcomes

module _ {C A M : Type 0} (r : ServiceRules C A M) (old : HallState C A M) where
  -- what leaves the outcomes as they were
  pub submit_same : (key : Key) (payload : List ℕ) (answer : HallAnswer A) (hall : HallState C A M) → HallGives r old (submit key payload) answer hall → hall.outcomes ≡ old.outcomes
  submit_same key payload done hall t = ap outcomes_in t.1
  submit_same key payload is_closed hall t = ap outcomes_in t.1
  submit_same key payload _ hall t = absurd t

  pub take_same : (answer : HallAnswer A) (hall : HallState C A M) → HallGives r old take_job answer hall → hall.outcomes ≡ old.outcomes
  take_same (job k p) hall t = ap outcomes_in t.2
  take_same empty hall t = ap outcomes_in t.2
  take_same is_closed hall t = ap outcomes_in t.2
  take_same _ hall t = absurd t

  pub apply_same : (key : Key) (call : C) (faults : ℕ) (answer : HallAnswer A) (hall : HallState C A M) → ApplyGives r old key call faults answer hall → hall.outcomes ≡ old.outcomes
  apply_same key call faults (applied answer) hall t = ap outcomes_in t.1.1
  apply_same key call faults no_memory hall t = go t.1
    where
      go : (hall ≡ record old { faults = faults }) ⊎ ((answer : A) × TakesEffect r old key call answer faults hall) → hall.outcomes ≡ old.outcomes
      go (inl e) = ap outcomes_in e
      go (inr u) = ap outcomes_in u.1.1
  apply_same key call faults journal_fault hall t = ap outcomes_in t.2
  apply_same key call faults is_broken hall t = ap outcomes_in t.1
  apply_same key call faults _ hall t = absurd t

  pub close_same : (answer : HallAnswer A) (hall : HallState C A M) → HallGives r old close answer hall → hall.outcomes ≡ old.outcomes
  close_same done hall t = ap outcomes_in t
  close_same _ hall t = absurd t

module _ {C A M : Type 0} (d : DeskRules C A) (r : ServiceRules C A M) (opening : List M) where
  -- what is submitted and collected, by the place of the last payload
  one_under : (conn : LoopConn) (before : List (List ℕ)) (p : List ℕ) → IsUncollected conn before p → length before ≤ conn.submitted → conn.submitted ≤ suc (length before) → Counted conn
  one_under conn before p u low high =
      let l : length conn.payloads ≡ length before + 1 = ap length u.last ∙ length-append before (p ∷ []) in
      let e : conn.collected ≡ length before = u.collected in
      record { submitted = omega arith; collected = omega arith; few = omega arith }

  counts_at : (workers : ℕ → WorkerState A) (jobs : List Job) (outs : List JobOutcome) (es : List (JournalEntry C A)) (c : ℕ) (conn : LoopConn) (place : PayloadPlace)
      → PayloadIsAt d workers jobs outs es c conn place → Counted conn
  counts_at workers jobs outs es c conn collected_all a =
      let s : conn.submitted ≡ length conn.payloads = a.2 in
      let e : conn.collected ≡ length conn.payloads = a.3 in
      record { submitted = omega arith; collected = omega arith; few = omega arith }
  counts_at workers jobs outs es c conn ready a = let s : conn.submitted ≡ length a.0 = a.5 in one_under conn a.0 a.1 a.2 (omega arith) (omega arith)
  counts_at workers jobs outs es c conn queued a = let s : conn.submitted ≡ suc (length a.0) = a.5 in one_under conn a.0 a.1 a.2 (omega arith) (omega arith)
  counts_at workers jobs outs es c conn (held_by w) a = let s : conn.submitted ≡ suc (length a.0) = a.5 in one_under conn a.0 a.1 a.2 (omega arith) (omega arith)
  counts_at workers jobs outs es c conn (put_out settled) a = let s : conn.submitted ≡ suc (length a.0) = a.5 in one_under conn a.0 a.1 a.2 (omega arith) (omega arith)

  module _ (cell : Cell C A M) (s : CellKeeps d r opening cell) where
    pub counted : (c : ℕ) → c < cell.loop.count → Counted (cell.loop.conns c)
    counted c l =
        counts_at cell.workers (jobs_of c cell.hall.jobs) (outcomes_of c cell.hall.outcomes) (entries_of c cell.hall.journal) c (cell.loop.conns c) (s.place c) (s.at c l)

    -- where an outcome stands, the last payload of its connection isn't collected
    outcome_under_way : (c : ℕ) (o : JobOutcome) (outs : List JobOutcome) → c < cell.loop.count → outcomes_of c cell.hall.outcomes ≡ o ∷ outs
        → (cell.loop.conns c).collected < length (cell.loop.conns c).payloads
    outcome_under_way c o outs l e = go (s.place c) (s.at c l)
      where
        go : (place : PayloadPlace) → PayloadIsAt d cell.workers (jobs_of c cell.hall.jobs) (outcomes_of c cell.hall.outcomes) (entries_of c cell.hall.journal) c (cell.loop.conns c) place
            → (cell.loop.conns c).collected < length (cell.loop.conns c).payloads
        go collected_all a = absurd (nil-cons o outs (sym a.1 ∙ e))
        go ready a = absurd (nil-cons o outs (sym a.4 ∙ e))
        go queued a = absurd (nil-cons o outs (sym a.4 ∙ e))
        go (held_by w) a = absurd (nil-cons o outs (sym a.4 ∙ e))
        go (put_out settled) a =
            let m : length (cell.loop.conns c).payloads ≡ length a.0 + 1 = ap length a.2.last ∙ length-append a.0 (a.1 ∷ []) in
            let n : (cell.loop.conns c).collected ≡ length a.0 = a.2.collected in
            omega arith

    -- the first outcome is of a connection that was opened, and whose last payload isn't collected
    pub first_outcome : (o : JobOutcome) (outs : List JobOutcome) → cell.hall.outcomes ≡ o ∷ outs
        → (o.key.c < cell.loop.count) × ((cell.loop.conns o.key.c).collected < length (cell.loop.conns o.key.c).payloads)
    first_outcome o outs e =
        let own : outcomes_of o.key.c cell.hall.outcomes ≡ o ∷ outcomes_of o.key.c outs = ap (outcomes_of o.key.c) e ∙ own_first (λ (x : JobOutcome). x.key.c) o.key.c o outs refl in
        go own (cases_lt o.key.c cell.loop.count)
      where
        go : outcomes_of o.key.c cell.hall.outcomes ≡ o ∷ outcomes_of o.key.c outs → (o.key.c < cell.loop.count) ⊎ (cell.loop.count ≤ o.key.c)
            → (o.key.c < cell.loop.count) × ((cell.loop.conns o.key.c).collected < length (cell.loop.conns o.key.c).payloads)
        go own (inl l) = (l, outcome_under_way o.key.c o (outcomes_of o.key.c outs) l own)
        go own (inr l) = absurd (nil-cons o (outcomes_of o.key.c outs) (sym (s.nobody o.key.c l).1 ∙ own))

    collected_waits : AllWait cell.loop → (answer : HallAnswer A) (loop : Loop) (hall : HallState C A M) → LoopAsks {C = C} cell.loop collect answer loop → HallGives r cell.hall collect answer hall
        → AllWait loop
    collected_waits w (outcome key settled) loop hall h t =
        let u : (key.c < cell.loop.count) × _ = first_outcome (outcome_of key settled) t.0 t.1 in
        subst AllWait (sym h) (settled_waits cell.loop w key.c settled _ (cell.loop.conns key.c).cause (counted key.c u.0))
    collected_waits w empty loop hall h t = subst AllWait (sym h) w
    collected_waits w is_closed loop hall h t = subst AllWait (sym h) w
    collected_waits w _ loop hall h t = absurd t

    submitted_waits : AllWait cell.loop → (c i : ℕ) (payload : List ℕ) (answer : HallAnswer A) (loop : Loop) (hall : HallState C A M) → Allowed cell.loop (submits c)
        → LoopAsks {C = C} cell.loop (submit (key_of c i) payload) answer loop → HallGives r cell.hall (submit (key_of c i) payload) answer hall → AllWait loop
    submitted_waits w c i payload done loop hall may h t = subst AllWait (sym h.3) (changed_waits cell.loop w c _ [] (λ f. may))
    submitted_waits w c i payload is_closed loop hall may h t = subst AllWait (sym h.3) w
    submitted_waits w c i payload _ loop hall may h t = absurd t

    -- each event of a rehearsal leaves open what waits
    pub step_waits : AllWait cell.loop → (event : MachineEvent) (new : Cell C A M) → Allowed cell.loop event → Steps d r cell event new → AllWait new.loop
    step_waits w (on_conn conn_event) new may t = subst (λ (x : Cell C A M). AllWait x.loop) (sym t.2) (event_waits cell.loop w d.max conn_event t.0 may t.1)
    step_waits w (submits c) new may t = subst (λ (x : Cell C A M). AllWait x.loop) (sym t.2.5) (submitted_waits w c t.0 t.1 t.2.0 t.2.1 t.2.2 may t.2.3 t.2.4)
    step_waits w (takes k) new may t = subst (λ (x : Cell C A M). AllWait x.loop) (sym t.5) w
    step_waits w (applies k) new may t = subst (λ (x : Cell C A M). AllWait x.loop) (sym t.2.5) w
    step_waits w (puts k) new may t = subst (λ (x : Cell C A M). AllWait x.loop) (sym t.2.5) w
    step_waits w collects new may t = subst (λ (x : Cell C A M). AllWait x.loop) (sym t.5) (collected_waits w t.0 t.1 t.2 t.3 t.4)
    step_waits w closes new may t = subst (λ (x : Cell C A M). AllWait x.loop) (sym t.5) (subst AllWait (sym t.3) w)

    asked_keeps : (op : HallOperation C) (answer : HallAnswer A) (loop : Loop) (hall : HallState C A M) → LoopAsks cell.loop op answer loop → HallGives r cell.hall op answer hall → KeepsCauses cell.loop loop
    asked_keeps (submit key payload) done loop hall h t = subst (KeepsCauses cell.loop) (sym h.3) (changed_keeps cell.loop key.c _ [] (λ k e. e))
    asked_keeps (submit key payload) is_closed loop hall h t = subst (KeepsCauses cell.loop) (sym h.3) (all_keep cell.loop)
    asked_keeps (submit key payload) _ loop hall h t = absurd t
    asked_keeps collect (outcome key settled) loop hall h t = subst (KeepsCauses cell.loop) (sym h) (settled_keeps cell.loop key.c settled _)
    asked_keeps collect empty loop hall h t = subst (KeepsCauses cell.loop) (sym h) (all_keep cell.loop)
    asked_keeps collect is_closed loop hall h t = subst (KeepsCauses cell.loop) (sym h) (all_keep cell.loop)
    asked_keeps collect _ loop hall h t = absurd t
    asked_keeps close answer loop hall h t = subst (KeepsCauses cell.loop) (sym h) (all_keep cell.loop)
    asked_keeps take_job answer loop hall h t = absurd h
    asked_keeps (apply key call) answer loop hall h t = absurd h
    asked_keeps (put key settled) answer loop hall h t = absurd h

    -- the cell after an ask of the loop, and after one of a worker
    abbrev by_loop : Loop → HallState C A M → Cell C A M
    by_loop loop hall = record cell { loop = loop; hall = hall }

    abbrev by_worker : HallState C A M → ℕ → WorkerState A → Cell C A M
    by_worker hall w worker = record cell { hall = hall; workers = with_worker cell.workers w worker }

    -- what tells in one cell tells in the next, where causes stay, and each worker and outcome that tells is seen to
    carry : (new : Cell C A M) → KeepsCauses cell.loop new.loop → ((w : ℕ) (key : Key) (payload : List ℕ) → cell.workers w ≡ has_none key payload → Tells new)
        → (HasLack cell.hall.outcomes → Tells new) → Tells cell → Tells new
    carry new k workers outs (inl t) = let a : t.0 < cell.loop.count = t.1 in let b : cell.loop.count ≤ new.loop.count = k.count in inl (t.0, omega arith, k.cause t.0 LackOfMemory t.1 t.2)
    carry new k workers outs (inr (inl t)) = workers t.0 t.1 t.2 t.3
    carry new k workers outs (inr (inr h)) = outs h

    -- a worker other than the one that asks
    another : (hall : HallState C A M) (w : ℕ) (worker : WorkerState A) → (in_vain (cell.workers w) ≡ true → Tells (by_worker hall w worker))
        → (x : ℕ) (key : Key) (payload : List ℕ) → cell.workers x ≡ has_none key payload → Tells (by_worker hall w worker)
    another hall w worker own x key payload e = go (cases_eq x w)
      where
        go : (x ≡ w) ⊎ (x ≡ w → ⊥) → Tells (by_worker hall w worker)
        go (inl is) = own (ap in_vain (subst (λ y. cell.workers y ≡ has_none key payload) is e))
        go (inr n) = inr (inl (x, key, payload, put_other cell.workers w worker x n ∙ e))

    not_in_vain : (w : ℕ) (worker : WorkerState A) (X : Type 0) → cell.workers w ≡ worker → in_vain worker ≡ false → in_vain (cell.workers w) ≡ true → X
    not_in_vain w worker X is f t = absurd (true≢false (sym t ∙ ap in_vain is ∙ f))

    lack_kept : (new : Cell C A M) → new.hall.outcomes ≡ cell.hall.outcomes → HasLack cell.hall.outcomes → Tells new
    lack_kept new same h = inr (inr (subst HasLack (sym same) h))

    -- a job whose call had no answer is settled with want of memory
    settles_so : (worker : WorkerState A) (settled : Settled) → in_vain worker ≡ true → (settlement d worker ≡ Some settled) ⊎ (settled ≡ NoMemory) → settled ≡ NoMemory
    settles_so worker settled v (inr e) = e
    settles_so idle settled v (inl e) = absurd (true≢false (sym v))
    settles_so (holds key payload) settled v (inl e) = absurd (true≢false (sym v))
    settles_so (has_answer key payload answer) settled v (inl e) = absurd (true≢false (sym v))
    settles_so (has_none key payload) settled v (inl e) = absurd (none-some settled e)

    put_tells : (w : ℕ) (key : Key) (settled : Settled) (answer : HallAnswer A) (hall : HallState C A M) (worker : WorkerState A)
        → (settlement d (cell.workers w) ≡ Some settled) ⊎ (settled ≡ NoMemory) → HallGives r cell.hall (put key settled) answer hall → Tells cell
        → Tells (by_worker hall w worker)
    put_tells w key settled done hall worker as_settled t =
        carry (by_worker hall w worker) (all_keep cell.loop)
        (another hall w worker
        (λ v. inr (inr (subst HasLack (sym (ap outcomes_in t)) (lack_last cell.hall.outcomes (outcome_of key settled) (settles_so (cell.workers w) settled v as_settled))))))
        (λ h. inr (inr (subst HasLack (sym (ap outcomes_in t)) (lack_pushed cell.hall.outcomes (outcome_of key settled) h))))
    put_tells w key settled _ hall worker as_settled t = absurd t

    -- an outcome that is want of memory ends its connection, which has no cause yet
    collect_tells : AllWait cell.loop → (answer : HallAnswer A) (loop : Loop) (hall : HallState C A M) → LoopAsks {C = C} cell.loop collect answer loop → HallGives r cell.hall collect answer hall → Tells cell
        → Tells (by_loop loop hall)
    collect_tells w (outcome key settled) loop hall h t =
        carry (by_loop loop hall) (asked_keeps collect (outcome key settled) loop hall h t) (λ x k p e. inr (inl (x, k, p, e))) (λ l. go (subst HasLack t.1 l))
      where
        ends_so : settled ≡ NoMemory → (loop.conns key.c).cause ≡ Some LackOfMemory
        ends_so lack =
            let u : (key.c < cell.loop.count) × ((cell.loop.conns key.c).collected < length (cell.loop.conns key.c).payloads) = first_outcome (outcome_of key settled) t.0 t.1 in
            ap (λ (x : Loop). (x.conns key.c).cause) h ∙ ap (λ (x : LoopConn). x.cause) (put_same cell.loop.conns key.c (conn_settled (cell.loop.conns key.c).cause settled (cell.loop.conns key.c)))
            ∙ ap (λ (x : Option EndCause). (conn_settled x settled (cell.loop.conns key.c)).cause) (w.each key.c u.0 u.1).0
            ∙ ap (λ (x : Settled). (conn_settled None x (cell.loop.conns key.c)).cause) lack

        go : (settled ≡ NoMemory) ⊎ HasLack t.0 → Tells (by_loop loop hall)
        go (inl lack) =
            let u : (key.c < cell.loop.count) × ((cell.loop.conns key.c).collected < length (cell.loop.conns key.c).payloads) = first_outcome (outcome_of key settled) t.0 t.1 in
            inl (key.c, subst (λ (x : Loop). key.c < x.count) (sym h) u.0, ends_so lack)
        go (inr l) = inr (inr (subst HasLack (sym (ap outcomes_in t.2)) l))
    collect_tells w empty loop hall h t = carry (by_loop loop hall) (asked_keeps collect empty loop hall h t) (λ x k p e. inr (inl (x, k, p, e))) (lack_kept (by_loop loop hall) (ap outcomes_in t.2))
    collect_tells w is_closed loop hall h t =
        carry (by_loop loop hall) (asked_keeps collect is_closed loop hall h t) (λ x k p e. inr (inl (x, k, p, e))) (lack_kept (by_loop loop hall) (ap outcomes_in t.2))
    collect_tells w _ loop hall h t = absurd t

    -- each event leaves what tells telling
    pub step_tells : AllWait cell.loop → (event : MachineEvent) (new : Cell C A M) → Steps d r cell event new → Tells cell → Tells new
    step_tells w (on_conn conn_event) new t =
        subst (λ (x : Cell C A M). Tells cell → Tells x) (sym t.2)
        (carry (record cell { loop = t.0 }) (event_keeps cell.loop d.max conn_event t.0 t.1) (λ x k p e. inr (inl (x, k, p, e))) (λ h. inr (inr h)))
    step_tells w (submits c) new t =
        let b = t.2 in
        subst (λ (x : Cell C A M). Tells cell → Tells x) (sym b.5)
        (carry (by_loop b.1 b.2) (asked_keeps (submit (key_of c t.0) t.1) b.0 b.1 b.2 b.3 b.4) (λ x k p e. inr (inl (x, k, p, e)))
        (lack_kept (by_loop b.1 b.2) (submit_same r cell.hall (key_of c t.0) t.1 b.0 b.2 b.4)))
    step_tells w (takes k) new t =
        subst (λ (x : Cell C A M). Tells cell → Tells x) (sym t.5)
        (carry (by_worker t.2 k t.1) (all_keep cell.loop) (another t.2 k t.1 (not_in_vain k idle _ t.3.0 refl))
        (lack_kept (by_worker t.2 k t.1) (take_same r cell.hall t.0 t.2 t.4)))
    step_tells w (applies k) new t =
        let b = t.2 in
        subst (λ (x : Cell C A M). Tells cell → Tells x) (sym b.5)
        (carry (by_worker b.2 k b.1) (all_keep cell.loop) (another b.2 k b.1 (not_in_vain k (holds t.0 b.3.0) _ b.3.1 refl))
        (lack_kept (by_worker b.2 k b.1) (apply_same r cell.hall t.0 t.1 b.4.0 b.0 b.2 b.4.2)))
    step_tells w (puts k) new t = subst (λ (x : Cell C A M). Tells cell → Tells x) (sym t.2.5) (put_tells k t.0 t.1 t.2.0 t.2.2 t.2.1 t.2.3.0.1 t.2.4)
    step_tells w collects new t = subst (λ (x : Cell C A M). Tells cell → Tells x) (sym t.5) (collect_tells w t.0 t.1 t.2 t.3 t.4)
    step_tells w closes new t =
        subst (λ (x : Cell C A M). Tells cell → Tells x) (sym t.5)
        (carry (by_loop t.1 t.2) (asked_keeps close t.0 t.1 t.2 t.3 t.4) (λ x k p e. inr (inl (x, k, p, e)))
        (lack_kept (by_loop t.1 t.2) (close_same r cell.hall t.0 t.2 t.4)))
