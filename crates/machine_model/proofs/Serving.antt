-- What the loop and the workers ask of the hall: what they do to the last payload of one connection.
use Rattle.std.proofs.Common.{◌≡◌, ℕ, suc, ◌+◌, ◌<◌, ◌≤◌, ◌^◌, ◌⊎◌, true, false, Option, None, Some, List, [], ◌∷◌, ◌++◌, length, slice_get, refl, sym, ap, ◌∙◌, subst, inl, inr, arith, append-nil, length-append}
use Rattle.std.proofs.lemmas.Bool.{cases_eq, cases_lt, true≢false}
use Rattle.std.proofs.lemmas.Option.{none-some, same_Some, slice_get_past}
use Rattle.streams.specs.declared.outcomes.Settled.{Settled}
use Rattle.streams.specs.declared.outcomes.Settled.TheVariants.{NoMemory}
use Rattle.host_model.specs.declared.key.Key.{Key}
use Rattle.host_model.specs.declared.cause.EndCause.{EndCause}
use Rattle.host_model.specs.Journal.{JournalEntry, ServiceRules, after, after_call, IsAnswered, entries_of}
use Rattle.host_model.specs.DeskRules.{DeskRules, Invoke}
use Rattle.host_model.specs.Conversation.{Done}
use Rattle.host_model.specs.World.{Endpoint, enters, with_endpoint, Enters}
use Rattle.host_model.proofs.Lists.{nil-cons, cons_parts}
use Rattle.host_model.proofs.Replies.{numbers_done, done_called}
use Rattle.host_model.proofs.Filters.{entries_same, entries_other}
use Rattle.machine_model.specs.HallState.{key_of, Job, JobOutcome, HallState, without}
use Rattle.machine_model.specs.HallRule.{take_job, apply, put, HallAnswer, done, job, empty, is_closed, applied, no_memory, journal_fault, is_broken, job_of, outcome_of, entry_under, SubmitGives, TakeGives, TakesEffect, ApplyGives, PutGives}
use Rattle.machine_model.specs.Loop.{LoopConn, changed, submitted_more, after_submit}
use Rattle.machine_model.specs.Worker.{WorkerState, idle, holds, has_answer, has_none, settlement, settled_by, settled_with, key_held, WorkerAsks}
use Rattle.machine_model.specs.Machine.{Cell, with_worker}
use Rattle.machine_model.specs.Places.{PayloadPlace, collected_all, ready, queued, held_by, put_out, jobs_of, outcomes_of, IsUncollected, IsEntered, Carries, IsOutcome, PayloadIsAt}
use Rattle.machine_model.proofs.Lists.{put_same, put_other, own_push, own_push_other, own_first, own_first_other, get_last, answer_last, after_push}
use Rattle.machine_model.proofs.Standing.{uncalled, entered, EndpointIs, Sim, done_but_last, entered_more, carried_key}
use Rattle.machine_model.proofs.Changing.{changed_one}

-- the worker of a place
abbrev worker_of : PayloadPlace → ℕ
worker_of (held_by w) = w
worker_of _ = 0

module _ {C A : Type 0} (d : DeskRules C A) where
  past_all : (conn : LoopConn) (n : ℕ) (payload : List ℕ) → length conn.payloads ≤ n → slice_get conn.payloads n ≡ Some payload → ⊥
  past_all conn n payload l e = none-some payload (sym (slice_get_past conn.payloads n l) ∙ e)

  past_last : (conn : LoopConn) (n : ℕ) (payload : List ℕ) (before : List (List ℕ)) (p : List ℕ) → IsUncollected conn before p → n ≡ suc (length before)
      → slice_get conn.payloads n ≡ Some payload → ⊥
  past_last conn n payload before p u e at =
      let l : length conn.payloads ≡ length before + 1 = ap length u.last ∙ length-append before (p ∷ []) in
      past_all conn n payload (omega arith) at

  -- what is submitted is ready
  ready_by_submit : (workers : ℕ → WorkerState A) (jobs : List Job) (outs : List JobOutcome) (es : List (JournalEntry C A)) (c : ℕ) (conn : LoopConn) (payload : List ℕ) (place : PayloadPlace)
      → slice_get conn.payloads conn.submitted ≡ Some payload → PayloadIsAt d workers jobs outs es c conn place → place ≡ ready
  ready_by_submit workers jobs outs es c conn payload collected_all get a =
      let f : conn.submitted ≡ length conn.payloads = a.2 in absurd (past_all conn conn.submitted payload (omega arith) get)
  ready_by_submit workers jobs outs es c conn payload ready get a = refl
  ready_by_submit workers jobs outs es c conn payload queued get a = absurd (past_last conn conn.submitted payload a.0 a.1 a.2 a.5 get)
  ready_by_submit workers jobs outs es c conn payload (held_by w) get a = absurd (past_last conn conn.submitted payload a.0 a.1 a.2 a.5 get)
  ready_by_submit workers jobs outs es c conn payload (put_out settled) get a = absurd (past_last conn conn.submitted payload a.0 a.1 a.2 a.5 get)

  -- what is taken is queued
  queued_by_take : (workers : ℕ → WorkerState A) (first : Job) (jobs : List Job) (outs : List JobOutcome) (es : List (JournalEntry C A)) (c : ℕ) (conn : LoopConn) (place : PayloadPlace)
      → PayloadIsAt d workers (first ∷ jobs) outs es c conn place → place ≡ queued
  queued_by_take workers first jobs outs es c conn collected_all a = absurd (nil-cons first jobs (sym a.0))
  queued_by_take workers first jobs outs es c conn ready a = absurd (nil-cons first jobs (sym a.3))
  queued_by_take workers first jobs outs es c conn queued a = refl
  queued_by_take workers first jobs outs es c conn (held_by w) a = absurd (nil-cons first jobs (sym a.3))
  queued_by_take workers first jobs outs es c conn (put_out settled) a = absurd (nil-cons first jobs (sym a.3))

  -- what a worker puts is what its payload came to
  outcome_by_put : (es : List (JournalEntry C A)) (key : Key) (before : List (List ℕ)) (p : List ℕ) (settled : Settled) (worker : WorkerState A) → Carries d es key before p worker
      → (settlement d worker ≡ Some settled) ⊎ (settled ≡ NoMemory) → IsOutcome d es before p settled
  outcome_by_put es key before p settled idle t m = absurd t
  outcome_by_put es key before p settled (holds k payload) t m =
      inl (t.2, subst (λ q. (settled_by (d.decide q) ≡ Some settled) ⊎ (settled ≡ NoMemory)) t.1 m)
  outcome_by_put es key before p settled (has_answer k payload answer) t m =
      inr (answer, t.2, subst (λ q. (settled_with d q answer (d.decide q) ≡ Some settled) ⊎ (settled ≡ NoMemory)) t.1 m)
  outcome_by_put es key before p settled (has_none k payload) t (inl e) = absurd (none-some settled e)
  outcome_by_put es key before p settled (has_none k payload) t (inr e) = unanswered t.2
    where
      unanswered : Done d es before ⊎ ((answer : A) × IsEntered d es before p answer) → IsOutcome d es before p settled
      unanswered (inl f) = inl (f, inr e)
      unanswered (inr f) = inr (f.0, f.1, inr e)

  -- a connection's stage changes once its payload's call is entered
  enters_uncalled : (cause : Option EndCause) → Enters (uncalled cause) (entered cause)
  enters_uncalled None = refl
  enters_uncalled (Some cause) = refl

module _ {C A M : Type 0} (d : DeskRules C A) (r : ServiceRules C A M) (opening : List M) where
  -- the world does nothing
  pub still : (old new : Cell C A M) (s : Sim d r opening old) (c : ℕ) (place : PayloadPlace) → old.loop.tape ≡ new.loop.tape → old.hall.journal ≡ new.hall.journal
      → (new.hall.broken ≡ false → new.hall.memories ≡ after r opening new.hall.journal) → old.loop.count ≡ new.loop.count → c < old.loop.count
      → ((x : ℕ) → (x ≡ c → ⊥) → old.loop.conns x ≡ new.loop.conns x)
      → ((x : ℕ) → (x ≡ c → ⊥) → jobs_of x old.hall.jobs ≡ jobs_of x new.hall.jobs)
      → ((x : ℕ) → (x ≡ c → ⊥) → outcomes_of x old.hall.outcomes ≡ outcomes_of x new.hall.outcomes)
      → ((x w : ℕ) → (x ≡ c → ⊥) → x < old.loop.count → s.place x ≡ held_by w → old.workers w ≡ new.workers w)
      → PayloadIsAt d new.workers (jobs_of c new.hall.jobs) (outcomes_of c new.hall.outcomes) (entries_of c new.hall.journal) c (new.loop.conns c) place
      → EndpointIs d (entries_of c new.hall.journal) (new.loop.conns c) (s.world.endpoints c) place
      → ((w : ℕ) (key : Key) → key_held (new.workers w) ≡ Some key → ((key.c ≡ c) × (place ≡ held_by w)) ⊎ ((key.c ≡ c → ⊥) × (key_held (old.workers w) ≡ Some key)))
      → Sim d r opening new
  still old new s c place tape journal memories count lt conns jobs outs others at endpoint workers =
      changed_one d r opening old new s c place
      (record {
        acts = s.acts;
        world = s.world;
        reached = s.reached;
        tape = s.tape ∙ tape;
        journal = s.journal ∙ journal;
        memories = memories;
        inside = omega arith;
        before = λ x n l. omega arith;
        more = omega arith;
        conns = conns;
        endpoints = λ x n. refl;
        jobs = jobs;
        outcomes = outs;
        entries = λ x n. ap (entries_of x) journal;
        others = others;
        at = at;
        endpoint = endpoint;
        workers = workers;
      })

  module _ (old : Cell C A M) (s : Sim d r opening old) where
    submit_kept : (key : Key) (payload : List ℕ) → key.c < old.loop.count → key.i ≡ (old.loop.conns key.c).submitted
        → slice_get (old.loop.conns key.c).payloads key.i ≡ Some payload
        → Sim d r opening (record old {
          loop = changed old.loop key.c (submitted_more (old.loop.conns key.c)) [];
          hall = record old.hall { jobs = old.hall.jobs ++ job_of key payload ∷ [] };
        })
    submit_kept key payload lt number get =
        let c : ℕ = key.c in
        let conn : LoopConn = old.loop.conns c in
        let es : List (JournalEntry C A) = entries_of c old.hall.journal in
        let jobs : List Job = jobs_of c old.hall.jobs in
        let outs : List JobOutcome = outcomes_of c old.hall.outcomes in
        let e : s.place c ≡ ready =
        ready_by_submit d old.workers jobs outs es c conn payload (s.place c) (subst (λ n. slice_get conn.payloads n ≡ Some payload) number get) (s.at c lt) in
        let a : PayloadIsAt d old.workers jobs outs es c conn ready = subst (PayloadIsAt d old.workers jobs outs es c conn) e (s.at c lt) in
        let u : IsUncollected conn a.0 a.1 = a.2 in
        let n : key.i ≡ length a.0 = number ∙ a.5 in
        let same : payload ≡ a.1 =
        same_Some payload a.1 (sym get ∙ ap (slice_get conn.payloads) n ∙ ap (λ ps. slice_get ps (length a.0)) u.last ∙ get_last a.0 a.1) in
        let l : EndpointIs d es conn (s.world.endpoints c) ready = subst (EndpointIs d es conn (s.world.endpoints c)) e (s.endpoint c lt) in
        still old (record old { loop = changed old.loop c (submitted_more conn) []; hall = record old.hall { jobs = old.hall.jobs ++ job_of key payload ∷ [] } }) s c queued
        (sym (append-nil old.loop.tape)) refl s.memories refl lt
        (λ x n. sym (put_other old.loop.conns c (submitted_more conn) x n))
        (λ x n. sym (own_push_other (λ (j : Job). j.key.c) x old.hall.jobs (job_of key payload) (λ q. n (sym q))))
        (λ x n. refl) (λ x w n k h. refl)
        (subst (λ k. PayloadIsAt d old.workers (jobs_of c (old.hall.jobs ++ job_of key payload ∷ [])) outs es c k queued) (sym (put_same old.loop.conns c (submitted_more conn))) (
          a.0,
          a.1,
          record { last = u.last; none_held = u.none_held; none_left = u.none_left; collected = u.collected },
          own_push (λ (j : Job). j.key.c) c old.hall.jobs (job_of key payload) refl ∙ ap (λ js. js ++ job_of key payload ∷ []) a.3
              ∙ (λ i. job_of (key_of c (n i)) (same i) ∷ []),
          a.4,
          ap suc a.5,
          a.6,
        ))
        (subst (λ k. EndpointIs d es k (s.world.endpoints c) queued) (sym (put_same old.loop.conns c (submitted_more conn))) (record { payloads = l.payloads; held = l.held; stage = l.stage }))
        (λ w y h. held w y h (cases_eq y.c c) e)
      where
        held : (w : ℕ) (y : Key) → key_held (old.workers w) ≡ Some y → (y.c ≡ key.c) ⊎ (y.c ≡ key.c → ⊥) → s.place key.c ≡ ready
            → ((y.c ≡ key.c) × (queued ≡ held_by w)) ⊎ ((y.c ≡ key.c → ⊥) × (key_held (old.workers w) ≡ Some y))
        held w y h (inl q) e = absurd (let f : ready ≡ held_by w = sym e ∙ subst (λ x. s.place x ≡ held_by w) q (s.workers w y h).1 in let g : ⊥ = cc in g)
        held w y h (inr n) e = inr (n, h)

    -- no other connection's payload is in the hand of a worker that holds none, or holds connection c's
    elsewhere : (c w : ℕ) → ((y : Key) → key_held (old.workers w) ≡ Some y → y.c ≡ c) → (x : ℕ) → (x ≡ c → ⊥) → x < old.loop.count → s.place x ≡ held_by w → ⊥
    elsewhere c w own x n l e =
        let jobs : List Job = jobs_of x old.hall.jobs in
        let outs : List JobOutcome = outcomes_of x old.hall.outcomes in
        let es : List (JournalEntry C A) = entries_of x old.hall.journal in
        let a : PayloadIsAt d old.workers jobs outs es x (old.loop.conns x) (held_by w) = subst (PayloadIsAt d old.workers jobs outs es x (old.loop.conns x)) e (s.at x l) in
        n (own (key_of x (length a.0)) (carried_key d es (key_of x (length a.0)) a.0 a.1 (old.workers w) a.6))

    worker_others : (c w : ℕ) (worker : WorkerState A) → ((y : Key) → key_held (old.workers w) ≡ Some y → y.c ≡ c)
        → (x v : ℕ) → (x ≡ c → ⊥) → x < old.loop.count → s.place x ≡ held_by v → old.workers v ≡ with_worker old.workers w worker v
    worker_others c w worker own x v n l e = go (cases_eq v w)
      where
        go : (v ≡ w) ⊎ (v ≡ w → ⊥) → old.workers v ≡ with_worker old.workers w worker v
        go (inl same) = absurd (elsewhere c w own x n l (e ∙ ap held_by same))
        go (inr other) = sym (put_other old.workers w worker v other)

    one_worker : (c w : ℕ) (worker : WorkerState A) (place : PayloadPlace) → ((y : Key) → key_held worker ≡ Some y → (y.c ≡ c) × (place ≡ held_by w))
        → ((v : ℕ) → (v ≡ w → ⊥) → s.place c ≡ held_by v → ⊥) → (v : ℕ) (y : Key) → key_held (with_worker old.workers w worker v) ≡ Some y
        → ((y.c ≡ c) × (place ≡ held_by v)) ⊎ ((y.c ≡ c → ⊥) × (key_held (old.workers v) ≡ Some y))
    one_worker c w worker place mine only v y h = go (cases_eq v w)
      where
        there : (v ≡ w → ⊥) → key_held (old.workers v) ≡ Some y → (y.c ≡ c) ⊎ (y.c ≡ c → ⊥)
            → ((y.c ≡ c) × (place ≡ held_by v)) ⊎ ((y.c ≡ c → ⊥) × (key_held (old.workers v) ≡ Some y))
        there other k (inl e) = absurd (only v other (subst (λ x. s.place x ≡ held_by v) e (s.workers v y k).1))
        there other k (inr n) = inr (n, k)

        go : (v ≡ w) ⊎ (v ≡ w → ⊥) → ((y.c ≡ c) × (place ≡ held_by v)) ⊎ ((y.c ≡ c → ⊥) × (key_held (old.workers v) ≡ Some y))
        go (inl same) =
            let k : key_held worker ≡ Some y =
            sym (ap key_held (subst (λ x. with_worker old.workers w worker x ≡ worker) (sym same) (put_same old.workers w worker))) ∙ h in
            inl ((mine y k).0, (mine y k).1 ∙ ap held_by (sym same))
        go (inr other) = there other (sym (ap key_held (put_other old.workers w worker v other)) ∙ h) (cases_eq y.c c)

    -- worker w asks, and the world does nothing
    by_worker : (c w : ℕ) (worker : WorkerState A) (hall : HallState C A M) (place : PayloadPlace) → c < old.loop.count → old.hall.journal ≡ hall.journal
        → (hall.broken ≡ false → hall.memories ≡ after r opening hall.journal)
        → ((x : ℕ) → (x ≡ c → ⊥) → jobs_of x old.hall.jobs ≡ jobs_of x hall.jobs)
        → ((x : ℕ) → (x ≡ c → ⊥) → outcomes_of x old.hall.outcomes ≡ outcomes_of x hall.outcomes)
        → ((y : Key) → key_held (old.workers w) ≡ Some y → y.c ≡ c) → ((y : Key) → key_held worker ≡ Some y → (y.c ≡ c) × (place ≡ held_by w))
        → ((v : ℕ) → (v ≡ w → ⊥) → s.place c ≡ held_by v → ⊥)
        → PayloadIsAt d (with_worker old.workers w worker) (jobs_of c hall.jobs) (outcomes_of c hall.outcomes) (entries_of c hall.journal) c (old.loop.conns c) place
        → EndpointIs d (entries_of c hall.journal) (old.loop.conns c) (s.world.endpoints c) place
        → Sim d r opening (record old { hall = hall; workers = with_worker old.workers w worker })
    by_worker c w worker hall place lt journal memories jobs outs own mine only at endpoint =
        still old (record old { hall = hall; workers = with_worker old.workers w worker }) s c place refl journal memories refl lt (λ x n. refl) jobs outs
        (worker_others c w worker own) at endpoint (one_worker c w worker place mine only)

    -- a hand that is put back leaves the cell as it was
    same_worker : (w : ℕ) (worker : WorkerState A) → worker ≡ old.workers w → Sim d r opening (record old { workers = with_worker old.workers w worker })
    same_worker w worker e = subst (λ h. Sim d r opening (record old { workers = h })) (λ i v. go v (cases_eq v w) i) s
      where
        go : (v : ℕ) → (v ≡ w) ⊎ (v ≡ w → ⊥) → old.workers v ≡ with_worker old.workers w worker v
        go v (inl same) = sym (subst (λ x. with_worker old.workers w worker x ≡ old.workers x) (sym same) (put_same old.workers w worker ∙ e))
        go v (inr other) = sym (put_other old.workers w worker v other)

    take_kept : (w : ℕ) (key : Key) (payload : List ℕ) (later : List Job) → old.workers w ≡ idle → old.hall.jobs ≡ job_of key payload ∷ later
        → Sim d r opening (record old { hall = record old.hall { jobs = later; taken = old.hall.taken ++ key ∷ [] }; workers = with_worker old.workers w (holds key payload) })
    take_kept w key payload later none first = inside (cases_lt key.c old.loop.count)
      where
        own_jobs : jobs_of key.c old.hall.jobs ≡ job_of key payload ∷ jobs_of key.c later
        own_jobs = ap (jobs_of key.c) first ∙ own_first (λ (j : Job). j.key.c) key.c (job_of key payload) later refl

        inside : (key.c < old.loop.count) ⊎ (old.loop.count ≤ key.c)
            → Sim d r opening (record old { hall = record old.hall { jobs = later; taken = old.hall.taken ++ key ∷ [] }; workers = with_worker old.workers w (holds key payload) })
        inside (inr past) = absurd (nil-cons (job_of key payload) (jobs_of key.c later) (sym (s.nobody key.c past).0 ∙ own_jobs))
        inside (inl lt) =
            let c : ℕ = key.c in
            let conn : LoopConn = old.loop.conns c in
            let es : List (JournalEntry C A) = entries_of c old.hall.journal in
            let outs : List JobOutcome = outcomes_of c old.hall.outcomes in
            let b : PayloadIsAt d old.workers (job_of key payload ∷ jobs_of c later) outs es c conn (s.place c) =
            subst (λ js. PayloadIsAt d old.workers js outs es c conn (s.place c)) own_jobs (s.at c lt) in
            let e : s.place c ≡ queued = queued_by_take d old.workers (job_of key payload) (jobs_of c later) outs es c conn (s.place c) b in
            let a : PayloadIsAt d old.workers (job_of key payload ∷ jobs_of c later) outs es c conn queued =
            subst (PayloadIsAt d old.workers (job_of key payload ∷ jobs_of c later) outs es c conn) e b in
            let parts : (job_of key payload ≡ job_of (key_of c (length a.0)) a.1) × (jobs_of c later ≡ []) =
            cons_parts (job_of key payload) (job_of (key_of c (length a.0)) a.1) (jobs_of c later) [] a.3 in
            let l : EndpointIs d es conn (s.world.endpoints c) queued = subst (EndpointIs d es conn (s.world.endpoints c)) e (s.endpoint c lt) in
            by_worker c w (holds key payload) (record old.hall { jobs = later; taken = old.hall.taken ++ key ∷ [] }) (held_by w) lt refl s.memories
            (λ x n. ap (jobs_of x) first ∙ own_first_other (λ (j : Job). j.key.c) x (job_of key payload) later (λ q. n (sym q)))
            (λ x n. refl)
            (λ y h. absurd (none-some y (sym (ap key_held none) ∙ h)))
            (λ y h. (sym (ap (λ (k : Key). k.c) (same_Some key y h)), refl))
            (λ v n h. let f : queued ≡ held_by v = sym e ∙ h in let g : ⊥ = cc in g) (
              a.0,
              a.1,
              a.2,
              parts.1,
              a.4,
              a.5,
              subst (Carries d es (key_of c (length a.0)) a.0 a.1) (sym (put_same old.workers w (holds key payload)))
                  (ap (λ (j : Job). j.key) parts.0, ap (λ (j : Job). j.payload) parts.0, a.6),
            )
            (record { payloads = l.payloads; held = l.held; stage = l.stage })

    module _ (w : ℕ) (key : Key) (known : key_held (old.workers w) ≡ Some key) where
      -- what the worker holds
      abbrev es : List (JournalEntry C A)
      es = entries_of key.c old.hall.journal

      abbrev conn : LoopConn
      conn = old.loop.conns key.c

      abbrev At : PayloadPlace → Type 0
      At place = PayloadIsAt d old.workers (jobs_of key.c old.hall.jobs) (outcomes_of key.c old.hall.outcomes) es key.c conn place

      lt : key.c < old.loop.count
      lt = (s.workers w key known).0

      there : s.place key.c ≡ held_by w
      there = (s.workers w key known).1

      at_worker : At (held_by w)
      at_worker = subst At there (s.at key.c lt)

      endpoint_worker : EndpointIs d es conn (s.world.endpoints key.c) (held_by w)
      endpoint_worker = subst (EndpointIs d es conn (s.world.endpoints key.c)) there (s.endpoint key.c lt)

      own : (y : Key) → key_held (old.workers w) ≡ Some y → y.c ≡ key.c
      own y h = sym (ap (λ (k : Key). k.c) (same_Some key y (sym known ∙ h)))

      only : (v : ℕ) → (v ≡ w → ⊥) → s.place key.c ≡ held_by v → ⊥
      only v n e = n (sym (ap worker_of (sym there ∙ e)))

      named : (a : At (held_by w)) → key ≡ key_of key.c (length a.0)
      named a = same_Some key (key_of key.c (length a.0)) (sym known ∙ carried_key d es (key_of key.c (length a.0)) a.0 a.1 (old.workers w) a.6)

      put_kept : (settled : Settled) → (settlement d (old.workers w) ≡ Some settled) ⊎ (settled ≡ NoMemory)
          → Sim d r opening (record old {
            hall = record old.hall { taken = without key old.hall.taken; outcomes = old.hall.outcomes ++ outcome_of key settled ∷ [] };
            workers = with_worker old.workers w idle;
          })
      put_kept settled progress =
          let a : At (held_by w) = at_worker in
          let l : EndpointIs d es conn (s.world.endpoints key.c) (held_by w) = endpoint_worker in
          by_worker key.c w idle (record old.hall { taken = without key old.hall.taken; outcomes = old.hall.outcomes ++ outcome_of key settled ∷ [] }) (put_out settled) lt refl s.memories
          (λ x n. refl)
          (λ x n. sym (own_push_other (λ (o : JobOutcome). o.key.c) x old.hall.outcomes (outcome_of key settled) (λ q. n (sym q))))
          own (λ y h. absurd (none-some y h)) only (
            a.0,
            a.1,
            a.2,
            a.3,
            own_push (λ (o : JobOutcome). o.key.c) key.c old.hall.outcomes (outcome_of key settled) refl ∙ ap (λ os. os ++ outcome_of key settled ∷ []) a.4
                ∙ (λ i. outcome_of (named a i) settled ∷ []),
            a.5,
            outcome_by_put d es (key_of key.c (length a.0)) a.0 a.1 settled (old.workers w) a.6 progress,
          )
          (record { payloads = l.payloads; held = l.held; stage = l.stage })

      -- an Apply that leaves the journal leaves the payload without an answer
      unapplied_kept : (payload : List ℕ) (hall : HallState C A M) → old.workers w ≡ holds key payload → old.hall.journal ≡ hall.journal → old.hall.jobs ≡ hall.jobs → old.hall.outcomes ≡ hall.outcomes
          → (hall.broken ≡ false → hall.memories ≡ after r opening hall.journal)
          → Sim d r opening (record old { hall = hall; workers = with_worker old.workers w (has_none key payload) })
      unapplied_kept payload hall is journal jobs outs memories =
          let a : At (held_by w) = at_worker in
          let l : EndpointIs d es conn (s.world.endpoints key.c) (held_by w) = endpoint_worker in
          let t : Carries d es (key_of key.c (length a.0)) a.0 a.1 (holds key payload) = subst (Carries d es (key_of key.c (length a.0)) a.0 a.1) is a.6 in
          by_worker key.c w (has_none key payload) hall (held_by w) lt journal memories (λ x n. ap (jobs_of x) jobs) (λ x n. ap (outcomes_of x) outs)
          own (λ y h. (sym (ap (λ (k : Key). k.c) (same_Some key y h)), refl)) only
          (subst (λ (u : List Job × List JobOutcome × List (JournalEntry C A)). PayloadIsAt d (with_worker old.workers w (has_none key payload)) u.0 u.1 u.2 key.c conn (held_by w))
          (λ i. (jobs_of key.c (jobs i), outcomes_of key.c (outs i), entries_of key.c (journal i))) (
            a.0,
            a.1,
            a.2,
            a.3,
            a.4,
            a.5,
            subst (Carries d es (key_of key.c (length a.0)) a.0 a.1) (sym (put_same old.workers w (has_none key payload))) (t.0, t.1, inl t.2),
          ))
          (subst (λ j. EndpointIs d (entries_of key.c j) conn (s.world.endpoints key.c) (held_by w)) journal l)

      -- the call takes effect: the world enters it
      entry_kept : (payload : List ℕ) (call : C) (answer : A) (faults : ℕ) (hall : HallState C A M) (worker : WorkerState A) → d.max < 2 ^ 31 → old.workers w ≡ holds key payload → d.decide payload ≡ Invoke call
          → old.hall.broken ≡ false → TakesEffect r old.hall key call answer faults hall → key_held worker ≡ Some key
          → ((es' : List (JournalEntry C A)) (k : Key) (before : List (List ℕ)) (p : List ℕ) → key ≡ k → payload ≡ p → IsEntered d es' before p answer → Carries d es' k before p worker)
          → Sim d r opening (record old { hall = hall; workers = with_worker old.workers w worker })
      entry_kept payload call answer faults hall worker small is asks whole effect mine carries =
          let c : ℕ = key.c in
          let a : At (held_by w) = at_worker in
          let l : EndpointIs d es conn (s.world.endpoints c) (held_by w) = endpoint_worker in
          let u : IsUncollected conn a.0 a.1 = a.2 in
          let t : Carries d es (key_of c (length a.0)) a.0 a.1 (holds key payload) = subst (Carries d es (key_of c (length a.0)) a.0 a.1) is a.6 in
          let e : JournalEntry C A = entry_under key call answer in
          let number : key.i ≡ length a.0 = ap (λ (k : Key). k.i) t.0 in
          let says : d.decide a.1 ≡ Invoke call = ap d.decide (sym t.1) ∙ asks in
          let stage : (s.world.endpoints c).stage ≡ uncalled conn.cause = l.stage.before (done_but_last d es conn.payloads a.0 a.1 u.last t.2) in
          let journal : List (JournalEntry C A) = old.hall.journal ++ e ∷ [] in
          let same : entries_of c journal ≡ es ++ e ∷ [] = entries_same c old.hall.journal e refl in
          let in_it : IsEntered d (es ++ e ∷ []) a.0 a.1 answer =
          (call, says, done_called d es e a.0 a.1 says number t.2, answer_last (length a.0) es e (numbers_done d (length a.0) es a.0 (omega arith) t.2) number) in
          let entered_now : IsEntered d (entries_of c journal) a.0 a.1 answer = subst (λ xs. IsEntered d xs a.0 a.1 answer) (sym same) in_it in
          let new_endpoint : Endpoint = record (s.world.endpoints c) { stage = entered conn.cause } in
          let memories : old.hall.memories ≡ after r opening s.world.journal = s.memories whole ∙ ap (after r opening) (sym s.journal) in
          subst (λ h. Sim d r opening (record old { hall = h; workers = with_worker old.workers w worker })) (sym effect.1)
          (changed_one d r opening old
          (record old {
            hall = record old.hall { journal = journal; memories = after_call r old.hall.memories call; faults = faults };
            workers = with_worker old.workers w worker;
          })
          s c (held_by w)
          (record {
            acts = enters e ∷ s.acts;
            world = record { tape = s.world.tape; journal = s.world.journal ++ e ∷ []; endpoints = with_endpoint s.world.endpoints c new_endpoint };
            reached = (
              s.world,
              s.reached,
              (
                a.0,
                a.1,
                entered conn.cause,
                l.payloads ∙ u.last,
                subst (λ st. Enters st (entered conn.cause)) (sym stage) (enters_uncalled d conn.cause),
                says,
                number,
                subst (λ ms. IsAnswered r ms e) memories effect.0,
                refl,
              ),
            );
            tape = s.tape;
            journal = ap (λ j. j ++ e ∷ []) s.journal;
            memories = λ f. ap (λ ms. after_call r ms call) (s.memories whole) ∙ sym (after_push r opening old.hall.journal e);
            inside = lt;
            before = λ x n k. k;
            more = omega arith;
            conns = λ x n. refl;
            endpoints = λ x n. sym (put_other s.world.endpoints c new_endpoint x n);
            jobs = λ x n. refl;
            outcomes = λ x n. refl;
            entries = λ x n. sym (entries_other x old.hall.journal e (λ q. n (sym q)));
            others = worker_others c w worker own;
            at = (
              a.0,
              a.1,
              a.2,
              a.3,
              a.4,
              a.5,
              subst (Carries d (entries_of c journal) (key_of c (length a.0)) a.0 a.1) (sym (put_same old.workers w worker))
                  (carries (entries_of c journal) (key_of c (length a.0)) a.0 a.1 t.0 t.1 entered_now),
            );
            endpoint = subst (λ x. EndpointIs d (entries_of c journal) conn x (held_by w)) (sym (put_same s.world.endpoints c new_endpoint))
                (record {
                  payloads = l.payloads;
                  held = l.held;
                  stage = record {
                    before = λ done. absurd (entered_more d (entries_of c journal) conn.payloads a.0 a.1 answer u.last entered_now done);
                    behind = λ _. refl;
                  };
                });
            workers = one_worker c w worker (held_by w) (λ y h. (sym (ap (λ (k : Key). k.c) (same_Some key y (sym mine ∙ h))), refl)) only;
          }))

    -- Submit
    pub submits_kept : (key : Key) (payload : List ℕ) (answer : HallAnswer A) (hall : HallState C A M) → key.c < old.loop.count → key.i ≡ (old.loop.conns key.c).submitted
        → slice_get (old.loop.conns key.c).payloads key.i ≡ Some payload → SubmitGives old.hall key payload answer hall
        → Sim d r opening (record old { loop = after_submit old.loop key.c answer; hall = hall })
    submits_kept key payload done hall inside number get g =
        subst (λ h. Sim d r opening (record old { loop = changed old.loop key.c (submitted_more (old.loop.conns key.c)) []; hall = h })) (sym g.1)
        (submit_kept key payload inside number get)
    submits_kept key payload is_closed hall inside number get g = subst (λ h. Sim d r opening (record old { hall = h })) (sym g.1) s
    submits_kept key payload _ hall inside number get g = absurd g

    -- Take
    pub takes_kept : (w : ℕ) (answer : HallAnswer A) (worker : WorkerState A) (hall : HallState C A M) → WorkerAsks d (old.workers w) take_job answer worker → TakeGives old.hall answer hall
        → Sim d r opening (record old { hall = hall; workers = with_worker old.workers w worker })
    takes_kept w (job key payload) worker hall asks g =
        subst (λ (t : HallState C A M × WorkerState A). Sim d r opening (record old { hall = t.0; workers = with_worker old.workers w t.1 })) (λ i. (sym g.2 i, sym asks.1 i))
        (take_kept w key payload g.0 asks.0 g.1)
    takes_kept w empty worker hall asks g =
        subst (λ h. Sim d r opening (record old { hall = h; workers = with_worker old.workers w worker })) (sym g.2) (same_worker w worker (asks.1 ∙ sym asks.0))
    takes_kept w is_closed worker hall asks g =
        subst (λ h. Sim d r opening (record old { hall = h; workers = with_worker old.workers w worker })) (sym g.2) (same_worker w worker (asks.1 ∙ sym asks.0))
    takes_kept w _ worker hall asks g = absurd g

    -- Put
    pub puts_kept : (w : ℕ) (key : Key) (settled : Settled) (answer : HallAnswer A) (worker : WorkerState A) (hall : HallState C A M) → WorkerAsks d (old.workers w) (put key settled) answer worker
        → PutGives old.hall key settled answer hall → Sim d r opening (record old { hall = hall; workers = with_worker old.workers w worker })
    puts_kept w key settled done worker hall asks g =
        subst (λ (t : HallState C A M × WorkerState A). Sim d r opening (record old { hall = t.0; workers = with_worker old.workers w t.1 })) (λ i. (sym g i, sym asks.1 i))
        (put_kept w key asks.0.0 settled asks.0.1)
    puts_kept w key settled _ worker hall asks g = absurd g

    -- Apply
    pub applies_kept : (w : ℕ) (key : Key) (call : C) (answer : HallAnswer A) (worker : WorkerState A) (hall : HallState C A M) (faults : ℕ) → d.max < 2 ^ 31
        → WorkerAsks d (old.workers w) (apply key call) answer worker → ApplyGives r old.hall key call faults answer hall
        → Sim d r opening (record old { hall = hall; workers = with_worker old.workers w worker })
    applies_kept w key call (applied answer) worker hall faults small asks g =
        subst (λ h. Sim d r opening (record old { hall = hall; workers = with_worker old.workers w h })) (sym asks.3)
        (entry_kept w key (ap key_held asks.1) asks.0 call answer faults hall (has_answer key asks.0 answer) small asks.1 asks.2 g.0 g.1 refl (λ es k before p e q t. (e, q, t)))
    applies_kept w key call no_memory worker hall faults small asks g = tried_kept g.1
      where
        tried_kept : (hall ≡ record old.hall { faults = faults }) ⊎ ((answer : A) × TakesEffect r old.hall key call answer faults hall)
            → Sim d r opening (record old { hall = hall; workers = with_worker old.workers w worker })
        tried_kept (inl e) =
            subst (λ (t : HallState C A M × WorkerState A). Sim d r opening (record old { hall = t.0; workers = with_worker old.workers w t.1 })) (λ i. (sym e i, sym asks.3 i))
            (unapplied_kept w key (ap key_held asks.1) asks.0 (record old.hall { faults = faults }) asks.1 refl refl refl s.memories)
        tried_kept (inr t) =
            subst (λ h. Sim d r opening (record old { hall = hall; workers = with_worker old.workers w h })) (sym asks.3)
            (entry_kept w key (ap key_held asks.1) asks.0 call t.0 faults hall (has_none key asks.0) small asks.1 asks.2 g.0 t.1 refl (λ es k before p e q u. (e, q, inr (t.0, u))))
    applies_kept w key call journal_fault worker hall faults small asks g =
        subst (λ (t : HallState C A M × WorkerState A). Sim d r opening (record old { hall = t.0; workers = with_worker old.workers w t.1 })) (λ i. (sym g.2 i, sym asks.3 i))
        (unapplied_kept w key (ap key_held asks.1) asks.0 (record old.hall { memories = after_call r old.hall.memories call; faults = faults; broken = true }) asks.1 refl refl refl
        (λ f. absurd (true≢false f)))
    applies_kept w key call is_broken worker hall faults small asks g =
        subst (λ (t : HallState C A M × WorkerState A). Sim d r opening (record old { hall = t.0; workers = with_worker old.workers w t.1 })) (λ i. (sym g.1 i, sym asks.3 i))
        (unapplied_kept w key (ap key_held asks.1) asks.0 (record old.hall { faults = faults }) asks.1 refl refl refl s.memories)
    applies_kept w key call _ worker hall faults small asks g = absurd g

    -- Close
    pub closes_kept : (hall : HallState C A M) → hall ≡ record old.hall { closed = true } → Sim d r opening (record old { hall = hall })
    closes_kept hall e =
        subst (λ h. Sim d r opening (record old { hall = h })) (sym e)
        (record {
          acts = s.acts;
          world = s.world;
          reached = s.reached;
          tape = s.tape;
          journal = s.journal;
          memories = s.memories;
          place = s.place;
          at = s.at;
          endpoint = s.endpoint;
          workers = s.workers;
          nobody = s.nobody;
        })
