-- What happens on a connection alone is an act of the world.
use Rattle.std.proofs.Common.{◌≡◌, ◌≢◌, ℕ, zero, suc, ◌<◌, ◌≤◌, ◌⊎◌, false, None, Some, List, [], ◌∷◌, ◌++◌, length, take, drop, refl, sym, ap, ◌∙◌, subst, inl, inr, arith}
use Rattle.std.proofs.lemmas.Bool.{cases_eq}
use Rattle.std.proofs.lemmas.List.{take-append-drop}
use Rattle.streams.specs.declared.marks.Mark.TheVariants.{Opened}
use Rattle.host_model.specs.declared.key.Key.{Key}
use Rattle.host_model.specs.declared.cause.EndCause.{EndCause}
use Rattle.host_model.specs.declared.cause.EndCause.TheVariants.{SizeFault, ReadFault, WriteFault}
use Rattle.host_model.specs.Frames.{IsPartial}
use Rattle.host_model.specs.Marks.{marks_of, output}
use Rattle.host_model.specs.Journal.{JournalEntry, ServiceRules, after, entries_of}
use Rattle.host_model.specs.DeskRules.{DeskRules}
use Rattle.host_model.specs.Conversation.{Done}
use Rattle.host_model.specs.World.{Stage, open_, pending, answered, over, over_pending, Endpoint, unopened_endpoint, World, Act, ReachedBy, Move, marks_by, Moves, moves, with_endpoint, end_behind, IsGivenUp, GivesUp, StageSays, Moment}
use Rattle.host_model.specs.World as World
use Rattle.machine_model.specs.HallState.{HallState, Job, JobOutcome}
use Rattle.machine_model.specs.Loop.{LoopConn, new_conn, Loop, OwesNothing, FrameProgress, part, bad_size, whole, IsProgress, read_more, marks_read, with_conn, changed, with_cause, ConnEvent, opens, reads, ends, fails_read, writes, fails_write, gives_up, Happens}
use Rattle.machine_model.specs.Worker.{WorkerState, key_held}
use Rattle.machine_model.specs.Machine.{Cell}
use Rattle.machine_model.specs.Places.{PayloadPlace, collected_all, ready, queued, held_by, put_out, jobs_of, outcomes_of, IsUncollected, PayloadIsAt}
use Rattle.machine_model.proofs.Lists.{put_same, put_other}
use Rattle.machine_model.proofs.Standing.{uncalled, Rests, Waits, StageIs, EndpointIs, Sim, clear_by_count, clear_by_left, done_but_last, IsCalledOrNot, phase_of}
use Rattle.machine_model.proofs.Changing.{changed_one}

-- no payload that a worker holds is collected
pub not_held : (w : ℕ) → collected_all ≡ held_by w → ⊥
not_held w e = cc

module _ {C A : Type 0} (d : DeskRules C A) where
  -- a cause changes no place
  under_way_ended : (conn : LoopConn) (cause : EndCause) (before : List (List ℕ)) (p : List ℕ) → IsUncollected conn before p → IsUncollected (with_cause conn cause) before p
  under_way_ended conn cause before p u = record { last = u.last; none_held = u.none_held; none_left = u.none_left; collected = u.collected }

  at_ended : (workers : ℕ → WorkerState A) (jobs : List Job) (outs : List JobOutcome) (es : List (JournalEntry C A)) (c : ℕ) (conn : LoopConn) (cause : EndCause) (place : PayloadPlace)
      → PayloadIsAt d workers jobs outs es c conn place → PayloadIsAt d workers jobs outs es c (with_cause conn cause) place
  at_ended workers jobs outs es c conn cause collected_all a = a
  at_ended workers jobs outs es c conn cause ready a = (a.0, a.1, under_way_ended conn cause a.0 a.1 a.2, a.3, a.4, a.5, a.6)
  at_ended workers jobs outs es c conn cause queued a = (a.0, a.1, under_way_ended conn cause a.0 a.1 a.2, a.3, a.4, a.5, a.6)
  at_ended workers jobs outs es c conn cause (held_by w) a = (a.0, a.1, under_way_ended conn cause a.0 a.1 a.2, a.3, a.4, a.5, a.6)
  at_ended workers jobs outs es c conn cause (put_out settled) a = (a.0, a.1, under_way_ended conn cause a.0 a.1 a.2, a.3, a.4, a.5, a.6)

  -- a payload under way is still there once its connection is given up
  waits_given_up : (es : List (JournalEntry C A)) (payloads : List (List ℕ)) (cause : EndCause) (stage : Stage) → IsCalledOrNot d es payloads → Waits d es payloads None stage
      → (new : Stage) × GivesUp stage cause new × Waits d es payloads (Some cause) new
  waits_given_up es payloads cause stage (inl done) w =
      (over_pending cause, subst (λ st. GivesUp st cause (over_pending cause)) (sym (w.before done)) refl, record { before = λ _. refl; behind = λ n. absurd (n done) })
  waits_given_up es payloads cause stage (inr not) w =
      (over cause, subst (λ st. GivesUp st cause (over cause)) (sym (w.behind not)) refl, record { before = λ done. absurd (not done); behind = λ _. refl })

  -- a stage once its connection is given up
  abbrev IsGivenUpAt : List (JournalEntry C A) → LoopConn → EndCause → Stage → PayloadPlace → Type 0
  IsGivenUpAt es conn cause stage place = (new : Stage) × GivesUp stage cause new × StageIs d es (with_cause conn cause) new place

  stage_given_up : (es : List (JournalEntry C A)) (conn : LoopConn) (cause : EndCause) (stage : Stage) (place : PayloadPlace) → conn.cause ≡ None
      → (place ≡ collected_all) ⊎ IsCalledOrNot d es conn.payloads → StageIs d es conn stage place → IsGivenUpAt es conn cause stage place
  stage_given_up es conn cause stage collected_all none phase t =
      let e : stage ≡ open_ conn.left = subst (λ k. Rests k conn.left stage) none t in
      (over cause, subst (λ st. GivesUp st cause (over cause)) (sym e) refl, refl)
  stage_given_up es conn cause stage ready none (inl e) t = absurd (let f : ⊥ = cc in f)
  stage_given_up es conn cause stage ready none (inr p) t = waits_given_up es conn.payloads cause stage p (subst (λ k. Waits d es conn.payloads k stage) none t)
  stage_given_up es conn cause stage queued none (inl e) t = absurd (let f : ⊥ = cc in f)
  stage_given_up es conn cause stage queued none (inr p) t = waits_given_up es conn.payloads cause stage p (subst (λ k. Waits d es conn.payloads k stage) none t)
  stage_given_up es conn cause stage (held_by w) none (inl e) t = absurd (let f : ⊥ = cc in f)
  stage_given_up es conn cause stage (held_by w) none (inr p) t = waits_given_up es conn.payloads cause stage p (subst (λ k. Waits d es conn.payloads k stage) none t)
  stage_given_up es conn cause stage (put_out settled) none (inl e) t = absurd (let f : ⊥ = cc in f)
  stage_given_up es conn cause stage (put_out settled) none (inr p) t = waits_given_up es conn.payloads cause stage p (subst (λ k. Waits d es conn.payloads k stage) none t)

module _ {C A M : Type 0} (d : DeskRules C A) (r : ServiceRules C A M) (opening : List M)
    (all : (acts : List (Act C A)) (world : World C A) → ReachedBy d r opening acts world → Moment d r opening world) where
  -- connection c makes a move of the world, and the hall may have changed for it
  pub by_move : (old : Cell C A M) (s : Sim d r opening old) (c : ℕ) (conn : LoopConn) (move : Move) (endpoint : Endpoint) (hall : HallState C A M) (place : PayloadPlace)
      → c < old.loop.count → Moves d (entries_of c s.world.journal) (s.world.endpoints c) move endpoint
      → old.hall.journal ≡ hall.journal → (hall.broken ≡ false → hall.memories ≡ after r opening hall.journal)
      → ((x : ℕ) → (x ≡ c → ⊥) → jobs_of x old.hall.jobs ≡ jobs_of x hall.jobs)
      → ((x : ℕ) → (x ≡ c → ⊥) → outcomes_of x old.hall.outcomes ≡ outcomes_of x hall.outcomes)
      → PayloadIsAt d old.workers (jobs_of c hall.jobs) (outcomes_of c hall.outcomes) (entries_of c hall.journal) c conn place
      → EndpointIs d (entries_of c hall.journal) conn endpoint place
      → ((w : ℕ) → s.place c ≡ held_by w → place ≡ held_by w)
      → Sim d r opening (record { loop = changed old.loop c conn (marks_by c move); hall = hall; workers = old.workers })
  by_move old s c conn move endpoint hall place lt m journal memories jobs outs at l keep =
      changed_one d r opening old (record { loop = changed old.loop c conn (marks_by c move); hall = hall; workers = old.workers }) s c place
      (record {
        acts = moves c move ∷ s.acts;
        world = record { tape = s.world.tape ++ marks_by c move; journal = s.world.journal; endpoints = with_endpoint s.world.endpoints c endpoint };
        reached = (s.world, s.reached, (endpoint, m, refl));
        tape = ap (λ t. t ++ marks_by c move) s.tape;
        journal = s.journal ∙ journal;
        memories = memories;
        inside = lt;
        before = λ x n k. k;
        more = omega arith;
        conns = λ x n. sym (put_other old.loop.conns c conn x n);
        endpoints = λ x n. sym (put_other s.world.endpoints c endpoint x n);
        jobs = jobs;
        outcomes = outs;
        entries = λ x n. ap (entries_of x) journal;
        others = λ x w n k e. refl;
        at = subst (λ k. PayloadIsAt d old.workers (jobs_of c hall.jobs) (outcomes_of c hall.outcomes) (entries_of c hall.journal) c k place) (sym (put_same old.loop.conns c conn)) at;
        endpoint = subst (λ (t : LoopConn × Endpoint). EndpointIs d (entries_of c hall.journal) t.0 t.1 place)
            (λ i. (sym (put_same old.loop.conns c conn) i, sym (put_same s.world.endpoints c endpoint) i)) l;
        workers = λ w key h. workers w key h (cases_eq key.c c);
      })
    where
      workers : (w : ℕ) (key : Key) → key_held (old.workers w) ≡ Some key → (key.c ≡ c) ⊎ (key.c ≡ c → ⊥)
          → ((key.c ≡ c) × (place ≡ held_by w)) ⊎ ((key.c ≡ c → ⊥) × (key_held (old.workers w) ≡ Some key))
      workers w key h (inl e) = inl (e, keep w (subst (λ x. s.place x ≡ held_by w) e (s.workers w key h).1))
      workers w key h (inr n) = inr (n, h)

  pub by_conn_event : (old : Cell C A M) (s : Sim d r opening old) (c : ℕ) (conn : LoopConn) (move : Move) (endpoint : Endpoint) (place : PayloadPlace)
      → c < old.loop.count → Moves d (entries_of c s.world.journal) (s.world.endpoints c) move endpoint
      → PayloadIsAt d old.workers (jobs_of c old.hall.jobs) (outcomes_of c old.hall.outcomes) (entries_of c old.hall.journal) c conn place
      → EndpointIs d (entries_of c old.hall.journal) conn endpoint place
      → ((w : ℕ) → s.place c ≡ held_by w → place ≡ held_by w)
      → Sim d r opening (record old { loop = changed old.loop c conn (marks_by c move) })
  by_conn_event old s c conn move endpoint place lt m at l keep =
      by_move old s c conn move endpoint old.hall place lt m refl s.memories (λ x n. refl) (λ x n. refl) at l keep

  module _ (old : Cell C A M) (s : Sim d r opening old) (c : ℕ) (lt : c < old.loop.count) where
    abbrev At : PayloadPlace → Type 0
    At place = PayloadIsAt d old.workers (jobs_of c old.hall.jobs) (outcomes_of c old.hall.outcomes) (entries_of c old.hall.journal) c (old.loop.conns c) place

    abbrev OnEndpoint : PayloadPlace → Type 0
    OnEndpoint place = EndpointIs d (entries_of c old.hall.journal) (old.loop.conns c) (s.world.endpoints c) place

    at_clear : s.place c ≡ collected_all → At collected_all
    at_clear e = subst At e (s.at c lt)

    endpoint_clear : s.place c ≡ collected_all → OnEndpoint collected_all
    endpoint_clear e = subst OnEndpoint e (s.endpoint c lt)

    -- an open connection of which all is collected is open in the world
    stage_clear : (e : s.place c ≡ collected_all) → (old.loop.conns c).cause ≡ None → (s.world.endpoints c).stage ≡ open_ (old.loop.conns c).left
    stage_clear e none = subst (λ k. Rests k (old.loop.conns c).left (s.world.endpoints c).stage) none (endpoint_clear e).stage

    stage_idle : (e : s.place c ≡ collected_all) → (old.loop.conns c).cause ≡ None → OwesNothing (old.loop.conns c) → (s.world.endpoints c).stage ≡ open_ []
    stage_idle e none owes = stage_clear e none ∙ ap open_ owes.1

    -- and its calls are done
    pub done_clear : (e : s.place c ≡ collected_all) → (old.loop.conns c).cause ≡ None → Done d (entries_of c old.hall.journal) (old.loop.conns c).payloads
    done_clear e none =
        let l : Endpoint = s.world.endpoints c in
        let t : StageSays d l.payloads l.held (entries_of c s.world.journal) (output (marks_of c s.world.tape)) (open_ (old.loop.conns c).left) =
        subst (StageSays d l.payloads l.held (entries_of c s.world.journal) (output (marks_of c s.world.tape))) (stage_clear e none) ((all s.acts s.world s.reached).stands c) in
        subst (λ (t : List (JournalEntry C A) × List (List ℕ)). Done d t.0 t.1) (λ i. (entries_of c (s.journal i), (endpoint_clear e).payloads i)) t.2

    clear_of : OwesNothing (old.loop.conns c) → s.place c ≡ collected_all
    clear_of owes =
        clear_by_count d old.workers (jobs_of c old.hall.jobs) (outcomes_of c old.hall.outcomes) (entries_of c old.hall.journal) c (old.loop.conns c) (s.place c) (s.at c lt) owes.0

    clear_of_left : ((old.loop.conns c).left ≡ [] → ⊥) → s.place c ≡ collected_all
    clear_of_left some =
        clear_by_left d old.workers (jobs_of c old.hall.jobs) (outcomes_of c old.hall.outcomes) (entries_of c old.hall.journal) c (old.loop.conns c) (s.place c) (s.at c lt) some

    -- where all is collected and stays so
    by_clear : (conn : LoopConn) (move : Move) (endpoint : Endpoint) (e : s.place c ≡ collected_all) → Moves d (entries_of c s.world.journal) (s.world.endpoints c) move endpoint
        → PayloadIsAt d old.workers (jobs_of c old.hall.jobs) (outcomes_of c old.hall.outcomes) (entries_of c old.hall.journal) c conn collected_all
        → EndpointIs d (entries_of c old.hall.journal) conn endpoint collected_all
        → Sim d r opening (record old { loop = changed old.loop c conn (marks_by c move) })
    by_clear conn move endpoint e m at l = by_conn_event old s c conn move endpoint collected_all lt m at l (λ w h. sym e ∙ h)

    reads_kept : (bytes : List ℕ) (progress : FrameProgress) → (old.loop.conns c).cause ≡ None → OwesNothing (old.loop.conns c) → bytes ≢ [] → IsProgress d.max ((old.loop.conns c).held ++ bytes) progress
        → Sim d r opening (record old { loop = changed old.loop c (read_more (old.loop.conns c) bytes progress) (marks_read c bytes progress) })
    reads_kept bytes part none owes some makes =
        let conn : LoopConn = old.loop.conns c in
        let endpoint : Endpoint = s.world.endpoints c in
        let e : s.place c ≡ collected_all = clear_of owes in
        let l : OnEndpoint collected_all = endpoint_clear e in
        by_clear (record conn { held = conn.held ++ bytes }) (World.reads bytes) (record endpoint { held = endpoint.held ++ bytes }) e
        (stage_idle e none owes, some, subst (λ h. IsPartial d.max (h ++ bytes)) (sym l.held) makes, refl)
        (at_clear e) (record { payloads = l.payloads; held = ap (λ h. h ++ bytes) l.held; stage = l.stage })
    reads_kept bytes (bad_size size) none owes some makes =
        let conn : LoopConn = old.loop.conns c in
        let endpoint : Endpoint = s.world.endpoints c in
        let e : s.place c ≡ collected_all = clear_of owes in
        let l : OnEndpoint collected_all = endpoint_clear e in
        by_clear (record conn { held = conn.held ++ bytes; cause = Some (SizeFault size) }) (World.reads_bad_size bytes size)
        (record { payloads = endpoint.payloads; held = endpoint.held ++ bytes; stage = over (SizeFault size) }) e
        (stage_idle e none owes, makes.0, ap (λ h. h ++ bytes) l.held ∙ makes.1, refl)
        (at_clear e) (record { payloads = l.payloads; held = ap (λ h. h ++ bytes) l.held; stage = refl })
    reads_kept bytes (whole p) none owes some makes =
        let conn : LoopConn = old.loop.conns c in
        let endpoint : Endpoint = s.world.endpoints c in
        let e : s.place c ≡ collected_all = clear_of owes in
        let l : OnEndpoint collected_all = endpoint_clear e in
        let a : At collected_all = at_clear e in
        let done : Done d (entries_of c old.hall.journal) conn.payloads = done_clear e none in
        by_conn_event old s c (record conn { payloads = conn.payloads ++ p ∷ []; held = [] }) (World.reads_frame bytes p)
        (record { payloads = endpoint.payloads ++ p ∷ []; held = []; stage = pending }) ready lt
        (stage_idle e none owes, makes.0, ap (λ h. h ++ bytes) l.held ∙ makes.1, refl)
        (conn.payloads, p, record { last = refl; none_held = refl; none_left = owes.1; collected = owes.0 }, a.0, a.1, a.2, done)
        (record {
          payloads = ap (λ ps. ps ++ p ∷ []) l.payloads;
          held = refl;
          stage = record {
            before = λ _. ap uncalled (sym none);
            behind = λ not. absurd (not (done_but_last d (entries_of c old.hall.journal) (conn.payloads ++ p ∷ []) conn.payloads p refl done));
          };
        })
        (λ w h. absurd (not_held w (sym e ∙ h)))

    ends_kept : (old.loop.conns c).cause ≡ None → OwesNothing (old.loop.conns c)
        → Sim d r opening (record old { loop = changed old.loop c (with_cause (old.loop.conns c) (end_behind (old.loop.conns c).held)) (marks_by c World.ends) })
    ends_kept none owes =
        let endpoint : Endpoint = s.world.endpoints c in
        let e : s.place c ≡ collected_all = clear_of owes in
        let l : OnEndpoint collected_all = endpoint_clear e in
        by_clear (with_cause (old.loop.conns c) (end_behind (old.loop.conns c).held)) World.ends (record endpoint { stage = over (end_behind endpoint.held) }) e
        (stage_idle e none owes, refl) (at_clear e) (record { payloads = l.payloads; held = l.held; stage = ap end_behind (sym l.held) })

    fails_read_kept : (old.loop.conns c).cause ≡ None → OwesNothing (old.loop.conns c)
        → Sim d r opening (record old { loop = changed old.loop c (with_cause (old.loop.conns c) ReadFault) (marks_by c World.fails_read) })
    fails_read_kept none owes =
        let endpoint : Endpoint = s.world.endpoints c in
        let e : s.place c ≡ collected_all = clear_of owes in
        let l : OnEndpoint collected_all = endpoint_clear e in
        by_clear (with_cause (old.loop.conns c) ReadFault) World.fails_read (record endpoint { stage = over ReadFault }) e
        (stage_idle e none owes, refl) (at_clear e) (record { payloads = l.payloads; held = l.held; stage = refl })

    writes_kept : (count : ℕ) → (old.loop.conns c).cause ≡ None → 1 ≤ count → count ≤ length (old.loop.conns c).left
        → Sim d r opening (record old {
          loop = changed old.loop c (record (old.loop.conns c) { left = drop count (old.loop.conns c).left }) (marks_by c (World.writes (take count (old.loop.conns c).left)));
        })
    writes_kept count none one few =
        let conn : LoopConn = old.loop.conns c in
        let endpoint : Endpoint = s.world.endpoints c in
        let e : s.place c ≡ collected_all = clear_of_left (λ n. let f : length (old.loop.conns c).left ≡ 0 = ap length n in let g : ⊥ = omega arith in g) in
        let l : OnEndpoint collected_all = endpoint_clear e in
        by_clear (record conn { left = drop count conn.left }) (World.writes (take count conn.left)) (record endpoint { stage = open_ (drop count conn.left) }) e
        (drop count conn.left, stage_clear e none ∙ ap open_ (sym (take-append-drop count conn.left)), taken count conn.left one few, refl)
        (at_clear e) (record { payloads = l.payloads; held = l.held; stage = subst (λ k. Rests k (drop count conn.left) (open_ (drop count conn.left))) (sym none) refl })
      where
        taken : (n : ℕ) (xs : List ℕ) → 1 ≤ n → n ≤ length xs → take n xs ≢ []
        taken zero xs one few e = absurd (let f : ⊥ = omega arith in f)
        taken (suc n) [] one few e = absurd (let f : ⊥ = omega arith in f)
        taken (suc n) (x ∷ xs) one few e = let f : ⊥ = cc in f

    fails_write_kept : (old.loop.conns c).cause ≡ None → (old.loop.conns c).left ≢ []
        → Sim d r opening (record old { loop = changed old.loop c (with_cause (old.loop.conns c) WriteFault) (marks_by c World.fails_write) })
    fails_write_kept none some =
        let endpoint : Endpoint = s.world.endpoints c in
        let e : s.place c ≡ collected_all = clear_of_left some in
        let l : OnEndpoint collected_all = endpoint_clear e in
        by_clear (with_cause (old.loop.conns c) WriteFault) World.fails_write (record endpoint { stage = over WriteFault }) e
        ((old.loop.conns c).left, stage_clear e none, some, refl) (at_clear e) (record { payloads = l.payloads; held = l.held; stage = refl })

    gives_up_kept : (cause : EndCause) → (old.loop.conns c).cause ≡ None → IsGivenUp cause
        → Sim d r opening (record old { loop = changed old.loop c (with_cause (old.loop.conns c) cause) (marks_by c (World.gives_up cause)) })
    gives_up_kept cause none given =
        let conn : LoopConn = old.loop.conns c in
        let endpoint : Endpoint = s.world.endpoints c in
        let l : OnEndpoint (s.place c) = s.endpoint c lt in
        let a : At (s.place c) = s.at c lt in
        let t : (new : Stage) × GivesUp endpoint.stage cause new × StageIs d (entries_of c old.hall.journal) (with_cause conn cause) new (s.place c) =
        stage_given_up d (entries_of c old.hall.journal) conn cause endpoint.stage (s.place c) none
        (phase_of d old.workers (jobs_of c old.hall.jobs) (outcomes_of c old.hall.outcomes) (entries_of c old.hall.journal) c conn (s.place c) a) l.stage in
        by_conn_event old s c (with_cause conn cause) (World.gives_up cause) (record endpoint { stage = t.0 }) (s.place c) lt (t.0, given, t.1, refl)
        (at_ended d old.workers (jobs_of c old.hall.jobs) (outcomes_of c old.hall.outcomes) (entries_of c old.hall.journal) c conn cause (s.place c) a)
        (record { payloads = l.payloads; held = l.held; stage = t.2 }) (λ w h. h)

  opens_kept : (old : Cell C A M) → Sim d r opening old
      → Sim d r opening (record old { loop = record { tape = old.loop.tape ++ Opened old.loop.count ∷ []; count = suc old.loop.count; conns = with_conn old.loop.conns old.loop.count new_conn } })
  opens_kept old s =
      let c : ℕ = old.loop.count in
      let t : (jobs_of c old.hall.jobs ≡ []) × (outcomes_of c old.hall.outcomes ≡ []) × (s.world.endpoints c ≡ unopened_endpoint) = s.nobody c (omega arith) in
      let endpoint : Endpoint = record { payloads = []; held = []; stage = open_ [] } in
      changed_one d r opening old (record old { loop = record { tape = old.loop.tape ++ Opened c ∷ []; count = suc c; conns = with_conn old.loop.conns c new_conn } }) s c collected_all
      (record {
        acts = moves c World.opens ∷ s.acts;
        world = record { tape = s.world.tape ++ marks_by c World.opens; journal = s.world.journal; endpoints = with_endpoint s.world.endpoints c endpoint };
        reached = (s.world, s.reached, (endpoint, (t.2, refl), refl));
        tape = ap (λ t. t ++ Opened c ∷ []) s.tape;
        journal = s.journal;
        memories = s.memories;
        inside = omega arith;
        before = λ x n k. omega arith;
        more = omega arith;
        conns = λ x n. sym (put_other old.loop.conns c new_conn x n);
        endpoints = λ x n. sym (put_other s.world.endpoints c endpoint x n);
        jobs = λ x n. refl;
        outcomes = λ x n. refl;
        entries = λ x n. refl;
        others = λ x w n k e. refl;
        at = subst (λ k. PayloadIsAt d old.workers (jobs_of c old.hall.jobs) (outcomes_of c old.hall.outcomes) (entries_of c old.hall.journal) c k collected_all)
            (sym (put_same old.loop.conns c new_conn)) (t.0, t.1, refl, refl);
        endpoint = subst (λ (t : LoopConn × Endpoint). EndpointIs d (entries_of c old.hall.journal) t.0 t.1 collected_all)
            (λ i. (sym (put_same old.loop.conns c new_conn) i, sym (put_same s.world.endpoints c endpoint) i)) (record { payloads = refl; held = refl; stage = refl });
        workers = λ w key h. inr (λ e. let f : key.c < old.loop.count = (s.workers w key h).0 in let g : ⊥ = omega arith in g, h);
      })

  pub conn_event_kept : (old : Cell C A M) (conn_event : ConnEvent) (loop : Loop) → Happens d.max old.loop conn_event loop → Sim d r opening old → Sim d r opening (record old { loop = loop })
  conn_event_kept old opens loop t s = subst (λ l. Sim d r opening (record old { loop = l })) (sym t.1) (opens_kept old s)
  conn_event_kept old (reads c bytes) loop t s =
      subst (λ l. Sim d r opening (record old { loop = l })) (sym t.6) (reads_kept old s c t.1.0 bytes t.0 t.1.1 t.2 t.3 t.5)
  conn_event_kept old (ends c) loop t s = subst (λ l. Sim d r opening (record old { loop = l })) (sym t.2) (ends_kept old s c t.0.0 t.0.1 t.1)
  conn_event_kept old (fails_read c) loop t s = subst (λ l. Sim d r opening (record old { loop = l })) (sym t.2) (fails_read_kept old s c t.0.0 t.0.1 t.1)
  conn_event_kept old (writes c count) loop t s = subst (λ l. Sim d r opening (record old { loop = l })) (sym t.3) (writes_kept old s c t.0.0 count t.0.1 t.1 t.2)
  conn_event_kept old (fails_write c) loop t s = subst (λ l. Sim d r opening (record old { loop = l })) (sym t.2) (fails_write_kept old s c t.0.0 t.0.1 t.1)
  conn_event_kept old (gives_up c cause) loop t s = subst (λ l. Sim d r opening (record old { loop = l })) (sym t.2) (gives_up_kept old s c t.0.0 cause t.0.1 t.1)
