-- At a play that is still, no worker holds a job, no outcome is left, and each connection that has its end in sight has ended.
use Rattle.std.proofs.Common.{◌≡◌, ◌≢◌, ℕ, zero, suc, ◌+◌, ◌-◌, ◌<◌, ◌≤◌, ◌⊎◌, min, Bool, true, false, cond, ◌&&◌, not, nat_lt, nat_le, ◌==◌, if◌then◌else◌, Option, None, Some, List, [], ◌∷◌, ◌++◌, length, take, drop, slice_get, refl, sym, ap, ◌∙◌, subst, inl, inr, option_map, arith, length-append}
use Rattle.std.specs.List.{AllByRecursion}
use Rattle.std.specs.Int.{w32, from_be_bytes}
use Rattle.std.proofs.lemmas.Bool.{eq-eqb, lt-ltb, le-ltb, le-leb, leb-false, cases_lt}
use Rattle.std.proofs.lemmas.List.{length-take-le}
use Rattle.std.proofs.lemmas.Option.{none-some}
use Rattle.streams.specs.declared.outcomes.Settled.{Settled}
use Rattle.streams.specs.declared.outcomes.Settled.TheVariants.{Nothing, Reply as Replied}
use Rattle.host_model.specs.declared.key.Key.{Key}
use Rattle.host_model.specs.declared.cause.EndCause.{EndCause}
use Rattle.host_model.specs.declared.cause.EndCause.TheVariants.{NoMemory, Stopped}
use Rattle.host_model.specs.Journal.{JournalEntry, ServiceRules, entries_of}
use Rattle.host_model.specs.DeskRules.{DeskRules, DeskDecision, Close, Silent, Reply, Invoke}
use Rattle.machine_model.specs.HallState.{key_of, Job, JobOutcome}
use Rattle.machine_model.specs.HallRule.{job_of, outcome_of}
use Rattle.machine_model.specs.Loop.{FrameProgress, reads, writes, fails_write, gives_up}
use Rattle.machine_model.specs.Worker.{WorkerState, idle, holds, has_answer, has_none, settled_by, settled_with, key_held}
use Rattle.machine_model.specs.Machine.{on_conn, submits, takes, puts, collects, HaveAllEnded}
use Rattle.machine_model.specs.Plain.{when, is_empty, has_none_yet, is_open, owes_nothing, stays_in_size, progress_by, progress_plain, Moved, reads_plain, ends_plain, fails_read_plain, writes_plain, fails_write_plain, moved_plain, with_loop, answers, goes, puts_none, Told, broken_plain, apply_result_plain, call_plain, apply_plain, outcome_plain, put_plain, lack_plain, take_plain, submit_plain, collect_plain, told_plain}
use Rattle.machine_model.specs.Places.{PayloadPlace, collected_all, ready, queued, held_by, put_out, jobs_of, outcomes_of, IsUncollected, IsEntered, Carries, PayloadIsAt, CellKeeps}
use Rattle.machine_model.specs.AtFronts.{size_in, summed}
use Rattle.script_model.specs.ScriptLines.{PlanRule, takes_most, blocks, fails}
use Rattle.script_model.specs.Playing.{InputFinish, finishes, faults, MemoryAt, ample, lacking, lacking_for_call, lacking_for_answer, Play, most_read, at_number, size_or_zero, pieces_left, moved_on, all_admitted, event_on, or_else, told_without, told_wanting, by_memory, admission, freed, freed_if_over, with_rules, with_unread, told_in, on_one, read_behind, read_move, write_move, size_move, open_move, step_of_worker, collect_first}
use Rattle.script_model.specs.Rehearsing.{workers_among}
use Rattle.script_model.specs.Ending.{IsStill}
use Rattle.script_model.proofs.Holding.{AreBytes, bytes_taken, Fits, MayRead, goes_on}
use Rattle.script_model.proofs.Keeping.{IsArrival, MayWrite, KeptSo}

mapped_none : {X Y : Type 0} (f : X → Y) (o : Option X) → option_map f o ≡ None → o ≡ None
mapped_none f None e = refl
mapped_none f (Some x) e = absurd (none-some (f x) (sym e))

or_none : {X : Type 0} (x o : Option X) → or_else x o ≡ None → o ≡ None
or_none None o e = e
or_none (Some x) o e = absurd (none-some x (sym e))

-- the arm of a test that was taken
first_arm : {X : Type 0} (b : Bool) (x y z : X) → b ≡ true → (if b then x else y) ≡ z → x ≡ z
first_arm true x y z e f = f
first_arm false x y z e f = absurd (let g : ⊥ = cc in g)

second_arm : {X : Type 0} (b : Bool) (x y z : X) → b ≡ false → (if b then x else y) ≡ z → y ≡ z
second_arm false x y z e f = f
second_arm true x y z e f = absurd (let g : ⊥ = cc in g)

when_true : {X : Type 0} (b : Bool) (o : Option X) → b ≡ true → when b o ≡ None → o ≡ None
when_true true o e f = f
when_true false o e f = absurd (let g : ⊥ = cc in g)

both : (a b : Bool) → a ≡ true → b ≡ true → (a && b) ≡ true
both true b e f = f
both false b e f = e

some_worker : (n : ℕ) → 0 < workers_among n
some_worker zero = omega arith
some_worker (suc n) = omega arith

is_filled : (xs : List ℕ) → 1 ≤ length xs → not (is_empty xs) ≡ true
is_filled [] l = absurd (let f : ⊥ = omega arith in f)
is_filled (x ∷ xs) l = refl

is_nothing : (xs : List ℕ) → xs ≡ [] → is_empty xs ≡ true
is_nothing xs e = ap is_empty e

slice_there : {X : Type 0} (xs : List X) (i : ℕ) → i < length xs → slice_get xs i ≢ None
slice_there [] i l e = let f : ⊥ = omega arith in f
slice_there (x ∷ xs) zero l e = none-some x (sym e)
slice_there (x ∷ xs) (suc i) l e = slice_there xs i (omega arith) e

-- of numbers that add up to more than nothing one is more
someone : (f : ℕ → ℕ) (n : ℕ) → 0 < summed f n → (c : ℕ) × (c < n) × (0 < f c)
someone f zero l = absurd (let g : ⊥ = omega arith in g)
someone f (suc n) l = go (cases_lt 0 (f n)) (λ m. someone f n m)
  where
    go : (0 < f n) ⊎ (f n ≤ 0) → (0 < summed f n → (c : ℕ) × (c < n) × (0 < f c)) → (c : ℕ) × (c < suc n) × (0 < f c)
    go (inl m) again = (n, omega arith, m)
    go (inr m) again =
        let s : summed f (suc n) ≡ f n + summed f n = refl in
        let t : (c : ℕ) × (c < n) × (0 < f c) = again (omega arith) in let l : t.0 < n = t.1 in (t.0, omega arith, t.2)

-- the causes of connections that have all ended, none of them by a stop
listed : (cause : ℕ → Option EndCause) (from n : ℕ) → ((c : ℕ) → from ≤ c → c < from + n → cause c ≢ None) → ((c : ℕ) → from ≤ c → c < from + n → cause c ≢ Some Stopped)
    → (causes : List EndCause) × (length causes ≡ n) × ((i : ℕ) → i < n → cause (from + i) ≡ slice_get causes i) × ((i : ℕ) → slice_get causes i ≢ Some Stopped)
listed cause from zero some unstopped = ([], refl, λ i l. absurd (let f : ⊥ = omega arith in f), λ i e. none-some Stopped e)
listed cause from (suc n) some unstopped =
    go (cause from) refl (listed cause (suc from) n (λ c l m. some c (omega arith) (omega arith)) (λ c l m. unstopped c (omega arith) (omega arith)))
  where
    go : (o : Option EndCause) → cause from ≡ o
        → (causes : List EndCause) × (length causes ≡ n) × ((i : ℕ) → i < n → cause (suc from + i) ≡ slice_get causes i) × ((i : ℕ) → slice_get causes i ≢ Some Stopped)
        → (causes : List EndCause) × (length causes ≡ suc n) × ((i : ℕ) → i < suc n → cause (from + i) ≡ slice_get causes i) × ((i : ℕ) → slice_get causes i ≢ Some Stopped)
    go None e t = absurd (some from (omega arith) (omega arith) e)
    go (Some x) e t = (x ∷ t.0, ap suc t.1, at, none)
      where
        at : (i : ℕ) → i < suc n → cause (from + i) ≡ slice_get (x ∷ t.0) i
        at zero l = let z : from + 0 ≡ from = omega arith in ap cause z ∙ e
        at (suc i) l = let z : from + suc i ≡ suc from + i = omega arith in ap cause z ∙ t.2 i (omega arith)

        none : (i : ℕ) → slice_get (x ∷ t.0) i ≢ Some Stopped
        none zero f = unstopped from (omega arith) (omega arith) (e ∙ f)
        none (suc i) f = t.3 i f

-- connection c is held: the budget has no room for its size beside those that are admitted
pub record IsHeld {C A M : Type 0} (budget : ℕ) (play : Play C A M) (c : ℕ) : Type 0 where
  pub none : play.admitted c ≡ None
  pub more : budget < all_admitted play + size_in (play.cell.loop.conns c).held

-- It stands still though it is open: it owes nothing, a size that is admitted is that of its frame under way, and all that has arrived is read, or it is held.
pub record IsStalled {C A M : Type 0} (max budget : ℕ) (play : Play C A M) (c : ℕ) : Type 0 where
  pub collected : (play.cell.loop.conns c).collected ≡ length (play.cell.loop.conns c).payloads
  pub left : (play.cell.loop.conns c).left ≡ []
  pub within : size_in (play.cell.loop.conns c).held ≤ max
  pub admitted : (size : ℕ) → play.admitted c ≡ Some size → size ≡ size_in (play.cell.loop.conns c).held
  pub reads : (play.unread c ≡ []) ⊎ IsHeld budget play c

module _ {C A M : Type 0} (d : DeskRules C A) (r : ServiceRules C A M) (memory : ℕ → MemoryAt) (budget workers bound : ℕ) (opening : List M) (play : Play C A M)
    (still : IsStill d r memory budget workers play) (kept : KeptSo d.max workers bound play.cell.loop play.cell.workers play.rules play.unread play.admitted)
    (keeps : CellKeeps d r opening play.cell)
    (served : (w : ℕ) (key : Key) (payload : List ℕ) (call : C) → play.cell.workers w ≡ holds key payload → d.decide payload ≡ Invoke call → r.slot call < length play.cell.hall.memories) where
  memory_none : (at : MemoryAt) (told : Told) (o : Option (Play C A M)) → by_memory d r at play told o ≡ None → o ≡ None
  memory_none ample told o e = e
  memory_none lacking told o e = or_none (told_wanting d r play told) o e
  memory_none lacking_for_call told o e = or_none (told_wanting d r play told) o e
  memory_none lacking_for_answer told o e = or_none (told_wanting d r play told) o e

  told_none : (told : Told) → told_in d r play told ≡ None → told_plain d r play.cell told ≡ None
  told_none told e = mapped_none (λ cell. record play { cell = cell; moves = suc play.moves }) (told_plain d r play.cell told) e

  -- a worker that holds a job can move
  module _ (w : ℕ) where
    outcome_some : (key : Key) (o : Option Settled) (settled : Settled) → o ≡ Some settled → outcome_plain play.cell w key o ≡ None → ⊥
    outcome_some key o settled e f = none-some _ (sym f ∙ ap (outcome_plain play.cell w key) e)

    applied_some : (key : Key) (payload : List ℕ) (call : C) (o : Option M) → o ≢ None → apply_result_plain r play.cell w key payload call answers o ≡ None → ⊥
    applied_some key payload call None n e = n refl
    applied_some key payload call (Some m) n e = none-some _ (sym e)

    invoked_some : (key : Key) (payload : List ℕ) (call : C) (broken : Bool) (o : Option M) → o ≢ None
        → (if broken then broken_plain play.cell w key payload answers else apply_result_plain r play.cell w key payload call answers o) ≡ None → ⊥
    invoked_some key payload call true o n e = none-some _ (sym e)
    invoked_some key payload call false o n e = applied_some key payload call o n e

    holder_some : (key : Key) (payload : List ℕ) → play.cell.workers w ≡ holds key payload → (decision : DeskDecision C) → d.decide payload ≡ decision
        → told_plain d r play.cell (goes (event_on d r w decision)) ≡ None → ⊥
    holder_some key payload e (Invoke call) q f =
        let g : apply_plain d r play.cell w answers (holds key payload) ≡ None = ap (apply_plain d r play.cell w answers) (sym e) ∙ f in
        let h : call_plain r play.cell w key payload answers (Invoke call) ≡ None = ap (call_plain r play.cell w key payload answers) (sym q) ∙ g in
        invoked_some key payload call play.cell.hall.broken (slice_get play.cell.hall.memories (r.slot call)) (slice_there play.cell.hall.memories (r.slot call) (served w key payload call e q)) h
    holder_some key payload e (Close fault) q f =
        let g : put_plain d play.cell w (holds key payload) ≡ None = ap (put_plain d play.cell w) (sym e) ∙ f in outcome_some key (settled_by (d.decide payload)) _ (ap settled_by q) g
    holder_some key payload e Silent q f =
        let g : put_plain d play.cell w (holds key payload) ≡ None = ap (put_plain d play.cell w) (sym e) ∙ f in outcome_some key (settled_by (d.decide payload)) _ (ap settled_by q) g
    holder_some key payload e (Reply reply) q f =
        let g : put_plain d play.cell w (holds key payload) ≡ None = ap (put_plain d play.cell w) (sym e) ∙ f in outcome_some key (settled_by (d.decide payload)) _ (ap settled_by q) g

    called_so : (es : List (JournalEntry C A)) (key : Key) (before : List (List ℕ)) (p : List ℕ) (k : Key) (payload : List ℕ) (answer : A)
        → Carries d es key before p (has_answer k payload answer) → (call : C) × (d.decide payload ≡ Invoke call)
    called_so es key before p k payload answer t = let entered : IsEntered d es before p answer = t.2 in (entered.0, ap d.decide t.1 ∙ entered.1)

    -- a job that has an answer makes a call
    makes_call : (key : Key) (payload : List ℕ) (answer : A) → play.cell.workers w ≡ has_answer key payload answer → (call : C) × (d.decide payload ≡ Invoke call)
    makes_call key payload answer e =
        let t : (key.c < play.cell.loop.count) × (keeps.place key.c ≡ held_by w) = keeps.workers w key (ap key_held e) in
        let p : PayloadIsAt d play.cell.workers (jobs_of key.c play.cell.hall.jobs) (outcomes_of key.c play.cell.hall.outcomes) (entries_of key.c play.cell.hall.journal) key.c (play.cell.loop.conns key.c) (held_by w) =
        subst (PayloadIsAt d play.cell.workers (jobs_of key.c play.cell.hall.jobs) (outcomes_of key.c play.cell.hall.outcomes) (entries_of key.c play.cell.hall.journal) key.c (play.cell.loop.conns key.c)) t.1
        (keeps.at key.c t.0) in
        let q : Carries d (entries_of key.c play.cell.hall.journal) (key_of key.c (length p.0)) p.0 p.1 (has_answer key payload answer) =
        subst (Carries d (entries_of key.c play.cell.hall.journal) (key_of key.c (length p.0)) p.0 p.1) e p.6 in
        called_so (entries_of key.c play.cell.hall.journal) (key_of key.c (length p.0)) p.0 p.1 key payload answer q

    answered_some : (key : Key) (payload : List ℕ) (answer : A) → play.cell.workers w ≡ has_answer key payload answer → told_plain d r play.cell (goes (puts w)) ≡ None → ⊥
    answered_some key payload answer e f =
        let g : put_plain d play.cell w (has_answer key payload answer) ≡ None = ap (put_plain d play.cell w) (sym e) ∙ f in
        let t : (call : C) × (d.decide payload ≡ Invoke call) = makes_call key payload answer e in
        silent_or (d.silent t.0) (ap (λ decision. outcome_plain play.cell w key (settled_with d payload answer decision)) (sym t.1) ∙ g)
      where
        silent_or : (b : Bool) → outcome_plain play.cell w key (if b then Some Nothing else Some (Replied (d.reply payload answer))) ≡ None → ⊥
        silent_or true h = none-some _ (sym h)
        silent_or false h = none-some _ (sym h)

    at_rest : (worker : WorkerState A) (jobs : List Job) → play.cell.workers w ≡ worker → play.cell.hall.jobs ≡ jobs → step_of_worker d r memory play w worker jobs ≡ None → (worker ≡ idle) × (jobs ≡ [])
    at_rest idle [] e j s = (refl, refl)
    at_rest idle (job ∷ jobs) e j s =
        let f : take_plain play.cell w idle (job ∷ jobs) ≡ None = ap (take_plain play.cell w idle) (sym j) ∙ ap (λ worker. take_plain play.cell w worker play.cell.hall.jobs) (sym e) ∙ told_none (goes (takes w)) s in
        absurd (none-some _ (sym f))
    at_rest (holds key payload) jobs e j s =
        absurd (holder_some key payload e (d.decide payload) refl
        (told_none (goes (event_on d r w (d.decide payload))) (memory_none (memory play.moves) (told_without d r w (memory play.moves) (d.decide payload)) _ s)))
    at_rest (has_answer key payload answer) jobs e j s =
        absurd (answered_some key payload answer e (told_none (goes (puts w)) (memory_none (memory play.moves) (puts_none w) _ s)))
    at_rest (has_none key payload) jobs e j s =
        let f : lack_plain play.cell w (Some key) ≡ None = ap (λ worker. lack_plain play.cell w (key_held worker)) (sym e) ∙ told_none (puts_none w) s in absurd (none-some _ (sym f))

  pub all_idle : (w : ℕ) → play.cell.workers w ≡ idle
  all_idle w = go (cases_lt w (workers_among workers))
    where
      go : (w < workers_among workers) ⊎ (workers_among workers ≤ w) → play.cell.workers w ≡ idle
      go (inl l) = (at_rest w (play.cell.workers w) play.cell.hall.jobs refl refl (still.each_worker w l)).0
      go (inr l) = kept.resting_beyond w l

  pub no_jobs : play.cell.hall.jobs ≡ []
  no_jobs = (at_rest 0 (play.cell.workers 0) play.cell.hall.jobs refl refl (still.each_worker 0 (some_worker workers))).1

  outcomes_none : (outcomes : List JobOutcome) → play.cell.hall.outcomes ≡ outcomes → collect_first d r play outcomes ≡ None → outcomes ≡ []
  outcomes_none [] e s = refl
  outcomes_none (o ∷ later) e s = absurd (go (cases_lt o.key.c play.cell.loop.count))
    where
      at_once : collect_plain play.cell (o ∷ later) ≡ None
      at_once = ap (collect_plain play.cell) (sym e) ∙ told_none (goes collects) (mapped_none (freed o.key.c) (told_in d r play (goes collects)) s)

      go : (o.key.c < play.cell.loop.count) ⊎ (play.cell.loop.count ≤ o.key.c) → ⊥
      go (inl l) = none-some _ (sym (when_true (nat_lt o.key.c play.cell.loop.count) _ (lt-ltb o.key.c play.cell.loop.count l) at_once))
      go (inr l) =
          let f : outcomes_of o.key.c (o ∷ later) ≡ [] = ap (outcomes_of o.key.c) (sym e) ∙ (keeps.nobody o.key.c l).1 in
          let g : outcomes_of o.key.c (o ∷ later) ≡ o ∷ outcomes_of o.key.c later = ap (λ b. cond b (o ∷ outcomes_of o.key.c later) (outcomes_of o.key.c later)) (eq-eqb o.key.c o.key.c refl) in
          let h : o ∷ outcomes_of o.key.c later ≡ [] = sym g ∙ f in let k : ⊥ = cc in k

  pub no_outcomes : play.cell.hall.outcomes ≡ []
  no_outcomes = outcomes_none play.cell.hall.outcomes refl still.collected

  -- each payload was submitted and collected, or the last one isn't submitted
  pub settled_or : (c : ℕ) → c < play.cell.loop.count
      → (((play.cell.loop.conns c).submitted ≡ length (play.cell.loop.conns c).payloads) × ((play.cell.loop.conns c).collected ≡ length (play.cell.loop.conns c).payloads))
      ⊎ ((play.cell.loop.conns c).submitted < length (play.cell.loop.conns c).payloads)
  settled_or c l = go (keeps.place c) (keeps.at c l)
    where
      go : (place : PayloadPlace)
          → PayloadIsAt d play.cell.workers (jobs_of c play.cell.hall.jobs) (outcomes_of c play.cell.hall.outcomes) (entries_of c play.cell.hall.journal) c (play.cell.loop.conns c) place
          → (((play.cell.loop.conns c).submitted ≡ length (play.cell.loop.conns c).payloads) × ((play.cell.loop.conns c).collected ≡ length (play.cell.loop.conns c).payloads))
          ⊎ ((play.cell.loop.conns c).submitted < length (play.cell.loop.conns c).payloads)
      go collected_all t = inl (t.2, t.3)
      go ready t =
          let u : IsUncollected (play.cell.loop.conns c) t.0 t.1 = t.2 in
          let n : length (play.cell.loop.conns c).payloads ≡ length (t.0 ++ t.1 ∷ []) = ap length u.last in
          let m : (play.cell.loop.conns c).submitted ≡ length t.0 = t.5 in inr (omega (arith, length-append t.0 (t.1 ∷ [])))
      go queued t = let f : [] ≡ job_of (key_of c (length t.0)) t.1 ∷ [] = sym (ap (jobs_of c) no_jobs) ∙ t.3 in let g : ⊥ = cc in absurd g
      go (held_by w) t = absurd (subst (Carries d (entries_of c play.cell.hall.journal) (key_of c (length t.0)) t.0 t.1) (all_idle w) t.6)
      go (put_out settled) t = let f : [] ≡ outcome_of (key_of c (length t.0)) settled ∷ [] = sym (ap (outcomes_of c) no_outcomes) ∙ t.4 in let g : ⊥ = cc in absurd g

  -- of a connection that is open
  module _ (c : ℕ) (l : c < play.cell.loop.count) (o : (play.cell.loop.conns c).cause ≡ None) where
    opened : is_open play.cell.loop c ≡ true
    opened = both (nat_lt c play.cell.loop.count) (has_none_yet (play.cell.loop.conns c).cause) (lt-ltb c play.cell.loop.count l) (ap has_none_yet o)

    open_none : open_move d r memory budget play c (play.cell.loop.conns c) ≡ None
    open_none = first_arm (is_open play.cell.loop c) (open_move d r memory budget play c (play.cell.loop.conns c)) None None opened (still.each_conn c l)

    -- what can happen on it does
    moved_none : (moved : Moved)
        → option_map (freed_if_over c) (option_map (λ cell. record play { cell = cell; moves = suc play.moves }) (with_loop play.cell (when (is_open play.cell.loop c) (moved_plain play.cell.loop c moved)))) ≡ None
        → moved ≡ None
    moved_none moved e = go (is_open play.cell.loop c) opened moved e
      where
        go : (b : Bool) → b ≡ true → (moved : Moved)
            → option_map (freed_if_over c) (option_map (λ cell. record play { cell = cell; moves = suc play.moves }) (with_loop play.cell (when b (moved_plain play.cell.loop c moved)))) ≡ None → moved ≡ None
        go true f None e = refl
        go true f (Some moved) e = absurd (none-some _ (sym e))
        go false f moved e = absurd (let g : ⊥ = cc in g)

    writes_some : (count : ℕ) → 1 ≤ count → count ≤ length (play.cell.loop.conns c).left → on_one d r play c (writes c count) ≡ None → ⊥
    writes_some count a b e =
        none-some _ (sym (when_true (nat_le 1 count && nat_le count (length (play.cell.loop.conns c).left)) _
        (both (nat_le 1 count) (nat_le count (length (play.cell.loop.conns c).left)) (le-leb 1 count a) (le-leb count (length (play.cell.loop.conns c).left) b))
        (moved_none (writes_plain c count (play.cell.loop.conns c)) e)))

    write_some : (rules : List PlanRule) → AllByRecursion MayWrite rules → 1 ≤ length (play.cell.loop.conns c).left → write_move d r play c (play.cell.loop.conns c).left rules ≡ None → ⊥
    write_some [] all m e = writes_some (length (play.cell.loop.conns c).left) m (omega arith) e
    write_some (takes_most count ∷ rules) all m e =
        let n : 0 < count = all.0 in
        writes_some (min count (length (play.cell.loop.conns c).left)) (omega arith) (omega arith) (mapped_none (with_rules c rules) (on_one d r play c (writes c (min count (length (play.cell.loop.conns c).left)))) e)
    write_some (blocks ∷ rules) all m e = none-some _ (sym e)
    write_some (fails ∷ rules) all m e =
        none-some _ (sym (when_true (not (is_empty (play.cell.loop.conns c).left)) _ (is_filled (play.cell.loop.conns c).left m)
        (moved_none (fails_write_plain c (play.cell.loop.conns c)) (mapped_none (with_rules c rules) (on_one d r play c (fails_write c)) e))))

    none_left : (play.cell.loop.conns c).left ≡ []
    none_left = go (play.cell.loop.conns c).left refl
      where
        go : (left : List ℕ) → (play.cell.loop.conns c).left ≡ left → left ≡ []
        go [] e = refl
        go (x ∷ xs) e =
            let m : length (play.cell.loop.conns c).left ≡ length (x ∷ xs) = ap length e in
            let n : 1 ≤ length (play.cell.loop.conns c).left = omega arith in
            absurd (write_some (play.rules c) (kept.writes c) n
            (first_arm (not (is_empty (play.cell.loop.conns c).left)) (write_move d r play c (play.cell.loop.conns c).left (play.rules c)) _ None (is_filled (play.cell.loop.conns c).left n) open_none))

    nothing_to_write : not (is_empty (play.cell.loop.conns c).left) ≡ false
    nothing_to_write = ap (λ left. not (is_empty left)) none_left

    submit_none : (if nat_lt (play.cell.loop.conns c).submitted (length (play.cell.loop.conns c).payloads) then told_in d r play (goes (submits c))
        else if nat_lt (play.cell.loop.conns c).collected (play.cell.loop.conns c).submitted then None
        else if nat_lt (length (play.cell.loop.conns c).held) 4 then read_move d r play c (4 - length (play.cell.loop.conns c).held) (play.unread c)
        else size_move d r memory budget play c (play.cell.loop.conns c).held (play.admitted c)) ≡ None
    submit_none = second_arm (not (is_empty (play.cell.loop.conns c).left)) (write_move d r play c (play.cell.loop.conns c).left (play.rules c)) _ None nothing_to_write open_none

    submits_some : (closed : Bool) (payload : Option (List ℕ)) → payload ≢ None → submit_plain play.cell c closed payload ≡ None → ⊥
    submits_some closed None n e = n refl
    submits_some true (Some payload) n e = none-some _ (sym e)
    submits_some false (Some payload) n e = none-some _ (sym e)

    all_settled : ((play.cell.loop.conns c).submitted ≡ length (play.cell.loop.conns c).payloads) × ((play.cell.loop.conns c).collected ≡ length (play.cell.loop.conns c).payloads)
    all_settled = go (settled_or c l)
      where
        go : (((play.cell.loop.conns c).submitted ≡ length (play.cell.loop.conns c).payloads) × ((play.cell.loop.conns c).collected ≡ length (play.cell.loop.conns c).payloads))
            ⊎ ((play.cell.loop.conns c).submitted < length (play.cell.loop.conns c).payloads)
            → ((play.cell.loop.conns c).submitted ≡ length (play.cell.loop.conns c).payloads) × ((play.cell.loop.conns c).collected ≡ length (play.cell.loop.conns c).payloads)
        go (inl t) = t
        go (inr m) =
            absurd (submits_some play.cell.hall.closed (slice_get (play.cell.loop.conns c).payloads (play.cell.loop.conns c).submitted) (slice_there (play.cell.loop.conns c).payloads (play.cell.loop.conns c).submitted m)
            (when_true (nat_lt c play.cell.loop.count) (submit_plain play.cell c play.cell.hall.closed (slice_get (play.cell.loop.conns c).payloads (play.cell.loop.conns c).submitted)) (lt-ltb c play.cell.loop.count l)
            (told_none (goes (submits c))
            (first_arm (nat_lt (play.cell.loop.conns c).submitted (length (play.cell.loop.conns c).payloads)) (told_in d r play (goes (submits c))) _ None
            (lt-ltb (play.cell.loop.conns c).submitted (length (play.cell.loop.conns c).payloads) m) submit_none))))

    -- nothing is owed, so it waits for what it needs to read on
    owes_none : owes_nothing (play.cell.loop.conns c) ≡ true
    owes_none =
        both ((play.cell.loop.conns c).collected == length (play.cell.loop.conns c).payloads) (is_empty (play.cell.loop.conns c).left)
        (eq-eqb (play.cell.loop.conns c).collected (length (play.cell.loop.conns c).payloads) all_settled.1) (is_nothing (play.cell.loop.conns c).left none_left)

    waits : (if nat_lt (length (play.cell.loop.conns c).held) 4 then read_move d r play c (4 - length (play.cell.loop.conns c).held) (play.unread c)
        else size_move d r memory budget play c (play.cell.loop.conns c).held (play.admitted c)) ≡ None
    waits =
        let m : (play.cell.loop.conns c).submitted ≡ length (play.cell.loop.conns c).payloads = all_settled.0 in
        let n : (play.cell.loop.conns c).collected ≡ length (play.cell.loop.conns c).payloads = all_settled.1 in
        second_arm (nat_lt (play.cell.loop.conns c).collected (play.cell.loop.conns c).submitted) None _ None (le-ltb (play.cell.loop.conns c).collected (play.cell.loop.conns c).submitted (omega arith))
        (second_arm (nat_lt (play.cell.loop.conns c).submitted (length (play.cell.loop.conns c).payloads)) (told_in d r play (goes (submits c))) _ None
        (le-ltb (play.cell.loop.conns c).submitted (length (play.cell.loop.conns c).payloads) (omega arith)) submit_none)

    fits : Fits d.max (play.cell.loop.conns c).held
    fits = (kept.each c l).fits o

    progress_none : (bytes : List ℕ) (progress : Option FrameProgress) → progress_plain c (play.cell.loop.conns c) bytes progress ≡ None → progress ≡ None
    progress_none bytes None e = refl
    progress_none bytes (Some progress) e = absurd (none-some _ (sym e))

    stays_so : (bytes : List ℕ) → MayRead d.max (play.cell.loop.conns c).held (length bytes) → stays_in_size (play.cell.loop.conns c).held bytes ≡ true
    stays_so bytes (inl t) =
        ap (λ b. if b then nat_le (length (play.cell.loop.conns c).held + length bytes) 4 else true) (lt-ltb (length (play.cell.loop.conns c).held) 4 t.0)
        ∙ le-leb (length (play.cell.loop.conns c).held + length bytes) 4 t.1
    stays_so bytes (inr t) = ap (λ b. if b then nat_le (length (play.cell.loop.conns c).held + length bytes) 4 else true) (le-ltb (length (play.cell.loop.conns c).held) 4 t.0)

    reads_some : (bytes : List ℕ) → AreBytes bytes → 1 ≤ length bytes → MayRead d.max (play.cell.loop.conns c).held (length bytes) → on_one d r play c (reads c bytes) ≡ None → ⊥
    reads_some bytes are some may e =
        goes_on d.max (play.cell.loop.conns c).held bytes fits are may
        (progress_none bytes (progress_by d.max ((play.cell.loop.conns c).held ++ bytes))
        (when_true (owes_nothing (play.cell.loop.conns c) && (not (is_empty bytes) && stays_in_size (play.cell.loop.conns c).held bytes)) _
        (both (owes_nothing (play.cell.loop.conns c)) _ owes_none (both (not (is_empty bytes)) _ (is_filled bytes some) (stays_so bytes may)))
        (moved_none (reads_plain d.max c bytes (play.cell.loop.conns c)) e)))

    behind_none : (finish : Option InputFinish) → read_behind d r play c finish ≡ None → finish ≡ None
    behind_none None e = refl
    behind_none (Some finishes) e = absurd (none-some _ (sym (when_true (owes_nothing (play.cell.loop.conns c)) _ owes_none (moved_none (ends_plain c (play.cell.loop.conns c)) e))))
    behind_none (Some faults) e = absurd (none-some _ (sym (when_true (owes_nothing (play.cell.loop.conns c)) _ owes_none (moved_none (fails_read_plain c (play.cell.loop.conns c)) e))))

    -- where no read can be made, all that has arrived is read, and nothing comes after it
    read_none : (missing : ℕ) → 1 ≤ missing → ((n : ℕ) → n ≤ missing → MayRead d.max (play.cell.loop.conns c).held n) → (pieces : List (List ℕ)) → AllByRecursion IsArrival pieces
        → read_move d r play c missing pieces ≡ None → (pieces ≡ []) × (play.finish c ≡ None)
    read_none missing some may [] all e = (refl, behind_none (play.finish c) e)
    read_none missing some may (bytes ∷ pieces) all e =
        let long : 0 < length bytes = all.0.0 in
        let count : ℕ = min (min missing most_read) (length bytes) in
        let less : min (min missing most_read) (length bytes) ≤ length bytes = omega arith in
        let same : length (take (min (min missing most_read) (length bytes)) bytes) ≡ min (min missing most_read) (length bytes) = length-take-le (min (min missing most_read) (length bytes)) bytes less in
        absurd (reads_some (take (min (min missing most_read) (length bytes)) bytes) (bytes_taken (min (min missing most_read) (length bytes)) bytes all.0.1) (omega arith)
        (may (length (take (min (min missing most_read) (length bytes)) bytes)) (omega arith))
        (mapped_none (with_unread c (pieces_left (drop (min (min missing most_read) (length bytes)) bytes) pieces)) (on_one d r play c (reads c (take (min (min missing most_read) (length bytes)) bytes))) e))

    short_reads : length (play.cell.loop.conns c).held < 4 → (play.unread c ≡ []) × (play.finish c ≡ None)
    short_reads m =
        read_none (4 - length (play.cell.loop.conns c).held) (omega arith) (λ k s. inl (m, omega arith)) (play.unread c) (kept.pieces c)
        (first_arm (nat_lt (length (play.cell.loop.conns c).held) 4) (read_move d r play c (4 - length (play.cell.loop.conns c).held) (play.unread c)) _ None (lt-ltb (length (play.cell.loop.conns c).held) 4 m) waits)

    sizes : 4 ≤ length (play.cell.loop.conns c).held → size_move d r memory budget play c (play.cell.loop.conns c).held (play.admitted c) ≡ None
    sizes m = second_arm (nat_lt (length (play.cell.loop.conns c).held) 4) (read_move d r play c (4 - length (play.cell.loop.conns c).held) (play.unread c)) _ None (le-ltb (length (play.cell.loop.conns c).held) 4 m) waits

    -- a size that is admitted is that of the frame under way
    admitted_is : (size : ℕ) → play.admitted c ≡ Some size → (4 ≤ length (play.cell.loop.conns c).held) × (size ≡ size_in (play.cell.loop.conns c).held)
    admitted_is size e = go ((kept.each c l).admits size e).1
      where
        go : ((play.cell.loop.conns c).collected < length (play.cell.loop.conns c).payloads) ⊎ ((4 ≤ length (play.cell.loop.conns c).held) × (size ≡ size_in (play.cell.loop.conns c).held))
            → (4 ≤ length (play.cell.loop.conns c).held) × (size ≡ size_in (play.cell.loop.conns c).held)
        go (inl m) = let k : (play.cell.loop.conns c).collected ≡ length (play.cell.loop.conns c).payloads = all_settled.1 in absurd (let f : ⊥ = omega arith in f)
        go (inr s) = s

    -- where one is admitted, what has arrived is read as well
    admitted_reads : (size : ℕ) → play.admitted c ≡ Some size → (play.unread c ≡ []) × (play.finish c ≡ None)
    admitted_reads size e =
        let s : (4 ≤ length (play.cell.loop.conns c).held) × (size ≡ size_in (play.cell.loop.conns c).held) = admitted_is size e in
        let four : 4 ≤ length (play.cell.loop.conns c).held = s.0 in
        let same : size ≡ size_in (play.cell.loop.conns c).held = s.1 in
        let within : length (play.cell.loop.conns c).held < 4 + size_in (play.cell.loop.conns c).held = (fits.size four).2 in
        read_none ((4 + size) - length (play.cell.loop.conns c).held) (omega arith) (λ k m. inr (four, omega arith)) (play.unread c) (kept.pieces c)
        (ap (size_move d r memory budget play c (play.cell.loop.conns c).held) (sym e) ∙ sizes four)

    -- where none is, the budget has no room for it
    none_fits : 4 ≤ length (play.cell.loop.conns c).held → play.admitted c ≡ None → budget < all_admitted play + size_in (play.cell.loop.conns c).held
    none_fits four e = go (nat_le (all_admitted play + size_in (play.cell.loop.conns c).held) budget) refl (ap (size_move d r memory budget play c (play.cell.loop.conns c).held) (sym e) ∙ sizes four)
      where
        next : Play C A M
        next = moved_on (record play { admitted = at_number play.admitted c (Some (size_in (play.cell.loop.conns c).held)) })

        go : (b : Bool) → nat_le (all_admitted play + size_in (play.cell.loop.conns c).held) budget ≡ b
            → (if b then admission d r memory play c (size_in (play.cell.loop.conns c).held) else None) ≡ None → budget < all_admitted play + size_in (play.cell.loop.conns c).held
        go true t s = absurd (none-some next (sym (memory_none (memory play.moves) (goes (on_conn (gives_up c NoMemory))) (Some next) s)))
        go false t s = leb-false (all_admitted play + size_in (play.cell.loop.conns c).held) budget t

    -- it owes nothing, and has read all that has arrived, or is held
    pub stalls : IsStalled d.max budget play c
    stalls =
        record { collected = all_settled.1; left = none_left; within = within; admitted = λ size e. (admitted_is size e).1; reads = go (cases_lt (length (play.cell.loop.conns c).held) 4) (play.admitted c) refl }
      where
        within : size_in (play.cell.loop.conns c).held ≤ d.max
        within = by (cases_lt (length (play.cell.loop.conns c).held) 4)
          where
            by : (length (play.cell.loop.conns c).held < 4) ⊎ (4 ≤ length (play.cell.loop.conns c).held) → size_in (play.cell.loop.conns c).held ≤ d.max
            by (inl m) =
                let none : size_in (play.cell.loop.conns c).held ≡ 0 = ap (λ b. if b then 0 else from_be_bytes w32 (take 4 (play.cell.loop.conns c).held)) (lt-ltb (length (play.cell.loop.conns c).held) 4 m) in
                omega arith
            by (inr m) = (fits.size m).1

        go : (length (play.cell.loop.conns c).held < 4) ⊎ (4 ≤ length (play.cell.loop.conns c).held) → (admitted : Option ℕ) → play.admitted c ≡ admitted → (play.unread c ≡ []) ⊎ IsHeld budget play c
        go (inl m) admitted e = inl (short_reads m).0
        go (inr m) (Some size) e = inl (admitted_reads size e).0
        go (inr m) None e = inr (record { none = e; more = none_fits m e })

  module _ (room : d.max ≤ budget) (finished : (c : ℕ) → c < play.cell.loop.count → play.finish c ≢ None) where
    -- no size is admitted
    none_admitted : (c : ℕ) → c < play.cell.loop.count → size_or_zero (play.admitted c) ≡ 0
    none_admitted c l = go (play.admitted c) refl
      where
        go : (admitted : Option ℕ) → play.admitted c ≡ admitted → size_or_zero admitted ≡ 0
        go None e = refl
        go (Some size) e = absurd (finished c l (admitted_reads c l ((kept.each c l).admits size e).0 size e).1)

    nothing_admitted : all_admitted play ≡ 0
    nothing_admitted = go (cases_lt 0 (all_admitted play))
      where
        go : (0 < all_admitted play) ⊎ (all_admitted play ≤ 0) → all_admitted play ≡ 0
        go (inl m) =
            let t : (c : ℕ) × (c < play.cell.loop.count) × (0 < size_or_zero (play.admitted c)) = someone (λ c. size_or_zero (play.admitted c)) play.cell.loop.count m in
            let n : size_or_zero (play.admitted t.0) ≡ 0 = none_admitted t.0 t.1 in let k : 0 < size_or_zero (play.admitted t.0) = t.2 in absurd (let f : ⊥ = omega arith in f)
        go (inr m) = omega arith

    -- a size that waits for the budget would be admitted
    held_ends : (c : ℕ) → c < play.cell.loop.count → (play.cell.loop.conns c).cause ≡ None → 4 ≤ length (play.cell.loop.conns c).held → ⊥
    held_ends c l o four = go (play.admitted c) refl
      where
        go : (admitted : Option ℕ) → play.admitted c ≡ admitted → ⊥
        go (Some n) e = finished c l (admitted_reads c l o n e).1
        go None e =
            let none : all_admitted play ≡ 0 = nothing_admitted in
            let within : size_in (play.cell.loop.conns c).held ≤ d.max = ((fits c l o).size four).1 in
            let more : budget < all_admitted play + size_in (play.cell.loop.conns c).held = none_fits c l o four e in
            let f : ⊥ = omega arith in
            f

    has_ended : (c : ℕ) → c < play.cell.loop.count → (play.cell.loop.conns c).cause ≢ None
    has_ended c l o = go (cases_lt (length (play.cell.loop.conns c).held) 4)
      where
        go : (length (play.cell.loop.conns c).held < 4) ⊎ (4 ≤ length (play.cell.loop.conns c).held) → ⊥
        go (inl m) = finished c l (short_reads c l o m).1
        go (inr m) = held_ends c l o m

    -- each connection has ended, and none by a stop
    pub all_ended : (causes : List EndCause) × HaveAllEnded play.cell.loop causes × ((c : ℕ) → slice_get causes c ≢ Some Stopped)
    all_ended =
        let t : (causes : List EndCause) × (length causes ≡ play.cell.loop.count) × ((i : ℕ) → i < play.cell.loop.count → (play.cell.loop.conns (0 + i)).cause ≡ slice_get causes i) × ((i : ℕ) → slice_get causes i ≢ Some Stopped) =
        listed (λ c. (play.cell.loop.conns c).cause) 0 play.cell.loop.count (λ c l m. has_ended c (omega arith)) (λ c l m. (kept.each c (omega arith)).unstopped) in
        (t.0, record { count = t.1; each = λ c l. let z : 0 + c ≡ c = omega arith in ap (λ n. (play.cell.loop.conns n).cause) (sym z) ∙ t.2 c l }, t.3)
