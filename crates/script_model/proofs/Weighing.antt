-- What is left to do in a rehearsal, weighed: each event that its moves tell takes something off the machine's weight.
use Rattle.std.proofs.Common.{◌≡◌, ℕ, zero, suc, ◌+◌, ◌*◌, ◌-◌, ◌<◌, ◌≤◌, ◌⊎◌, Bool, true, false, ◌&&◌, not, ◌==◌, nat_lt, nat_le, if◌then◌else◌, Option, None, Some, List, [], ◌∷◌, ◌++◌, length, drop, slice_get, refl, ap, ◌∙◌, inl, inr, arith, length-append}
use Rattle.std.proofs.lemmas.Bool.{and_parts, ltb-true, not-true, cases_eq}
use Rattle.streams.specs.declared.outcomes.Settled.{Settled}
use Rattle.streams.specs.declared.outcomes.Settled.TheVariants.{Reply, Nothing, Close, NoMemory as Lack}
use Rattle.host_model.specs.declared.key.Key.{Key}
use Rattle.host_model.specs.declared.cause.EndCause.{EndCause}
use Rattle.host_model.specs.declared.cause.EndCause.TheVariants.{ReadFault, WriteFault}
use Rattle.host_model.specs.Journal.{ServiceRules}
use Rattle.host_model.specs.World.{end_behind}
use Rattle.host_model.specs.DeskRules.{DeskRules, DeskDecision, Close as Refuse, Silent, Reply as Answer, Invoke}
use Rattle.machine_model.specs.HallState.{key_of, Job, JobOutcome, HallState}
use Rattle.machine_model.specs.HallRule.{job_of, outcome_of}
use Rattle.machine_model.specs.Loop.{LoopConn, FrameProgress, part, bad_size, whole, with_conn, changed, with_cause, submitted_more, conn_settled, conn_marks_settled}
use Rattle.machine_model.specs.Bounds.{sum_among}
use Rattle.machine_model.specs.Worker.{WorkerState, idle, holds, has_answer, has_none, settlement, key_held}
use Rattle.machine_model.specs.Machine.{Cell, with_worker}
use Rattle.machine_model.specs.Plain.{when, is_empty, is_open, has_none_yet, Moved, progress_by, progress_plain, reads_plain, ends_plain, fails_read_plain, writes_plain, fails_write_plain, gives_up_plain, is_given_up, owes_nothing, stays_in_size, moved_plain, with_loop, ApplyResult, answers, lacks_for_call, lacks_for_answer, fails_journal, submit_plain, take_plain, effect_plain, fault_plain, apply_result_plain, broken_plain, call_plain, apply_plain, outcome_plain, put_plain, lack_plain, collect_plain}
use Rattle.machine_model.specs.AtFronts.{summed}
use Rattle.machine_model.proofs.Lists.{put_same, put_other}
use Rattle.machine_model.proofs.Summing.{sum_changed}

-- a sum of numbers that doesn't change where one outside is changed
pub summed_outside : {X : Type 0} (g : X → ℕ) (f : ℕ → X) (c : ℕ) (v : X) (n : ℕ) → n ≤ c → summed (λ x. g (if x == c then v else f x)) n ≡ summed (λ x. g (f x)) n
summed_outside g f c v zero l = refl
summed_outside g f c v (suc n) l =
    let h : g (if n == c then v else f n) ≡ g (f n) = ap g (put_other f c v n (λ e. let k : ⊥ = omega arith in k)) in
    let t : summed (λ x. g (if x == c then v else f x)) n ≡ summed (λ x. g (f x)) n = summed_outside g f c v n (omega arith) in
    omega arith

-- and one of which one inside is
pub summed_changed : {X : Type 0} (g : X → ℕ) (f : ℕ → X) (c : ℕ) (v : X) (n : ℕ) → c < n
    → summed (λ x. g (if x == c then v else f x)) n + g (f c) ≡ summed (λ x. g (f x)) n + g v
summed_changed g f c v zero l = absurd (let k : ⊥ = omega arith in k)
summed_changed g f c v (suc n) l = go (cases_eq n c) (summed_changed g f c v n)
  where
    go : (n ≡ c) ⊎ (n ≡ c → ⊥) → (c < n → summed (λ x. g (if x == c then v else f x)) n + g (f c) ≡ summed (λ x. g (f x)) n + g v)
        → g (if n == c then v else f n) + summed (λ x. g (if x == c then v else f x)) n + g (f c) ≡ g (f n) + summed (λ x. g (f x)) n + g v
    go (inl e) rec =
        let h : g (if n == c then v else f n) ≡ g v = ap (λ x. g (if x == c then v else f x)) e ∙ ap g (put_same f c v) in
        let k : g (f n) ≡ g (f c) = ap (λ x. g (f x)) e in
        let t : summed (λ x. g (if x == c then v else f x)) n ≡ summed (λ x. g (f x)) n = summed_outside g f c v n (omega arith) in
        omega arith
    go (inr m) rec =
        let h : g (if n == c then v else f n) ≡ g (f n) = ap g (put_other f c v n m) in
        let t : summed (λ x. g (if x == c then v else f x)) n + g (f c) ≡ summed (λ x. g (f x)) n + g v = rec (omega arith) in
        omega arith

-- what weighs at a connection: that it is open; each payload that isn't submitted, by all that its call takes; and that something is to be written
abbrev pub open_weight : Option EndCause → ℕ
open_weight None = 2
open_weight (Some cause) = 0

abbrev pub left_weight : List ℕ → ℕ
left_weight [] = 0
left_weight (byte ∷ bytes) = 2

abbrev pub conn_weight : LoopConn → ℕ
conn_weight conn = open_weight conn.cause + 8 * (length conn.payloads - conn.submitted) + left_weight conn.left

-- at a worker: what its job still takes
abbrev pub worker_weight : {A : Type 0} → WorkerState A → ℕ
worker_weight idle = 0
worker_weight (holds key payload) = 6
worker_weight (has_answer key payload answer) = 5
worker_weight (has_none key payload) = 5

abbrev pub workers_weight : {A : Type 0} → ℕ → (ℕ → WorkerState A) → ℕ
workers_weight bound workers = summed (λ w. worker_weight (workers w)) bound

left_less : (left : List ℕ) → left_weight left ≤ 2
left_less [] = omega arith
left_less (byte ∷ bytes) = omega arith

left_dropped : (n : ℕ) (left : List ℕ) → left_weight (drop n left) ≤ left_weight left
left_dropped zero left = omega arith
left_dropped (suc n) [] = omega arith
left_dropped (suc n) (byte ∷ bytes) = left_less (drop n bytes)

pub all_dropped : (left : List ℕ) → left_weight (drop (length left) left) ≡ 0
all_dropped [] = refl
all_dropped (byte ∷ bytes) = all_dropped bytes

-- what a connection comes to, where it comes to something, is lighter by so much once this was added
abbrev pub MovedWithin : (gain loss : ℕ) → LoopConn → Moved → Type 0
MovedWithin gain loss conn None = Unit {0}
MovedWithin gain loss conn (Some moved) = conn_weight moved.0 + loss ≤ conn_weight conn + gain

when_within : (gain loss : ℕ) (conn : LoopConn) (b : Bool) (moved : Moved) → (b ≡ true → MovedWithin gain loss conn moved) → MovedWithin gain loss conn (when b moved)
when_within gain loss conn true moved f = f refl
when_within gain loss conn false moved f = tt

-- an open connection that gets a cause
pub ended_within : (conn : LoopConn) (cause : EndCause) → conn.cause ≡ None → conn_weight (with_cause conn cause) + 2 ≤ conn_weight conn + 0
ended_within conn cause e =
    let h : open_weight conn.cause ≡ 2 = ap open_weight e in
    omega arith

some_bytes : (bytes : List ℕ) → is_empty bytes ≡ false → 1 ≤ length bytes
some_bytes [] e = absurd (let f : ⊥ = cc in f)
some_bytes (byte ∷ bytes) e = omega arith

pub reads_within : (max c : ℕ) (bytes : List ℕ) (conn : LoopConn) → conn.cause ≡ None → MovedWithin (10 * length bytes) 2 conn (reads_plain max c bytes conn)
reads_within max c bytes conn open_ =
    when_within (10 * length bytes) 2 conn (owes_nothing conn && (not (is_empty bytes) && stays_in_size conn.held bytes)) _
    (λ b. let t : (owes_nothing conn ≡ true) × ((not (is_empty bytes) && stays_in_size conn.held bytes) ≡ true) = and_parts (owes_nothing conn) (not (is_empty bytes) && stays_in_size conn.held bytes) b in
    let v : (not (is_empty bytes) ≡ true) × (stays_in_size conn.held bytes ≡ true) = and_parts (not (is_empty bytes)) (stays_in_size conn.held bytes) t.1 in
    go (some_bytes bytes (not-true (is_empty bytes) v.0)) (progress_by max (conn.held ++ bytes)))
  where
    go : 1 ≤ length bytes → (progress : Option FrameProgress) → MovedWithin (10 * length bytes) 2 conn (progress_plain c conn bytes progress)
    go l None = tt
    go l (Some part) = omega arith
    go l (Some (bad_size z)) = let h : open_weight conn.cause ≡ 2 = ap open_weight open_ in omega arith
    go l (Some (whole payload)) = omega (arith, length-append conn.payloads (payload ∷ []))

pub ends_within : (c : ℕ) (conn : LoopConn) → conn.cause ≡ None → MovedWithin 0 2 conn (ends_plain c conn)
ends_within c conn e = when_within 0 2 conn (owes_nothing conn) _ (λ b. ended_within conn (end_behind conn.held) e)

pub fails_read_within : (c : ℕ) (conn : LoopConn) → conn.cause ≡ None → MovedWithin 0 2 conn (fails_read_plain c conn)
fails_read_within c conn e = when_within 0 2 conn (owes_nothing conn) _ (λ b. ended_within conn ReadFault e)

pub fails_write_within : (c : ℕ) (conn : LoopConn) → conn.cause ≡ None → MovedWithin 0 2 conn (fails_write_plain c conn)
fails_write_within c conn e = when_within 0 2 conn (not (is_empty conn.left)) _ (λ b. ended_within conn WriteFault e)

pub gives_up_within : (c : ℕ) (cause : EndCause) (conn : LoopConn) → conn.cause ≡ None → MovedWithin 0 2 conn (gives_up_plain c cause conn)
gives_up_within c cause conn e = when_within 0 2 conn (is_given_up cause) _ (λ b. ended_within conn cause e)

-- a write leaves no more, and a whole one nothing
pub writes_within : (c count : ℕ) (conn : LoopConn) → MovedWithin 0 0 conn (writes_plain c count conn)
writes_within c count conn =
    when_within 0 0 conn (nat_le 1 count && nat_le count (length conn.left)) _ (λ b. let h : left_weight (drop count conn.left) ≤ left_weight conn.left = left_dropped count conn.left in omega arith)

pub writes_all_within : (c : ℕ) (conn : LoopConn) → is_empty conn.left ≡ false → MovedWithin 0 2 conn (writes_plain c (length conn.left) conn)
writes_all_within c conn e =
    when_within 0 2 conn (nat_le 1 (length conn.left) && nat_le (length conn.left) (length conn.left)) _
    (λ b. let h : left_weight (drop (length conn.left) conn.left) ≡ 0 = all_dropped conn.left in
    let k : left_weight conn.left ≡ 2 = full conn.left e in
    omega arith)
  where
    full : (left : List ℕ) → is_empty left ≡ false → left_weight left ≡ 2
    full [] f = absurd (let g : ⊥ = cc in g)
    full (byte ∷ bytes) f = refl

-- an outcome that is collected
settled_within : (conn : LoopConn) (settled : Settled) → conn_weight (conn_settled conn.cause settled conn) ≤ conn_weight conn + 2
settled_within conn settled = go conn.cause refl settled
  where
    go : (cause : Option EndCause) → conn.cause ≡ cause → (settled : Settled) → conn_weight (conn_settled cause settled conn) ≤ conn_weight conn + 2
    go None e (Reply reply) = let h : left_weight reply ≤ 2 = left_less reply in omega arith
    go None e Nothing = omega arith
    go None e (Close fault) = omega arith
    go None e Lack = omega arith
    go (Some cause) e s = omega arith

none_by : (cause : Option EndCause) → has_none_yet cause ≡ true → cause ≡ None
none_by None e = refl
none_by (Some cause) e = absurd (let f : ⊥ = cc in f)

module _ {C A M : Type 0} where
  -- the weight of a machine with bound workers
  abbrev pub cell_weight : ℕ → Cell C A M → ℕ
  cell_weight bound cell = sum_among conn_weight cell.loop.conns cell.loop.count + (7 * length cell.hall.jobs + 4 * length cell.hall.outcomes) + workers_weight bound cell.workers

  -- it is lighter by so much once this was added, has as many connections, and its hall is closed if it was
  pub record Changes (gain loss bound : ℕ) (old new : Cell C A M) : Type 0 where
    pub count : new.loop.count ≡ old.loop.count
    pub closed : new.hall.closed ≡ old.hall.closed
    pub weight : cell_weight bound new + loss ≤ cell_weight bound old + gain

  abbrev pub Changing : (gain loss bound : ℕ) → Cell C A M → Option (Cell C A M) → Type 0
  Changing gain loss bound old None = Unit {0}
  Changing gain loss bound old (Some new) = Changes gain loss bound old new

  module _ (bound : ℕ) (cell : Cell C A M) where
    -- one connection, which is open, comes to something
    pub conn_changes : (gain loss c : ℕ) (moved : Moved) → ((cell.loop.conns c).cause ≡ None → MovedWithin gain loss (cell.loop.conns c) moved)
        → Changing gain loss bound cell (with_loop cell (when (is_open cell.loop c) (moved_plain cell.loop c moved)))
    conn_changes gain loss c moved within = go (is_open cell.loop c) refl
      where
        by : c < cell.loop.count → (o : Moved) → MovedWithin gain loss (cell.loop.conns c) o → Changing gain loss bound cell (with_loop cell (moved_plain cell.loop c o))
        by l None m = tt
        by l (Some new) m =
            let s : sum_among conn_weight (with_conn cell.loop.conns c new.0) cell.loop.count + conn_weight (cell.loop.conns c) ≡ sum_among conn_weight cell.loop.conns cell.loop.count + conn_weight new.0 =
            sum_changed conn_weight cell.loop.conns c new.0 cell.loop.count l in
            let t : conn_weight new.0 + loss ≤ conn_weight (cell.loop.conns c) + gain = m in
            record { count = refl; closed = refl; weight = omega arith }

        go : (b : Bool) → is_open cell.loop c ≡ b → Changing gain loss bound cell (with_loop cell (when b (moved_plain cell.loop c moved)))
        go true e =
            let t : (nat_lt c cell.loop.count ≡ true) × (has_none_yet (cell.loop.conns c).cause ≡ true) = and_parts (nat_lt c cell.loop.count) (has_none_yet (cell.loop.conns c).cause) e in
            by (ltb-true c cell.loop.count t.0) moved (within (none_by (cell.loop.conns c).cause t.1))
        go false e = tt

    -- a payload is submitted to a hall that isn't closed
    pub submits_changes : (c : ℕ) → cell.hall.closed ≡ false → (cell.loop.conns c).submitted < length (cell.loop.conns c).payloads
        → Changing 0 1 bound cell (when (nat_lt c cell.loop.count) (submit_plain cell c cell.hall.closed (slice_get (cell.loop.conns c).payloads (cell.loop.conns c).submitted)))
    submits_changes c is_open some = go (nat_lt c cell.loop.count) refl
      where
        by : c < cell.loop.count → (closed : Bool) → closed ≡ false → (payload : Option (List ℕ)) → Changing 0 1 bound cell (submit_plain cell c closed payload)
        by l closed e None = tt
        by l true e (Some payload) = absurd (let f : ⊥ = cc in f)
        by l false e (Some payload) =
            let conn : LoopConn = cell.loop.conns c in
            let s : sum_among conn_weight (with_conn cell.loop.conns c (submitted_more conn)) cell.loop.count + conn_weight conn
            ≡ sum_among conn_weight cell.loop.conns cell.loop.count + conn_weight (submitted_more conn) =
            sum_changed conn_weight cell.loop.conns c (submitted_more conn) cell.loop.count l in
            let t : length conn.payloads - conn.submitted ≡ suc (length conn.payloads - suc conn.submitted) = omega arith in
            record { count = refl; closed = refl; weight = omega (arith, length-append cell.hall.jobs (job_of (key_of c conn.submitted) payload ∷ [])) }

        go : (b : Bool) → nat_lt c cell.loop.count ≡ b
            → Changing 0 1 bound cell (when b (submit_plain cell c cell.hall.closed (slice_get (cell.loop.conns c).payloads (cell.loop.conns c).submitted)))
        go true e = by (ltb-true c cell.loop.count e) cell.hall.closed is_open (slice_get (cell.loop.conns c).payloads (cell.loop.conns c).submitted)
        go false e = tt

    -- an outcome is collected
    pub collects_changes : (outcomes : List JobOutcome) → cell.hall.outcomes ≡ outcomes → 0 < length outcomes → Changing 0 2 bound cell (collect_plain cell outcomes)
    collects_changes [] e some = absurd (let f : ⊥ = omega arith in f)
    collects_changes (o ∷ later) e some = go (nat_lt o.key.c cell.loop.count) refl
      where
        go : (b : Bool) → nat_lt o.key.c cell.loop.count ≡ b
            → Changing 0 2 bound cell (when b (Some (record cell {
              loop = changed cell.loop o.key.c (conn_settled (cell.loop.conns o.key.c).cause o.settled (cell.loop.conns o.key.c)) (conn_marks_settled (cell.loop.conns o.key.c).cause o.key.c o.settled);
              hall = record cell.hall { outcomes = later };
            })))
        go false t = tt
        go true t =
            let conn : LoopConn = cell.loop.conns o.key.c in
            let new : LoopConn = conn_settled conn.cause o.settled conn in
            let s : sum_among conn_weight (with_conn cell.loop.conns o.key.c new) cell.loop.count + conn_weight conn ≡ sum_among conn_weight cell.loop.conns cell.loop.count + conn_weight new =
            sum_changed conn_weight cell.loop.conns o.key.c new cell.loop.count (ltb-true o.key.c cell.loop.count t) in
            let w : conn_weight new ≤ conn_weight conn + 2 = settled_within conn o.settled in
            let n : length cell.hall.outcomes ≡ suc (length later) = ap length e in
            record { count = refl; closed = refl; weight = omega arith }

    module _ (w : ℕ) (among : w < bound) where
      -- a worker goes on, with nothing else that weighs
      worker_changes : (hall : HallState C A M) (worker : WorkerState A) → hall.jobs ≡ cell.hall.jobs → hall.outcomes ≡ cell.hall.outcomes → hall.closed ≡ cell.hall.closed
          → worker_weight worker + 1 ≤ worker_weight (cell.workers w) → Changes 0 1 bound cell (record cell { hall = hall; workers = with_worker cell.workers w worker })
      worker_changes hall worker jobs outcomes closed less =
          let s : summed (λ x. worker_weight (with_worker cell.workers w worker x)) bound + worker_weight (cell.workers w) ≡ summed (λ x. worker_weight (cell.workers x)) bound + worker_weight worker =
          summed_changed worker_weight cell.workers w worker bound among in
          let a : length hall.jobs ≡ length cell.hall.jobs = ap length jobs in
          let b : length hall.outcomes ≡ length cell.hall.outcomes = ap length outcomes in
          record { count = refl; closed = closed; weight = omega arith }

      pub takes_changes : (worker : WorkerState A) (jobs : List Job) → cell.workers w ≡ worker → cell.hall.jobs ≡ jobs → 0 < length jobs → Changing 0 1 bound cell (take_plain cell w worker jobs)
      takes_changes idle [] is e some = absurd (let f : ⊥ = omega arith in f)
      takes_changes idle (job ∷ later) is e some =
          let s : summed (λ x. worker_weight (with_worker cell.workers w (holds job.key job.payload) x)) bound + worker_weight (cell.workers w) ≡ summed (λ x. worker_weight (cell.workers x)) bound + 6 =
          summed_changed worker_weight cell.workers w (holds job.key job.payload) bound among in
          let a : worker_weight (cell.workers w) ≡ 0 = ap worker_weight is in
          let b : length cell.hall.jobs ≡ suc (length later) = ap length e in
          record { count = refl; closed = refl; weight = omega arith }
      takes_changes (holds key payload) jobs is e some = tt
      takes_changes (has_answer key payload answer) jobs is e some = tt
      takes_changes (has_none key payload) jobs is e some = tt

      -- however an Apply goes
      pub applies_changes : (d : DeskRules C A) (r : ServiceRules C A M) (apply_result : ApplyResult) (worker : WorkerState A) → cell.workers w ≡ worker
          → Changing 0 1 bound cell (apply_plain d r cell w apply_result worker)
      applies_changes d r apply_result idle is = tt
      applies_changes d r apply_result (has_answer key payload answer) is = tt
      applies_changes d r apply_result (has_none key payload) is = tt
      applies_changes d r apply_result (holds key payload) is = by (d.decide payload)
        where
          tried : (hall : HallState C A M) (worker : WorkerState A) → hall.jobs ≡ cell.hall.jobs → hall.outcomes ≡ cell.hall.outcomes → hall.closed ≡ cell.hall.closed
              → worker_weight worker ≡ 5 → Changes 0 1 bound cell (record cell { hall = hall; workers = with_worker cell.workers w worker })
          tried hall worker jobs outcomes closed five =
              let a : worker_weight (cell.workers w) ≡ 6 = ap worker_weight is in worker_changes hall worker jobs outcomes closed (omega arith)

          at_memory : (call : C) (result : ApplyResult) (memory : Option M) → Changing 0 1 bound cell (apply_result_plain r cell w key payload call result memory)
          at_memory call answers (Some m) = tried (effect_plain r cell.hall key call (r.rule call m).0) (has_answer key payload (r.rule call m).0) refl refl refl refl
          at_memory call lacks_for_answer (Some m) = tried (effect_plain r cell.hall key call (r.rule call m).0) (has_none key payload) refl refl refl refl
          at_memory call answers None = tt
          at_memory call lacks_for_answer None = tt
          at_memory call lacks_for_call m = tried cell.hall (has_none key payload) refl refl refl refl
          at_memory call fails_journal m = tried (fault_plain r cell.hall call) (has_none key payload) refl refl refl refl

          broken : (result : ApplyResult) → Changing 0 1 bound cell (broken_plain cell w key payload result)
          broken answers = tried cell.hall (has_none key payload) refl refl refl refl
          broken lacks_for_call = tt
          broken lacks_for_answer = tt
          broken fails_journal = tt

          either : (b : Bool) (x y : Option (Cell C A M)) → Changing 0 1 bound cell x → Changing 0 1 bound cell y → Changing 0 1 bound cell (if b then x else y)
          either true x y a b = a
          either false x y a b = b

          by : (decision : DeskDecision C) → Changing 0 1 bound cell (call_plain r cell w key payload apply_result decision)
          by (Invoke call) =
              either cell.hall.broken (broken_plain cell w key payload apply_result) (apply_result_plain r cell w key payload call apply_result (slice_get cell.hall.memories (r.slot call)))
              (broken apply_result) (at_memory call apply_result (slice_get cell.hall.memories (r.slot call)))
          by (Refuse fault) = tt
          by Silent = tt
          by (Answer reply) = tt

      -- an outcome is put by a worker that holds a job
      outcome_changes : (key : Key) (settled : Option Settled) → 5 ≤ worker_weight (cell.workers w) → Changing 0 1 bound cell (outcome_plain cell w key settled)
      outcome_changes key None held = tt
      outcome_changes key (Some settled) held =
          let s : summed (λ x. worker_weight (with_worker cell.workers w idle x)) bound + worker_weight (cell.workers w) ≡ summed (λ x. worker_weight (cell.workers x)) bound + 0 =
          summed_changed worker_weight cell.workers w idle bound among in
          record { count = refl; closed = refl; weight = omega (arith, length-append cell.hall.outcomes (outcome_of key settled ∷ [])) }

      pub puts_changes : (d : DeskRules C A) (worker : WorkerState A) → cell.workers w ≡ worker → Changing 0 1 bound cell (put_plain d cell w worker)
      puts_changes d idle is = tt
      puts_changes d (holds key payload) is =
          let a : worker_weight (cell.workers w) ≡ 6 = ap worker_weight is in outcome_changes key (settlement d (holds key payload)) (omega arith)
      puts_changes d (has_answer key payload answer) is =
          let a : worker_weight (cell.workers w) ≡ 5 = ap worker_weight is in outcome_changes key (settlement d (has_answer key payload answer)) (omega arith)
      puts_changes d (has_none key payload) is = tt

      pub lacks_changes : (worker : WorkerState A) → cell.workers w ≡ worker → Changing 0 1 bound cell (lack_plain cell w (key_held worker))
      lacks_changes idle is = tt
      lacks_changes (holds key payload) is = let a : worker_weight (cell.workers w) ≡ 6 = ap worker_weight is in outcome_changes key (Some Lack) (omega arith)
      lacks_changes (has_answer key payload answer) is = let a : worker_weight (cell.workers w) ≡ 5 = ap worker_weight is in outcome_changes key (Some Lack) (omega arith)
      lacks_changes (has_none key payload) is = let a : worker_weight (cell.workers w) ≡ 5 = ap worker_weight is in outcome_changes key (Some Lack) (omega arith)
