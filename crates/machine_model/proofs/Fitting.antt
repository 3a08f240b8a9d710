-- What each step asks of the hall is what the hall can do.
use Rattle.std.proofs.Common.{◌≡◌, ℕ, zero, suc, ◌+◌, ◌<◌, ◌≤◌, ◌^◌, ◌⊎◌, true, Option, None, Some, List, [], ◌∷◌, ◌++◌, map, length, slice_get, refl, sym, ap, ◌∙◌, subst, inl, inr, ⊎_elim, arith, length-append}
use Rattle.std.proofs.lemmas.Bool.{cases_eq, false≢true, or_left, or_right, false_from_ne_true}
use Rattle.std.proofs.lemmas.List.{map-append}
use Rattle.std.proofs.lemmas.Option.{none-some, same_Some, slice_get_past}
use Rattle.streams.specs.declared.marks.Mark.{Mark}
use Rattle.streams.specs.declared.marks.Mark.TheVariants.{Opened}
use Rattle.streams.specs.declared.outcomes.Settled.{Settled}
use Rattle.streams.specs.declared.outcomes.Settled.TheVariants.{Reply, Nothing, Close as Refused, NoMemory}
use Rattle.host_model.specs.declared.key.Key.{Key}
use Rattle.host_model.specs.declared.cause.EndCause.{EndCause}
use Rattle.host_model.specs.Frames.{ArePayloads, IsPayload}
use Rattle.host_model.specs.Journal.{JournalEntry, ServiceRules, after_call, entries_of}
use Rattle.host_model.specs.DeskRules.{DeskRules}
use Rattle.host_model.specs.World.{World, Act, ReachedBy, Moment}
use Rattle.machine_model.specs.HallState.{key_of, Job, JobOutcome, HallState, is_same, has_key, without, keys_in}
use Rattle.machine_model.specs.HallRule.{HallOperation, submit, take_job, apply, put, collect, close, HallAnswer, done, job, empty, is_closed, applied, no_memory, journal_fault, is_broken, outcome, job_of, outcome_of, TakesEffect, SubmitGives, TakeGives, ApplyGives, PutGives, CollectGives, CloseGives}
use Rattle.machine_model.specs.OwnCalls.{HallCan, longest_payload}
use Rattle.machine_model.specs.Loop.{LoopConn, new_conn, Loop, count_if_open, open_among, most_connections, FrameProgress, part, bad_size, whole, read_more, marks_read, with_conn, changed, ConnEvent, opens, reads, ends, fails_read, writes, fails_write, gives_up, Happens, submitted_more, conn_settled, conn_marks_settled, LoopAsks}
use Rattle.machine_model.specs.Worker.{WorkerState, idle, holds, took, tried, key_held, WorkerAsks}
use Rattle.machine_model.specs.Machine.{Cell, with_worker, MachineEvent, on_conn, submits, takes, applies, puts, collects, closes, ByLoop, ByWorker, Steps, EventsLead, IsFirst}
use Rattle.machine_model.specs.Places.{PayloadPlace, collected_all, ready, queued, held_by, put_out, jobs_of, outcomes_of, PayloadIsAt, IsUncollected, CellKeeps}
use Rattle.machine_model.specs.Bounds.{sum_among, all_submitted, all_collected, NoneIsLeftBehind, HasItsService}
use Rattle.machine_model.proofs.Lists.{put_same, put_other}
use Rattle.machine_model.proofs.Keys.{is_same_self, has_left, has_right, has_either, has_one, has_self, has_without, without_other, length-without, job_keys, outcome_keys, with_job, with_taken, with_put, counts, in_jobs, in_taken, in_outcomes, where_in}
use Rattle.machine_model.proofs.Owning.{same_number}
use Rattle.machine_model.proofs.Summing.{sum_outside, sum_changed, open_sum, sum_both, sum_below}
use Rattle.machine_model.proofs.Standing.{Sim, under_way_left}
use Rattle.machine_model.proofs.Running.{step_kept, first_kept, keeps}

-- the numbers that are summed
abbrev opens_of : LoopConn → ℕ
opens_of conn = count_if_open conn.cause

abbrev submitted_of : LoopConn → ℕ
submitted_of conn = conn.submitted

abbrev collected_of : LoopConn → ℕ
collected_of conn = conn.collected

one_at_most : (cause : Option EndCause) → count_if_open cause ≤ 1
one_at_most None = omega arith
one_at_most (Some cause) = omega arith

read_submitted : (conn : LoopConn) (bytes : List ℕ) (progress : FrameProgress) → (read_more conn bytes progress).submitted ≡ conn.submitted
read_submitted conn bytes part = refl
read_submitted conn bytes (bad_size size) = refl
read_submitted conn bytes (whole payload) = refl

read_collected : (conn : LoopConn) (bytes : List ℕ) (progress : FrameProgress) → (read_more conn bytes progress).collected ≡ conn.collected
read_collected conn bytes part = refl
read_collected conn bytes (bad_size size) = refl
read_collected conn bytes (whole payload) = refl

-- one that is open can't become more open
still_open : (cause now : Option EndCause) → cause ≡ None → count_if_open now ≤ count_if_open cause
still_open cause now e =
    let a : count_if_open cause ≡ 1 = ap count_if_open e in
    let b : count_if_open now ≤ 1 = one_at_most now in omega arith

-- what Collect makes of a connection's numbers
settled_counts : (conn : LoopConn) (settled : Settled) (cause : Option EndCause) → cause ≡ conn.cause
    → ((conn_settled cause settled conn).submitted ≡ conn.submitted) × ((conn_settled cause settled conn).collected ≡ suc conn.collected) × (count_if_open (conn_settled cause settled conn).cause ≤ count_if_open conn.cause)
settled_counts conn (Reply reply) None e = (refl, refl, omega arith)
settled_counts conn Nothing None e = (refl, refl, omega arith)
settled_counts conn (Refused fault) None e = (refl, refl, omega arith)
settled_counts conn NoMemory None e = (refl, refl, omega arith)
settled_counts conn settled (Some cause) e = (refl, refl, omega arith)

module _ {A : Type 0} where
  no_key : (worker : WorkerState A) (keys : List Key) → worker ≡ idle → (k : Key) → key_held worker ≡ Some k → has_key k keys ≡ true
  no_key worker keys e k h = absurd (none-some k (sym (ap key_held e) ∙ h))

  tried_key : (key : Key) (payload : List ℕ) (answer : HallAnswer A) → key_held (tried key payload answer) ≡ Some key
  tried_key key payload done = refl
  tried_key key payload (job k p) = refl
  tried_key key payload empty = refl
  tried_key key payload is_closed = refl
  tried_key key payload (applied answer) = refl
  tried_key key payload no_memory = refl
  tried_key key payload journal_fault = refl
  tried_key key payload is_broken = refl
  tried_key key payload (outcome k s) = refl

module _ {C A M : Type 0} (slots : ℕ) where
  -- what is so of the keys in the hall, and of how many connections are open
  record Fits (cell : Cell C A M) : Type 0 where
    most : open_among cell.loop.conns cell.loop.count ≤ most_connections
    keys : length (keys_in cell.hall) + all_collected cell.loop ≡ all_submitted cell.loop
    below : (k : Key) → has_key k (keys_in cell.hall) ≡ true → (k.c < cell.loop.count) × (k.i < (cell.loop.conns k.c).submitted)
    held : (w : ℕ) (k : Key) → key_held (cell.workers w) ≡ Some k → has_key k cell.hall.taken ≡ true
    memories : length cell.hall.memories ≡ slots

  -- a connection changes, but for what it has submitted and collected
  conn_fits : (old : Cell C A M) (c : ℕ) (conn : LoopConn) (marks : List Mark) → Fits old → c < old.loop.count
      → conn.submitted ≡ (old.loop.conns c).submitted → conn.collected ≡ (old.loop.conns c).collected → count_if_open conn.cause ≤ count_if_open (old.loop.conns c).cause
      → Fits (record old { loop = changed old.loop c conn marks })
  conn_fits old c conn marks f l s k o =
      let n : ℕ = old.loop.count in
      let open_before : open_among old.loop.conns n ≤ most_connections = f.most in
      let oa : open_among (with_conn old.loop.conns c conn) n ≡ sum_among opens_of (with_conn old.loop.conns c conn) n = open_sum (with_conn old.loop.conns c conn) n in
      let ob : open_among old.loop.conns n ≡ sum_among opens_of old.loop.conns n = open_sum old.loop.conns n in
      let oc : sum_among opens_of (with_conn old.loop.conns c conn) n + count_if_open (old.loop.conns c).cause ≡ sum_among opens_of old.loop.conns n + count_if_open conn.cause =
      sum_changed opens_of old.loop.conns c conn n l in
      let sc : sum_among submitted_of (with_conn old.loop.conns c conn) n + (old.loop.conns c).submitted ≡ all_submitted old.loop + conn.submitted =
      sum_changed submitted_of old.loop.conns c conn n l in
      let cc' : sum_among collected_of (with_conn old.loop.conns c conn) n + (old.loop.conns c).collected ≡ all_collected old.loop + conn.collected =
      sum_changed collected_of old.loop.conns c conn n l in
      let before : length (keys_in old.hall) + all_collected old.loop ≡ all_submitted old.loop = f.keys in
      record {
        most = omega arith;
        keys = omega arith;
        below = λ x h. ((f.below x h).0, below x (f.below x h).1 (cases_eq x.c c));
        held = f.held;
        memories = f.memories;
      }
    where
      below : (x : Key) → x.i < (old.loop.conns x.c).submitted → (x.c ≡ c) ⊎ (x.c ≡ c → ⊥) → x.i < (with_conn old.loop.conns c conn x.c).submitted
      below x h (inl e) =
          let a : (with_conn old.loop.conns c conn x.c).submitted ≡ conn.submitted =
          ap (λ y. (with_conn old.loop.conns c conn y).submitted) e ∙ ap submitted_of (put_same old.loop.conns c conn) in
          let b : (old.loop.conns x.c).submitted ≡ (old.loop.conns c).submitted = ap (λ y. (old.loop.conns y).submitted) e in
          omega arith
      below x h (inr m) = subst (λ (y : LoopConn). x.i < y.submitted) (sym (put_other old.loop.conns c conn x.c m)) h

  -- a connection is opened
  opened_fits : (old : Cell C A M) (marks : List Mark) → Fits old → open_among old.loop.conns old.loop.count < most_connections
      → Fits (record old { loop = record { tape = old.loop.tape ++ marks; count = suc old.loop.count; conns = with_conn old.loop.conns old.loop.count new_conn } })
  opened_fits old marks f l =
      let n : ℕ = old.loop.count in
      let next : ℕ → LoopConn = with_conn old.loop.conns n new_conn in
      let at : next n ≡ new_conn = put_same old.loop.conns n new_conn in
      let oa : open_among next n ≡ sum_among opens_of next n = open_sum next n in
      let ob : open_among old.loop.conns n ≡ sum_among opens_of old.loop.conns n = open_sum old.loop.conns n in
      let oc : sum_among opens_of next n ≡ sum_among opens_of old.loop.conns n = sum_outside opens_of old.loop.conns n new_conn n (omega arith) in
      let sc : sum_among submitted_of next n ≡ all_submitted old.loop = sum_outside submitted_of old.loop.conns n new_conn n (omega arith) in
      let cc' : sum_among collected_of next n ≡ all_collected old.loop = sum_outside collected_of old.loop.conns n new_conn n (omega arith) in
      let ot : count_if_open (next n).cause ≤ 1 = one_at_most (next n).cause in
      let st : (next n).submitted ≡ 0 = ap submitted_of at in
      let ct : (next n).collected ≡ 0 = ap collected_of at in
      let before : length (keys_in old.hall) + all_collected old.loop ≡ all_submitted old.loop = f.keys in
      record {
        most = omega arith;
        keys = omega arith;
        below = λ x h.
            let b : (x.c < old.loop.count) × (x.i < (old.loop.conns x.c).submitted) = f.below x h in
            let bc : x.c < old.loop.count = b.0 in (
              omega arith,
              subst (λ (y : LoopConn). x.i < y.submitted) (sym (put_other old.loop.conns n new_conn x.c (λ e. let g : ⊥ = omega arith in g))) b.1,
            );
        held = f.held;
        memories = f.memories;
      }

  conn_event_fits : (max : ℕ) (old : Cell C A M) (conn_event : ConnEvent) (loop : Loop) → Happens max old.loop conn_event loop → Fits old → Fits (record old { loop = loop })
  conn_event_fits max old opens loop t f = subst (λ l. Fits (record old { loop = l })) (sym t.1) (opened_fits old (Opened old.loop.count ∷ []) f t.0)
  conn_event_fits max old (reads c bytes) loop t f =
      subst (λ l. Fits (record old { loop = l })) (sym t.6)
      (conn_fits old c (read_more (old.loop.conns c) bytes t.0) (marks_read c bytes t.0) f t.1.0 (read_submitted (old.loop.conns c) bytes t.0)
      (read_collected (old.loop.conns c) bytes t.0) (still_open (old.loop.conns c).cause (read_more (old.loop.conns c) bytes t.0).cause t.1.1))
  conn_event_fits max old (ends c) loop t f = subst (λ l. Fits (record old { loop = l })) (sym t.2) (conn_fits old c _ _ f t.0.0 refl refl (omega arith))
  conn_event_fits max old (fails_read c) loop t f = subst (λ l. Fits (record old { loop = l })) (sym t.2) (conn_fits old c _ _ f t.0.0 refl refl (omega arith))
  conn_event_fits max old (writes c count) loop t f = subst (λ l. Fits (record old { loop = l })) (sym t.3) (conn_fits old c _ _ f t.0.0 refl refl (omega arith))
  conn_event_fits max old (fails_write c) loop t f = subst (λ l. Fits (record old { loop = l })) (sym t.2) (conn_fits old c _ _ f t.0.0 refl refl (omega arith))
  conn_event_fits max old (gives_up c cause) loop t f = subst (λ l. Fits (record old { loop = l })) (sym t.2) (conn_fits old c _ _ f t.0.0 refl refl (omega arith))

  -- the hall changes, but for its keys
  same_keys : (old : Cell C A M) (hall : HallState C A M) → Fits old → old.hall.jobs ≡ hall.jobs → old.hall.taken ≡ hall.taken → old.hall.outcomes ≡ hall.outcomes
      → length hall.memories ≡ length old.hall.memories → Fits (record old { hall = hall })
  same_keys old hall f jobs taken outs memories =
      let keys : keys_in old.hall ≡ keys_in hall = (λ i. map (λ (j : Job). j.key) (jobs i) ++ (taken i ++ map (λ (o : JobOutcome). o.key) (outs i))) in
      record {
        most = f.most;
        keys = ap (λ ks. length ks + all_collected old.loop) (sym keys) ∙ f.keys;
        below = λ k h. f.below k (ap (has_key k) keys ∙ h);
        held = λ w k h. ap (has_key k) (sym taken) ∙ f.held w k h;
        memories = memories ∙ f.memories;
      }

  -- the connections behind a Submit, and the connection behind a Collect
  abbrev conns_then : Cell C A M → Key → ℕ → LoopConn
  conns_then old key = with_conn old.loop.conns key.c (submitted_more (old.loop.conns key.c))

  abbrev conn_then : Cell C A M → Key → Settled → LoopConn
  conn_then old key settled = conn_settled (old.loop.conns key.c).cause settled (old.loop.conns key.c)

  -- a payload is submitted
  submit_fits : (old : Cell C A M) (key : Key) (payload : List ℕ) → Fits old → key.c < old.loop.count → key.i ≡ (old.loop.conns key.c).submitted
      → Fits (record old { loop = changed old.loop key.c (submitted_more (old.loop.conns key.c)) []; hall = with_job old.hall key payload })
  submit_fits old key payload f l is =
      let n : ℕ = old.loop.count in
      let conn : LoopConn = submitted_more (old.loop.conns key.c) in
      let next : ℕ → LoopConn = with_conn old.loop.conns key.c conn in
      let oa : open_among next n ≡ sum_among opens_of next n = open_sum next n in
      let ob : open_among old.loop.conns n ≡ sum_among opens_of old.loop.conns n = open_sum old.loop.conns n in
      let oc : sum_among opens_of next n + count_if_open (old.loop.conns key.c).cause ≡ sum_among opens_of old.loop.conns n + count_if_open (old.loop.conns key.c).cause =
      sum_changed opens_of old.loop.conns key.c conn n l in
      let sc : sum_among submitted_of next n + (old.loop.conns key.c).submitted ≡ all_submitted old.loop + suc (old.loop.conns key.c).submitted =
      sum_changed submitted_of old.loop.conns key.c conn n l in
      let dc : sum_among collected_of next n + (old.loop.conns key.c).collected ≡ all_collected old.loop + (old.loop.conns key.c).collected =
      sum_changed collected_of old.loop.conns key.c conn n l in
      let before : length (keys_in old.hall) + all_collected old.loop ≡ all_submitted old.loop = f.keys in
      let open_before : open_among old.loop.conns n ≤ most_connections = f.most in
      let ka : length (keys_in old.hall) ≡ length (job_keys old.hall) + (length old.hall.taken + length (outcome_keys old.hall)) = counts old.hall in
      let kb : length (keys_in (with_job old.hall key payload)) ≡ length (job_keys (with_job old.hall key payload)) + (length old.hall.taken + length (outcome_keys old.hall)) =
      counts (with_job old.hall key payload) in
      let kc : length (job_keys (with_job old.hall key payload)) ≡ length (job_keys old.hall) + 1 = ap length pushed ∙ length-append (job_keys old.hall) (key ∷ []) in
      record {
        most = omega arith;
        keys = omega arith;
        below = λ k h. go k (cases_eq k.c key.c) (where_in k (with_job old.hall key payload) h);
        held = f.held;
        memories = f.memories;
      }
    where
      pushed : job_keys (with_job old.hall key payload) ≡ job_keys old.hall ++ key ∷ []
      pushed = map-append (λ (j : Job). j.key) old.hall.jobs (job_of key payload ∷ [])

      one_more : (k : Key) → k.c ≡ key.c → (conns_then old key k.c).submitted ≡ suc (old.loop.conns key.c).submitted
      one_more k e = ap (λ y. (conns_then old key y).submitted) e ∙ ap submitted_of (put_same old.loop.conns key.c (submitted_more (old.loop.conns key.c)))

      known : (k : Key) → (k.c ≡ key.c) ⊎ (k.c ≡ key.c → ⊥) → (k.c < old.loop.count) × (k.i < (old.loop.conns k.c).submitted)
          → (k.c < old.loop.count) × (k.i < (conns_then old key k.c).submitted)
      known k (inl e) t =
          let a : (conns_then old key k.c).submitted ≡ suc (old.loop.conns key.c).submitted = one_more k e in
          let b : (old.loop.conns k.c).submitted ≡ (old.loop.conns key.c).submitted = ap (λ y. (old.loop.conns y).submitted) e in
          let h : k.i < (old.loop.conns k.c).submitted = t.1 in
          (t.0, omega arith)
      known k (inr m) t =
          (t.0, subst (λ (y : LoopConn). k.i < y.submitted) (sym (put_other old.loop.conns key.c (submitted_more (old.loop.conns key.c)) k.c m)) t.1)

      own : (k : Key) → key ≡ k → (k.c < old.loop.count) × (k.i < (conns_then old key k.c).submitted)
      own k e =
          let a : (conns_then old key k.c).submitted ≡ suc (old.loop.conns key.c).submitted = one_more k (ap (λ (x : Key). x.c) (sym e)) in
          let b : key.i ≡ k.i = ap (λ (x : Key). x.i) e in
          let h : key.i ≡ (old.loop.conns key.c).submitted = is in
          (subst (λ (x : Key). x.c < old.loop.count) e l, omega arith)

      go : (k : Key) → (k.c ≡ key.c) ⊎ (k.c ≡ key.c → ⊥)
          → (has_key k (job_keys (with_job old.hall key payload)) ≡ true) ⊎ ((has_key k old.hall.taken ≡ true) ⊎ (has_key k (outcome_keys old.hall) ≡ true))
          → (k.c < old.loop.count) × (k.i < (conns_then old key k.c).submitted)
      go k c (inl h) =
          ⊎_elim (λ g. known k c (f.below k (in_jobs k old.hall g))) (λ g. own k (has_one k key g)) (has_either k (job_keys old.hall) (key ∷ []) (ap (has_key k) (sym pushed) ∙ h))
      go k c (inr (inl h)) = known k c (f.below k (in_taken k old.hall h))
      go k c (inr (inr h)) = known k c (f.below k (in_outcomes k old.hall h))

  -- an outcome is collected
  collect_fits : (old : Cell C A M) (key : Key) (settled : Settled) (later : List JobOutcome) (marks : List Mark) → Fits old → old.hall.outcomes ≡ outcome_of key settled ∷ later
      → Fits (record old {
        loop = changed old.loop key.c (conn_settled (old.loop.conns key.c).cause settled (old.loop.conns key.c)) marks;
        hall = record old.hall { outcomes = later };
      })
  collect_fits old key settled later marks f first =
      let n : ℕ = old.loop.count in
      let conn : LoopConn = conn_settled (old.loop.conns key.c).cause settled (old.loop.conns key.c) in
      let next : ℕ → LoopConn = with_conn old.loop.conns key.c conn in
      let l : key.c < n = (f.below key (in_outcomes key old.hall (ap (λ os. has_key key (map (λ (o : JobOutcome). o.key) os)) first ∙ has_self key (map (λ (o : JobOutcome). o.key) later)))).0 in
      let s : (conn.submitted ≡ (old.loop.conns key.c).submitted) × (conn.collected ≡ suc (old.loop.conns key.c).collected) × (count_if_open conn.cause ≤ count_if_open (old.loop.conns key.c).cause) =
      settled_counts (old.loop.conns key.c) settled (old.loop.conns key.c).cause refl in
      let sa : conn.submitted ≡ (old.loop.conns key.c).submitted = s.0 in
      let sb : conn.collected ≡ suc (old.loop.conns key.c).collected = s.1 in
      let so : count_if_open conn.cause ≤ count_if_open (old.loop.conns key.c).cause = s.2 in
      let oa : open_among next n ≡ sum_among opens_of next n = open_sum next n in
      let ob : open_among old.loop.conns n ≡ sum_among opens_of old.loop.conns n = open_sum old.loop.conns n in
      let oc : sum_among opens_of next n + count_if_open (old.loop.conns key.c).cause ≡ sum_among opens_of old.loop.conns n + count_if_open conn.cause =
      sum_changed opens_of old.loop.conns key.c conn n l in
      let sc : sum_among submitted_of next n + (old.loop.conns key.c).submitted ≡ all_submitted old.loop + conn.submitted = sum_changed submitted_of old.loop.conns key.c conn n l in
      let dc : sum_among collected_of next n + (old.loop.conns key.c).collected ≡ all_collected old.loop + conn.collected = sum_changed collected_of old.loop.conns key.c conn n l in
      let before : length (keys_in old.hall) + all_collected old.loop ≡ all_submitted old.loop = f.keys in
      let open_before : open_among old.loop.conns n ≤ most_connections = f.most in
      let ka : length (keys_in old.hall) ≡ length (job_keys old.hall) + (length old.hall.taken + length (outcome_keys old.hall)) = counts old.hall in
      let kb : length (keys_in (record old.hall { outcomes = later })) ≡ length (job_keys old.hall) + (length old.hall.taken + length (map (λ (o : JobOutcome). o.key) later)) =
      counts (record old.hall { outcomes = later }) in
      let kc : length (outcome_keys old.hall) ≡ suc (length (map (λ (o : JobOutcome). o.key) later)) = ap (λ os. length (map (λ (o : JobOutcome). o.key) os)) first in
      record {
        most = omega arith;
        keys = omega arith;
        below = λ k h. go k (cases_eq k.c key.c) (f.below k (known k (where_in k (record old.hall { outcomes = later }) h)));
        held = f.held;
        memories = f.memories;
      }
    where
      known : (k : Key) → (has_key k (job_keys old.hall) ≡ true) ⊎ ((has_key k old.hall.taken ≡ true) ⊎ (has_key k (map (λ (o : JobOutcome). o.key) later) ≡ true)) → has_key k (keys_in old.hall) ≡ true
      known k (inl h) = in_jobs k old.hall h
      known k (inr (inl h)) = in_taken k old.hall h
      known k (inr (inr h)) =
          in_outcomes k old.hall (ap (λ os. has_key k (map (λ (o : JobOutcome). o.key) os)) first ∙ or_right (is_same key k) (has_key k (map (λ (o : JobOutcome). o.key) later)) h)

      go : (k : Key) → (k.c ≡ key.c) ⊎ (k.c ≡ key.c → ⊥) → (k.c < old.loop.count) × (k.i < (old.loop.conns k.c).submitted)
          → (k.c < old.loop.count) × (k.i < (with_conn old.loop.conns key.c (conn_then old key settled) k.c).submitted)
      go k (inl e) t =
          let a : (with_conn old.loop.conns key.c (conn_then old key settled) k.c).submitted ≡ (conn_then old key settled).submitted =
          ap (λ y. (with_conn old.loop.conns key.c (conn_then old key settled) y).submitted) e ∙ ap submitted_of (put_same old.loop.conns key.c (conn_then old key settled)) in
          let b : (conn_then old key settled).submitted ≡ (old.loop.conns key.c).submitted = (settled_counts (old.loop.conns key.c) settled (old.loop.conns key.c).cause refl).0 in
          let d : (old.loop.conns k.c).submitted ≡ (old.loop.conns key.c).submitted = ap (λ y. (old.loop.conns y).submitted) e in
          let h : k.i < (old.loop.conns k.c).submitted = t.1 in
          (t.0, omega arith)
      go k (inr m) t = (t.0, subst (λ (y : LoopConn). k.i < y.submitted) (sym (put_other old.loop.conns key.c (conn_then old key settled) k.c m)) t.1)

  -- a worker's hand changes, and the hall moves no key out of those taken
  worker_held : (old : Cell C A M) (w : ℕ) (worker : WorkerState A) (taken : List Key) → ((k : Key) → key_held worker ≡ Some k → has_key k taken ≡ true)
      → ((v : ℕ) (k : Key) → (v ≡ w → ⊥) → key_held (old.workers v) ≡ Some k → has_key k taken ≡ true)
      → (v : ℕ) (k : Key) → key_held (with_worker old.workers w worker v) ≡ Some k → has_key k taken ≡ true
  worker_held old w worker taken own others v k h = go (cases_eq v w)
    where
      go : (v ≡ w) ⊎ (v ≡ w → ⊥) → has_key k taken ≡ true
      go (inl e) = own k (sym (ap key_held (put_same old.workers w worker)) ∙ sym (ap (λ y. key_held (with_worker old.workers w worker y)) e) ∙ h)
      go (inr m) = others v k m (sym (ap key_held (put_other old.workers w worker v m)) ∙ h)

  -- a job is taken
  take_fits : (old : Cell C A M) (w : ℕ) (key : Key) (payload : List ℕ) (later : List Job) → Fits old → old.hall.jobs ≡ job_of key payload ∷ later
      → Fits (record old { hall = with_taken old.hall key later; workers = with_worker old.workers w (holds key payload) })
  take_fits old w key payload later f first =
      let before : length (keys_in old.hall) + all_collected old.loop ≡ all_submitted old.loop = f.keys in
      let ka : length (keys_in old.hall) ≡ length (job_keys old.hall) + (length old.hall.taken + length (outcome_keys old.hall)) = counts old.hall in
      let kb : length (keys_in (with_taken old.hall key later)) ≡ length (map (λ (j : Job). j.key) later) + (length (old.hall.taken ++ key ∷ []) + length (outcome_keys old.hall)) =
      counts (with_taken old.hall key later) in
      let kc : length (job_keys old.hall) ≡ suc (length (map (λ (j : Job). j.key) later)) = ap (λ js. length (map (λ (j : Job). j.key) js)) first in
      let kd : length (old.hall.taken ++ key ∷ []) ≡ length old.hall.taken + 1 = length-append old.hall.taken (key ∷ []) in
      record {
        most = f.most;
        keys = omega arith;
        below = λ k h. f.below k (known k (where_in k (with_taken old.hall key later) h));
        held = worker_held old w (holds key payload) (old.hall.taken ++ key ∷ [])
            (λ k h. has_right k old.hall.taken (key ∷ []) (subst (λ (x : Key). has_key x (key ∷ []) ≡ true) (same_Some key k h) (has_self key [])))
            (λ v k m h. has_left k old.hall.taken (key ∷ []) (f.held v k h));
        memories = f.memories;
      }
    where
      keys_first : job_keys old.hall ≡ key ∷ map (λ (j : Job). j.key) later
      keys_first = ap (map (λ (j : Job). j.key)) first

      known : (k : Key) → (has_key k (map (λ (j : Job). j.key) later) ≡ true) ⊎ ((has_key k (old.hall.taken ++ key ∷ []) ≡ true) ⊎ (has_key k (outcome_keys old.hall) ≡ true)) → has_key k (keys_in old.hall) ≡ true
      known k (inl h) = in_jobs k old.hall (ap (has_key k) keys_first ∙ or_right (is_same key k) (has_key k (map (λ (j : Job). j.key) later)) h)
      known k (inr (inl h)) =
          ⊎_elim (in_taken k old.hall)
          (λ g. in_jobs k old.hall (ap (has_key k) keys_first ∙ or_left (is_same key k) (has_key k (map (λ (j : Job). j.key) later)) (ap (λ x. is_same x k) (has_one k key g) ∙ is_same_self k)))
          (has_either k old.hall.taken (key ∷ []) h)
      known k (inr (inr h)) = in_outcomes k old.hall h

  -- an outcome is put
  put_fits : (old : Cell C A M) (w : ℕ) (key : Key) (settled : Settled) → Fits old → key_held (old.workers w) ≡ Some key
      → ((v : ℕ) (k : Key) → (v ≡ w → ⊥) → key_held (old.workers v) ≡ Some k → key ≡ k → ⊥)
      → Fits (record old { hall = with_put old.hall key settled; workers = with_worker old.workers w idle })
  put_fits old w key settled f mine others =
      let before : length (keys_in old.hall) + all_collected old.loop ≡ all_submitted old.loop = f.keys in
      let ka : length (keys_in old.hall) ≡ length (job_keys old.hall) + (length old.hall.taken + length (outcome_keys old.hall)) = counts old.hall in
      let kb : length (keys_in (with_put old.hall key settled)) ≡ length (job_keys old.hall) + (length (without key old.hall.taken) + length (outcome_keys (with_put old.hall key settled))) =
      counts (with_put old.hall key settled) in
      let kc : length (outcome_keys (with_put old.hall key settled)) ≡ length (outcome_keys old.hall) + 1 = ap length pushed ∙ length-append (outcome_keys old.hall) (key ∷ []) in
      let kd : suc (length (without key old.hall.taken)) ≡ length old.hall.taken = length-without key old.hall.taken (f.held w key mine) in
      record {
        most = f.most;
        keys = omega arith;
        below = λ k h. f.below k (known k (where_in k (with_put old.hall key settled) h));
        held = worker_held old w idle (without key old.hall.taken) (λ k h. absurd (none-some k h))
            (λ v k m h. without_other k key old.hall.taken (others v k m h) (f.held v k h));
        memories = f.memories;
      }
    where
      pushed : outcome_keys (with_put old.hall key settled) ≡ outcome_keys old.hall ++ key ∷ []
      pushed = map-append (λ (o : JobOutcome). o.key) old.hall.outcomes (outcome_of key settled ∷ [])

      known : (k : Key) → (has_key k (job_keys old.hall) ≡ true) ⊎ ((has_key k (without key old.hall.taken) ≡ true) ⊎ (has_key k (outcome_keys (with_put old.hall key settled)) ≡ true)) → has_key k (keys_in old.hall) ≡ true
      known k (inl h) = in_jobs k old.hall h
      known k (inr (inl h)) = in_taken k old.hall (has_without k key old.hall.taken h)
      known k (inr (inr h)) =
          ⊎_elim (in_outcomes k old.hall) (λ g. in_taken k old.hall (ap (λ x. has_key x old.hall.taken) (sym (has_one k key g)) ∙ f.held w key mine))
          (has_either k (outcome_keys old.hall) (key ∷ []) (ap (has_key k) (sym pushed) ∙ h))

  -- a worker's hand alone changes
  worker_fits : (old : Cell C A M) (w : ℕ) (worker : WorkerState A) → Fits old → ((k : Key) → key_held worker ≡ Some k → has_key k old.hall.taken ≡ true)
      → Fits (record old { workers = with_worker old.workers w worker })
  worker_fits old w worker f own =
      record {
        most = f.most;
        keys = f.keys;
        below = f.below;
        held = worker_held old w worker old.hall.taken own (λ v k m h. f.held v k h);
        memories = f.memories;
      }

  -- the memories stay as many
  after_apply : (r : ServiceRules C A M) (old : Cell C A M) (hall : HallState C A M) (key : Key) (call : C) (faults : ℕ) (answer : HallAnswer A)
      → ApplyGives r old.hall key call faults answer hall → Fits old → Fits (record old { hall = hall })
  after_apply r old hall key call faults answer t f = go answer t
    where
      moved : (memories : List M) → length memories ≡ length old.hall.memories → hall.jobs ≡ old.hall.jobs → hall.taken ≡ old.hall.taken → hall.outcomes ≡ old.hall.outcomes
          → hall.memories ≡ memories → Fits (record old { hall = hall })
      moved memories n jobs taken outs e = same_keys old hall f (sym jobs) (sym taken) (sym outs) (ap length e ∙ n)

      effect : (reply : A) → TakesEffect r old.hall key call reply faults hall → Fits (record old { hall = hall })
      effect reply u =
          moved (after_call r old.hall.memories call) (same_number r old.hall.memories call) (ap (λ (h : HallState C A M). h.jobs) u.1) (ap (λ (h : HallState C A M). h.taken) u.1)
          (ap (λ (h : HallState C A M). h.outcomes) u.1) (ap (λ (h : HallState C A M). h.memories) u.1)

      nothing : hall ≡ record old.hall { faults = faults } → Fits (record old { hall = hall })
      nothing e =
          moved old.hall.memories refl (ap (λ (h : HallState C A M). h.jobs) e) (ap (λ (h : HallState C A M). h.taken) e)
          (ap (λ (h : HallState C A M). h.outcomes) e) (ap (λ (h : HallState C A M). h.memories) e)

      go : (answer : HallAnswer A) → ApplyGives r old.hall key call faults answer hall → Fits (record old { hall = hall })
      go (applied reply) t = effect reply t.1
      go no_memory t = ⊎_elim nothing (λ (u : (reply : A) × TakesEffect r old.hall key call reply faults hall). effect u.0 u.1) t.1
      go journal_fault t =
          moved (after_call r old.hall.memories call) (same_number r old.hall.memories call) (ap (λ (h : HallState C A M). h.jobs) t.2) (ap (λ (h : HallState C A M). h.taken) t.2)
          (ap (λ (h : HallState C A M). h.outcomes) t.2) (ap (λ (h : HallState C A M). h.memories) t.2)
      go is_broken t = nothing t.1
      go _ t = absurd t

  -- a hall and a loop in the cell
  abbrev both : Cell C A M → Loop → HallState C A M → Cell C A M
  both old loop hall = record old { loop = loop; hall = hall }

  submits_fits : (old : Cell C A M) (key : Key) (payload : List ℕ) (answer : HallAnswer A) (loop : Loop) (hall : HallState C A M) → SubmitGives old.hall key payload answer hall
      → LoopAsks {C = C} old.loop (submit key payload) answer loop → Fits old → Fits (both old loop hall)
  submits_fits old key payload done loop hall g asks f =
      subst (λ (t : Loop × HallState C A M). Fits (both old t.0 t.1)) (λ i. (sym asks.3 i, sym g.1 i)) (submit_fits old key payload f asks.0 asks.1)
  submits_fits old key payload is_closed loop hall g asks f = subst (λ (t : Loop × HallState C A M). Fits (both old t.0 t.1)) (λ i. (sym asks.3 i, sym g.1 i)) f
  submits_fits old key payload _ loop hall g asks f = absurd g

  collects_fits : (old : Cell C A M) (answer : HallAnswer A) (loop : Loop) (hall : HallState C A M) → CollectGives old.hall answer hall
      → LoopAsks {C = C} old.loop collect answer loop → Fits old → Fits (both old loop hall)
  collects_fits old (outcome key settled) loop hall g asks f =
      subst (λ (t : Loop × HallState C A M). Fits (both old t.0 t.1)) (λ i. (sym asks i, sym g.2 i))
      (collect_fits old key settled g.0 (conn_marks_settled (old.loop.conns key.c).cause key.c settled) f g.1)
  collects_fits old empty loop hall g asks f = subst (λ (t : Loop × HallState C A M). Fits (both old t.0 t.1)) (λ i. (sym asks i, sym g.2 i)) f
  collects_fits old is_closed loop hall g asks f = subst (λ (t : Loop × HallState C A M). Fits (both old t.0 t.1)) (λ i. (sym asks i, sym g.2 i)) f
  collects_fits old _ loop hall g asks f = absurd g

  closes_fits : (old : Cell C A M) (answer : HallAnswer A) (loop : Loop) (hall : HallState C A M) → CloseGives old.hall answer hall
      → LoopAsks {C = C} old.loop close answer loop → Fits old → Fits (both old loop hall)
  closes_fits old done loop hall g asks f =
      subst (λ (t : Loop × HallState C A M). Fits (both old t.0 t.1)) (λ i. (sym asks i, sym g i)) (same_keys old (record old.hall { closed = true }) f refl refl refl refl)
  closes_fits old _ loop hall g asks f = absurd g

  -- a hall and a hand in the cell
  abbrev beside : Cell C A M → ℕ → WorkerState A → HallState C A M → Cell C A M
  beside old w worker hall = record old { hall = hall; workers = with_worker old.workers w worker }

  takes_fits : (old : Cell C A M) (w : ℕ) (answer : HallAnswer A) (worker : WorkerState A) (hall : HallState C A M) → TakeGives old.hall answer hall → worker ≡ took answer → Fits old
      → Fits (beside old w worker hall)
  takes_fits old w (job key payload) worker hall g e f =
      subst (λ (t : WorkerState A × HallState C A M). Fits (beside old w t.0 t.1)) (λ i. (sym e i, sym g.2 i)) (take_fits old w key payload g.0 f g.1)
  takes_fits old w empty worker hall g e f =
      subst (λ h. Fits (beside old w worker h)) (sym g.2) (worker_fits old w worker f (no_key worker old.hall.taken e))
  takes_fits old w is_closed worker hall g e f =
      subst (λ h. Fits (beside old w worker h)) (sym g.2) (worker_fits old w worker f (no_key worker old.hall.taken e))
  takes_fits old w _ worker hall g e f = absurd g

  applies_fits : (r : ServiceRules C A M) (old : Cell C A M) (w : ℕ) (key : Key) (call : C) (payload : List ℕ) (answer : HallAnswer A) (worker : WorkerState A) (hall : HallState C A M) (faults : ℕ)
      → ApplyGives r old.hall key call faults answer hall → old.workers w ≡ holds key payload → worker ≡ tried key payload answer → Fits old → Fits (beside old w worker hall)
  applies_fits r old w key call payload answer worker hall faults g was e f =
      after_apply r (record old { workers = with_worker old.workers w worker }) hall key call faults answer g
      (worker_fits old w worker f (λ k h. f.held w k (ap key_held was ∙ sym (tried_key key payload answer) ∙ sym (ap key_held e) ∙ h)))

  puts_fits : (old : Cell C A M) (w : ℕ) (key : Key) (settled : Settled) (answer : HallAnswer A) (worker : WorkerState A) (hall : HallState C A M) → PutGives old.hall key settled answer hall
      → key_held (old.workers w) ≡ Some key → worker ≡ idle → ((v : ℕ) (k : Key) → (v ≡ w → ⊥) → key_held (old.workers v) ≡ Some k → key ≡ k → ⊥) → Fits old
      → Fits (beside old w worker hall)
  puts_fits old w key settled done worker hall g mine e others f =
      subst (λ (t : WorkerState A × HallState C A M). Fits (beside old w t.0 t.1)) (λ i. (sym e i, sym g i)) (put_fits old w key settled f mine others)
  puts_fits old w key settled _ worker hall g mine e others f = absurd g

-- the worker at a place
abbrev worker_at : PayloadPlace → ℕ
worker_at (held_by w) = w
worker_at _ = 0

module _ {C A M : Type 0} (d : DeskRules C A) (r : ServiceRules C A M) (opening : List M)
    (all : (acts : List (Act C A)) (world : World C A) → ReachedBy d r opening acts world → Moment d r opening world) (small : d.max < 2 ^ 31) where
  abbrev Fit : Cell C A M → Type 0
  Fit = Fits {C = C} {A = A} {M = M} (length opening)

  -- no two workers hold a key of one connection
  one_holder : (old : Cell C A M) → Sim d r opening old → (w v : ℕ) (key k : Key) → key_held (old.workers w) ≡ Some key → key_held (old.workers v) ≡ Some k → (v ≡ w → ⊥) → key ≡ k → ⊥
  one_holder old s w v key k a b n e =
      n (ap worker_at (sym (s.workers v k b).1 ∙ ap (λ (x : Key). s.place x.c) (sym e) ∙ (s.workers w key a).1))

  step_fits : (old new : Cell C A M) (event : MachineEvent) → Steps d r old event new → Sim d r opening old → Fit old → Fit new
  step_fits old new (on_conn conn_event) t s f = subst Fit (sym t.2) (conn_event_fits (length opening) d.max old conn_event t.0 t.1 f)
  step_fits old new (submits c) t s f =
      let b : ByLoop d r old (submit (key_of c t.0) t.1) new = t.2 in
      subst Fit (sym b.5) (submits_fits (length opening) old (key_of c t.0) t.1 b.0 b.1 b.2 b.4 b.3 f)
  step_fits old new (takes w) t s f = subst Fit (sym t.5) (takes_fits (length opening) old w t.0 t.1 t.2 t.4 t.3.1 f)
  step_fits old new (applies w) t s f =
      let b : ByWorker d r old w (apply t.0 t.1) new = t.2 in
      subst Fit (sym b.5) (applies_fits (length opening) r old w t.0 t.1 b.3.0 b.0 b.1 b.2 b.4.0 b.4.2 b.3.1 b.3.3 f)
  step_fits old new (puts w) t s f =
      let b : ByWorker d r old w (put t.0 t.1) new = t.2 in
      subst Fit (sym b.5) (puts_fits (length opening) old w t.0 t.1 b.0 b.1 b.2 b.4 b.3.0.0 b.3.1 (λ v k m h e. one_holder old s w v t.0 k b.3.0.0 h m e) f)
  step_fits old new collects t s f = subst Fit (sym t.5) (collects_fits (length opening) old t.0 t.1 t.2 t.4 t.3 f)
  step_fits old new closes t s f = subst Fit (sym t.5) (closes_fits (length opening) old t.0 t.1 t.2 t.4 t.3 f)

  run_fits : (old new : Cell C A M) (events : List MachineEvent) → EventsLead d r old events new → Sim d r opening old → Fit old → Fit new
  run_fits old new [] t s f = subst Fit (sym t) f
  run_fits old new (event ∷ events) t s f =
      run_fits t.0 new events t.2 (step_kept d r opening all small old t.0 event t.1 s) (step_fits old t.0 event t.1 s f)

  first_fits : (first : Cell C A M) → IsFirst opening first → Fit first
  first_fits first f =
      let none : keys_in first.hall ≡ [] = (λ i. map (λ (j : Job). j.key) (f.hall.opened.jobs i) ++ (f.hall.opened.taken i ++ map (λ (o : JobOutcome). o.key) (f.hall.opened.outcomes i))) in
      let e : length (keys_in first.hall) ≡ 0 = ap length none in
      let o : open_among first.loop.conns first.loop.count ≡ 0 = ap (open_among first.loop.conns) f.count in
      let a : all_submitted first.loop ≡ 0 = ap (sum_among submitted_of first.loop.conns) f.count in
      let b : all_collected first.loop ≡ 0 = ap (sum_among collected_of first.loop.conns) f.count in
      record {
        most = omega arith;
        keys = omega arith;
        below = λ k h. absurd (false≢true (sym (ap (has_key k) none) ∙ h));
        held = λ w k h. absurd (none-some k (sym (ap key_held (f.workers w)) ∙ h));
        memories = ap length f.hall.memories;
      }

  fits : (first cell : Cell C A M) (events : List MachineEvent) → IsFirst opening first → EventsLead d r first events cell → Fit cell
  fits first cell events f runs = run_fits first cell events runs (first_kept d r opening all small first f) (first_fits first f)

  pub most_are_open : (first cell : Cell C A M) (events : List MachineEvent) → IsFirst opening first → EventsLead d r first events cell → open_among cell.loop.conns cell.loop.count ≤ most_connections
  most_are_open first cell events f runs = (fits first cell events f runs).most

  pub keys_counted : (first cell : Cell C A M) (events : List MachineEvent) → IsFirst opening first → EventsLead d r first events cell
      → length (keys_in cell.hall) + all_collected cell.loop ≡ all_submitted cell.loop
  keys_counted first cell events f runs = (fits first cell events f runs).keys

  pub worker_can : (first cell : Cell C A M) (events : List MachineEvent) → IsFirst opening first → EventsLead d r first events cell → (w : ℕ) (op : HallOperation C) (answer : HallAnswer A) (worker : WorkerState A)
      → HasItsService d r (length opening) → WorkerAsks d (cell.workers w) op answer worker → HallCan r cell.hall op
  worker_can first cell events f runs w (submit key payload) answer worker services asks = absurd asks
  worker_can first cell events f runs w take_job answer worker services asks = tt
  worker_can first cell events f runs w (apply key call) answer worker services asks =
      let fit : Fit cell = fits first cell events f runs in
      (fit.held w key (ap key_held asks.1), subst (λ n. r.slot call < n) (sym fit.memories) (services asks.0 call asks.2))
  worker_can first cell events f runs w (put key settled) answer worker services asks = (fits first cell events f runs).held w key asks.0.0
  worker_can first cell events f runs w collect answer worker services asks = tt
  worker_can first cell events f runs w close answer worker services asks = tt

  -- a payload is one of 1 to max bytes
  payload_at : (max : ℕ) (payloads : List (List ℕ)) (i : ℕ) (payload : List ℕ) → ArePayloads max payloads → slice_get payloads i ≡ Some payload → IsPayload max payload
  payload_at max [] i payload a e = absurd (none-some payload e)
  payload_at max (p ∷ payloads) zero payload a e = subst (IsPayload max) (same_Some p payload e) a.0
  payload_at max (p ∷ payloads) (suc i) payload a e = payload_at max payloads i payload a.1 e

  -- a connection whose place is this one has submitted one more than it has collected, or none
  one_waits : (workers : ℕ → WorkerState A) (jobs : List Job) (outs : List JobOutcome) (es : List (JournalEntry C A)) (c : ℕ) (conn : LoopConn) (place : PayloadPlace) → PayloadIsAt d workers jobs outs es c conn place
      → conn.submitted ≤ conn.collected + 1
  one_waits workers jobs outs es c conn collected_all a =
      let s : conn.submitted ≡ length conn.payloads = a.2 in let k : conn.collected ≡ length conn.payloads = a.3 in omega arith
  one_waits workers jobs outs es c conn ready a =
      let s : conn.submitted ≡ length a.0 = a.5 in let k : conn.collected ≡ length a.0 = a.2.collected in omega arith
  one_waits workers jobs outs es c conn queued a =
      let s : conn.submitted ≡ suc (length a.0) = a.5 in let k : conn.collected ≡ length a.0 = a.2.collected in omega arith
  one_waits workers jobs outs es c conn (held_by w) a =
      let s : conn.submitted ≡ suc (length a.0) = a.5 in let k : conn.collected ≡ length a.0 = a.2.collected in omega arith
  one_waits workers jobs outs es c conn (put_out settled) a =
      let s : conn.submitted ≡ suc (length a.0) = a.5 in let k : conn.collected ≡ length a.0 = a.2.collected in omega arith

  -- and none, where all is collected
  none_waits : (workers : ℕ → WorkerState A) (jobs : List Job) (outs : List JobOutcome) (es : List (JournalEntry C A)) (c : ℕ) (conn : LoopConn) (place : PayloadPlace) → PayloadIsAt d workers jobs outs es c conn place
      → conn.collected ≡ length conn.payloads → conn.submitted ≤ conn.collected
  none_waits workers jobs outs es c conn collected_all a e =
      let s : conn.submitted ≡ length conn.payloads = a.2 in omega arith
  none_waits workers jobs outs es c conn ready a e = absurd (under_way_left d conn a.0 a.1 a.2 e)
  none_waits workers jobs outs es c conn queued a e = absurd (under_way_left d conn a.0 a.1 a.2 e)
  none_waits workers jobs outs es c conn (held_by w) a e = absurd (under_way_left d conn a.0 a.1 a.2 e)
  none_waits workers jobs outs es c conn (put_out settled) a e = absurd (under_way_left d conn a.0 a.1 a.2 e)

  -- behind the payloads that are submitted there is none, unless one is ready
  no_more : (conn : LoopConn) (before : List (List ℕ)) (p payload : List ℕ) → IsUncollected conn before p → conn.submitted ≡ suc (length before)
      → slice_get conn.payloads conn.submitted ≡ Some payload → ⊥
  no_more conn before p payload u s e =
      let l : length conn.payloads ≡ length before + 1 = ap length u.last ∙ length-append before (p ∷ []) in
      none-some payload (sym (slice_get_past conn.payloads conn.submitted (omega arith)) ∙ e)

  ready_has : (workers : ℕ → WorkerState A) (jobs : List Job) (outs : List JobOutcome) (es : List (JournalEntry C A)) (c : ℕ) (conn : LoopConn) (place : PayloadPlace) → PayloadIsAt d workers jobs outs es c conn place
      → (payload : List ℕ) → slice_get conn.payloads conn.submitted ≡ Some payload → (conn.submitted ≡ conn.collected) × (conn.collected ≡ length conn.payloads → ⊥)
  ready_has workers jobs outs es c conn collected_all a payload e =
      let s : conn.submitted ≡ length conn.payloads = a.2 in
      absurd (none-some payload (sym (slice_get_past conn.payloads conn.submitted (omega arith)) ∙ e))
  ready_has workers jobs outs es c conn ready a payload e = (a.5 ∙ sym a.2.collected, under_way_left d conn a.0 a.1 a.2)
  ready_has workers jobs outs es c conn queued a payload e = absurd (no_more conn a.0 a.1 payload a.2 a.5 e)
  ready_has workers jobs outs es c conn (held_by w) a payload e = absurd (no_more conn a.0 a.1 payload a.2 a.5 e)
  ready_has workers jobs outs es c conn (put_out settled) a payload e = absurd (no_more conn a.0 a.1 payload a.2 a.5 e)

  cases_cause : (cause : Option EndCause) → (cause ≡ None) ⊎ (cause ≡ None → ⊥)
  cases_cause None = inl refl
  cases_cause (Some cause) = inr (λ e. none-some cause (sym e))

  -- what one connection adds
  abbrev reach_of : LoopConn → ℕ
  reach_of conn = conn.collected + count_if_open conn.cause

  adds_within : (cell : Cell C A M) → NoneIsLeftBehind cell.loop → CellKeeps d r opening cell → (x : ℕ) → x < cell.loop.count → (cell.loop.conns x).submitted ≤ reach_of (cell.loop.conns x)
  adds_within cell behind k x l = go (cases_cause (cell.loop.conns x).cause)
    where
      go : ((cell.loop.conns x).cause ≡ None) ⊎ ((cell.loop.conns x).cause ≡ None → ⊥) → (cell.loop.conns x).submitted ≤ reach_of (cell.loop.conns x)
      go (inl e) =
          let o : count_if_open (cell.loop.conns x).cause ≡ 1 = ap count_if_open e in
          let s : (cell.loop.conns x).submitted ≤ (cell.loop.conns x).collected + 1 =
          one_waits cell.workers (jobs_of x cell.hall.jobs) (outcomes_of x cell.hall.outcomes) (entries_of x cell.hall.journal) x (cell.loop.conns x) (k.place x) (k.at x l) in
          omega arith
      go (inr n) =
          let s : (cell.loop.conns x).submitted ≤ (cell.loop.conns x).collected =
          none_waits cell.workers (jobs_of x cell.hall.jobs) (outcomes_of x cell.hall.outcomes) (entries_of x cell.hall.journal) x (cell.loop.conns x) (k.place x) (k.at x l) (behind x l n) in
          omega arith

  submit_can : (cell : Cell C A M) (key : Key) (payload : List ℕ) → d.max ≤ longest_payload → NoneIsLeftBehind cell.loop → CellKeeps d r opening cell → Fit cell → key.c < cell.loop.count
      → key.i ≡ (cell.loop.conns key.c).submitted → slice_get (cell.loop.conns key.c).payloads key.i ≡ Some payload → HallCan r cell.hall (submit key payload)
  submit_can cell key payload within behind k f l is e =
      let c : ℕ = key.c in
      let n : ℕ = cell.loop.count in
      let conns : ℕ → LoopConn = cell.loop.conns in
      let t : ((conns c).submitted ≡ (conns c).collected) × ((conns c).collected ≡ length (conns c).payloads → ⊥) =
      ready_has cell.workers (jobs_of c cell.hall.jobs) (outcomes_of c cell.hall.outcomes) (entries_of c cell.hall.journal) c (conns c) (k.place c) (k.at c l) payload
      (ap (slice_get (conns c).payloads) (sym is) ∙ e) in
      let none : (conns c).cause ≡ None = ⊎_elim (λ h. h) (λ h. absurd (t.1 (behind c l h))) (cases_cause (conns c).cause) in
      let o : count_if_open (conns c).cause ≡ 1 = ap count_if_open none in
      let s : (conns c).submitted ≡ (conns c).collected = t.0 in
      let less : sum_among submitted_of conns n < sum_among reach_of conns n = sum_below submitted_of reach_of conns n c (adds_within cell behind k) l (omega arith) in
      let two : sum_among reach_of conns n ≡ sum_among collected_of conns n + sum_among opens_of conns n = sum_both collected_of opens_of conns n in
      let open_is : open_among conns n ≡ sum_among opens_of conns n = open_sum conns n in
      let most : open_among conns n ≤ most_connections = f.most in
      let keys : length (keys_in cell.hall) + all_collected cell.loop ≡ all_submitted cell.loop = f.keys in
      let p : length payload ≤ d.max = (payload_at d.max (conns c).payloads key.i payload (k.frames c l).each e).within in (
        omega arith,
        false_from_ne_true (has_key key (keys_in cell.hall))
            (λ h. let b : key.i < (conns c).submitted = (f.below key h).1 in let q : key.i ≡ (conns c).submitted = is in let g : ⊥ = omega arith in g),
        omega arith,
      )

  pub loop_can : (first cell : Cell C A M) (events : List MachineEvent) → IsFirst opening first → EventsLead d r first events cell → (op : HallOperation C) (answer : HallAnswer A) (loop : Loop) → d.max ≤ longest_payload
      → NoneIsLeftBehind cell.loop → LoopAsks cell.loop op answer loop → HallCan r cell.hall op
  loop_can first cell events f runs (submit key payload) answer loop within behind asks =
      submit_can cell key payload within behind (keeps d r opening all small first cell events f runs) (fits first cell events f runs) asks.0 asks.1 asks.2
  loop_can first cell events f runs take_job answer loop within behind asks = tt
  loop_can first cell events f runs (apply key call) answer loop within behind asks = absurd asks
  loop_can first cell events f runs (put key settled) answer loop within behind asks = absurd asks
  loop_can first cell events f runs collect answer loop within behind asks = tt
  loop_can first cell events f runs close answer loop within behind asks = tt
