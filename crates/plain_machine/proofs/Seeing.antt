-- How the plain program's values are seen, after a change.
use Rattle.std.proofs.Common.{◌≡◌, ℕ, zero, suc, ◌+◌, ◌<◌, ◌≤◌, ◌⊎◌, Bool, true, false, ◌&&◌, ◌==◌, nat_lt, if◌then◌else◌, Option, None, Some, List, [], ◌∷◌, ◌++◌, map, length, take, drop, slice_get, option_map, append_assoc, append-nil, get_or, slice_set, refl, sym, ap, ◌∙◌, subst, inl, inr, arith, length-append}
use Rattle.std.specs.List.{remove}
use Rattle.std.proofs.lemmas.Bool.{cases_eq, cases_lt, eq-eqb, lt-ltb, true≢false, false≢true}
use Rattle.std.proofs.lemmas.List.{take_more, length-map, length-set, map-set, get_or-set_same, get_or-set_other}
use Rattle.host_model.specs.declared.cause.EndCause.{EndCause}
use Rattle.plain_machine.specs.declared.conns.PlainConn.{PlainConn}
use Rattle.machine_model.specs.Loop.{LoopConn, new_conn, Loop, count_if_open, open_among, with_conn, changed, ConnEvent, opens, reads, ends, fails_read, writes, fails_write, gives_up}
use Rattle.machine_model.specs.Plain.{when, are_same, Moved, has_none_yet, is_open, reads_plain, ends_plain, fails_read_plain, writes_plain, fails_write_plain, gives_up_plain, moved_plain, conn_event_plain, answers, lacks_for_answer, Told, effect_plain, take_plain, outcome_plain, put_plain, apply_result_plain, told_plain, run_plain}
use Rattle.host_model.specs.Journal.{ServiceRules}
use Rattle.host_model.specs.DeskRules.{DeskRules}
use Rattle.std.proofs.lemmas.Option.{none-some, same_Some}
use Rattle.plain_machine.specs.declared.conn_events.PlainLoop.{PlainLoop}
use Rattle.streams.specs.declared.marks.Mark.{Mark}
use Rattle.std.proofs.Math.Seq.{drop-length, take-length}
use Rattle.host_model.specs.declared.key.Key.{Key}
use Rattle.plain_machine.proofs.Fronting.{next_of}
use Rattle.plain_machine.specs.declared.workers.PlainWorkerState.{PlainWorkerState}
use Rattle.plain_machine.specs.declared.workers.PlainWorkerState.TheVariants.{Idle}
use Rattle.machine_model.specs.HallState.{Job, is_same, without}
use Rattle.machine_model.specs.Worker.{WorkerState, idle, holds, has_answer, has_none, settled_by, settled_with, settlement, key_held}
use Rattle.machine_model.specs.Machine.{Cell, with_worker}
use Rattle.plain_machine.specs.Seen.{conn_of, conns_of, loop_of, worker_of, workers_of}
use Rattle.plain_machine.specs.Happening.{conn_at, conn_moves}
use Rattle.machine_model.proofs.Lists.{put_same, put_other}

-- a function with this value in place of one
abbrev pub changed_at : {Y : Type 0} → (ℕ → Y) → ℕ → Y → ℕ → Y
changed_at g c v i = if i == c then v else g i

module _ {X Y : Type 0} (f : X → Y) (none : Y) where
  -- an element within the list
  pub seen_at : (xs : List X) (i : ℕ) (d : X) → i < length xs → get_or (map f xs) i none ≡ f (get_or xs i d)
  seen_at [] i d l = absurd (let g : ⊥ = omega arith in g)
  seen_at (x ∷ xs) zero d l = refl
  seen_at (x ∷ xs) (suc i) d l = seen_at xs i d (omega arith)

  seen_past : (xs : List X) (i : ℕ) → length xs ≤ i → get_or (map f xs) i none ≡ none
  seen_past [] i l = refl
  seen_past (x ∷ xs) zero l = absurd (let g : ⊥ = omega arith in g)
  seen_past (x ∷ xs) (suc i) l = seen_past xs i (omega arith)

  seen_push : (xs : List X) (x : X) (i : ℕ) → i < length xs → get_or (map f (xs ++ x ∷ [])) i none ≡ get_or (map f xs) i none
  seen_push [] x i l = absurd (let g : ⊥ = omega arith in g)
  seen_push (y ∷ xs) x zero l = refl
  seen_push (y ∷ xs) x (suc i) l = seen_push xs x i (omega arith)

  seen_last : (xs : List X) (x : X) → get_or (map f (xs ++ x ∷ [])) (length xs) none ≡ f x
  seen_last [] x = refl
  seen_last (y ∷ xs) x = seen_last xs x

  -- the elements by their numbers
  abbrev pub seen : List X → ℕ → Y
  seen xs i = get_or (map f xs) i none

  -- once one is changed
  pub seen_set : (xs : List X) (c : ℕ) (x : X) → c < length xs → seen (slice_set xs c x) ≡ changed_at (seen xs) c (f x)
  seen_set xs c x l = λ k i. go i (cases_eq i c) k
    where
      go : (i : ℕ) → (i ≡ c) ⊎ (i ≡ c → ⊥) → seen (slice_set xs c x) i ≡ changed_at (seen xs) c (f x) i
      go i (inl e) =
          let n : length (map f xs) ≡ length xs = length-map xs f in
          subst (λ y. seen (slice_set xs c x) y ≡ changed_at (seen xs) c (f x) y) (sym e)
          (ap (λ ys. get_or ys c none) (map-set f xs c x) ∙ get_or-set_same (map f xs) c (f x) none (omega arith) ∙ sym (put_same (seen xs) c (f x)))
      go i (inr n) =
          ap (λ ys. get_or ys i none) (map-set f xs c x) ∙ get_or-set_other (map f xs) c i (f x) none n ∙ sym (put_other (seen xs) c (f x) i n)

  -- and once there is one more
  pub seen_more : (xs : List X) (x : X) → seen (xs ++ x ∷ []) ≡ changed_at (seen xs) (length xs) (f x)
  seen_more xs x = λ k i. go i (cases_eq i (length xs)) k
    where
      other : (i : ℕ) → (i ≡ length xs → ⊥) → (i < length xs) ⊎ (length xs ≤ i) → seen (xs ++ x ∷ []) i ≡ seen xs i
      other i n (inl l) = seen_push xs x i l
      other i n (inr l) =
          let m : length (xs ++ x ∷ []) ≡ length xs + 1 = length-append xs (x ∷ []) in
          let h : length (xs ++ x ∷ []) ≤ i = elim (cases_lt (length xs) i) [ inl h ↦ omega arith | inr h ↦ absurd (n (omega arith)) ] in
          seen_past (xs ++ x ∷ []) i h ∙ sym (seen_past xs i l)

      go : (i : ℕ) → (i ≡ length xs) ⊎ (i ≡ length xs → ⊥) → seen (xs ++ x ∷ []) i ≡ changed_at (seen xs) (length xs) (f x) i
      go i (inl e) =
          subst (λ y. seen (xs ++ x ∷ []) y ≡ changed_at (seen xs) (length xs) (f x) y) (sym e) (seen_last xs x ∙ sym (put_same (seen xs) (length xs) (f x)))
      go i (inr n) = other i n (cases_lt i (length xs)) ∙ sym (put_other (seen xs) (length xs) (f x) i n)

-- the connections, once one is changed, and once there is one more
pub conns_set : (xs : List PlainConn) (c : ℕ) (x : PlainConn) → c < length xs → conns_of (slice_set xs c x) ≡ with_conn (conns_of xs) c (conn_of x)
conns_set xs c x l = seen_set conn_of new_conn xs c x l

pub conns_more : (xs : List PlainConn) (x : PlainConn) → conns_of (xs ++ x ∷ []) ≡ with_conn (conns_of xs) (length xs) (conn_of x)
conns_more xs x = seen_more conn_of new_conn xs x

-- a connection at its number
pub conn_seen : (xs : List PlainConn) (i : ℕ) (d : PlainConn) → i < length xs → conns_of xs i ≡ conn_of (get_or xs i d)
conn_seen xs i d l = seen_at conn_of new_conn xs i d l

one_open : (cause : Option EndCause) → has_none_yet cause ≡ true → count_if_open cause ≡ 1
one_open None e = refl
one_open (Some cause) e = absurd (false≢true e)

none_open : (cause : Option EndCause) → has_none_yet cause ≡ false → count_if_open cause ≡ 0
none_open None e = absurd (true≢false e)
none_open (Some cause) e = refl

-- how many of the first i are open
pub record Counting (xs : List PlainConn) (i count : ℕ) : Type 0 where
  pub so_far : count ≡ open_among (conns_of xs) i
  pub within : count ≤ i

pub counts_open : (xs : List PlainConn) (i count next : ℕ) (x : PlainConn) → Counting xs i count → i < length xs → x ≡ get_or xs i x → has_none_yet x.cause ≡ true
    → next ≡ count + 1 → Counting xs (i + 1) next
counts_open xs i count next x w l is open_ e =
    let n : i + 1 ≡ suc i = omega arith in
    let o : count_if_open (conns_of xs i).cause ≡ 1 = ap (λ (y : LoopConn). count_if_open y.cause) (conn_seen xs i x l ∙ ap conn_of (sym is)) ∙ one_open x.cause open_ in
    let s : count ≡ open_among (conns_of xs) i = w.so_far in
    let m : count ≤ i = w.within in
    let t : next ≡ count_if_open (conns_of xs i).cause + open_among (conns_of xs) i = omega arith in
    record { so_far = t ∙ ap (open_among (conns_of xs)) (sym n); within = omega arith }

pub counts_ended : (xs : List PlainConn) (i count : ℕ) (x : PlainConn) → Counting xs i count → i < length xs → x ≡ get_or xs i x → has_none_yet x.cause ≡ false
    → Counting xs (i + 1) count
counts_ended xs i count x w l is over =
    let n : i + 1 ≡ suc i = omega arith in
    let o : count_if_open (conns_of xs i).cause ≡ 0 = ap (λ (y : LoopConn). count_if_open y.cause) (conn_seen xs i x l ∙ ap conn_of (sym is)) ∙ none_open x.cause over in
    let s : count ≡ open_among (conns_of xs) i = w.so_far in
    let m : count ≤ i = w.within in
    let t : count ≡ count_if_open (conns_of xs i).cause + open_among (conns_of xs) i = omega arith in
    record { so_far = t ∙ ap (open_among (conns_of xs)) (sym n); within = omega arith }

-- a connection that is there is open by its cause
pub open_is : (xs : List PlainConn) (i : ℕ) (x : PlainConn) → i < length xs → x ≡ get_or xs i x
    → has_none_yet x.cause ≡ (nat_lt i (length xs) && has_none_yet (conns_of xs i).cause)
open_is xs i x l is =
    ap (λ (y : LoopConn). has_none_yet y.cause) (ap conn_of is ∙ sym (conn_seen xs i x l)) ∙ ap (λ b. b && has_none_yet (conns_of xs i).cause) (sym (lt-ltb i (length xs) l))

-- the loop once one connection is changed
pub loop_set : (old : PlainLoop) (c : ℕ) (x : PlainConn) (marks tape : List Mark) → c < length old.conns.items → tape ≡ old.tape.items ++ marks
    → record { tape = tape; count = length (slice_set old.conns.items c x); conns = conns_of (slice_set old.conns.items c x) } ≡ changed (loop_of old) c (conn_of x) marks
loop_set old c x marks tape l e =
    (λ i. record { tape = e i; count = length-set old.conns.items c x i; conns = conns_set old.conns.items c x l i })

-- an event that opens, and one on a connection that is there
pub no_conn : (max : ℕ) (loop : Loop) (event : ConnEvent) → None ≡ conn_at event → conn_event_plain 0 loop opens ≡ conn_event_plain max loop event
no_conn max loop opens e = refl
no_conn max loop (reads c bytes) e = absurd (none-some c e)
no_conn max loop (ends c) e = absurd (none-some c e)
no_conn max loop (fails_read c) e = absurd (none-some c e)
no_conn max loop (writes c count) e = absurd (none-some c e)
no_conn max loop (fails_write c) e = absurd (none-some c e)
no_conn max loop (gives_up c cause) e = absurd (none-some c e)

on_conn_there : (loop : Loop) (c k : ℕ) (f : LoopConn → Moved) → Some c ≡ Some k
    → when (is_open loop k) (moved_plain loop k (f (loop.conns k))) ≡ when (is_open loop c) (moved_plain loop c (f (loop.conns c)))
on_conn_there loop c k f e = ap (λ x. when (is_open loop x) (moved_plain loop x (f (loop.conns x)))) (sym (same_Some c k e))

pub on_conn_at : (max : ℕ) (loop : Loop) (event : ConnEvent) (c : ℕ) → Some c ≡ conn_at event
    → conn_event_plain max loop event ≡ when (is_open loop c) (moved_plain loop c (conn_moves max event (loop.conns c)))
on_conn_at max loop opens c e = absurd (none-some c (sym e))
on_conn_at max loop (reads k bytes) c e = on_conn_there loop c k (reads_plain max k bytes) e
on_conn_at max loop (ends k) c e = on_conn_there loop c k (ends_plain k) e
on_conn_at max loop (fails_read k) c e = on_conn_there loop c k (fails_read_plain k) e
on_conn_at max loop (writes k count) c e = on_conn_there loop c k (writes_plain k count) e
on_conn_at max loop (fails_write k) c e = on_conn_there loop c k (fails_write_plain k) e
on_conn_at max loop (gives_up k cause) c e = on_conn_there loop c k (gives_up_plain k cause) e

-- a connection that is open has moved, or it can't
pub moved_there : (max : ℕ) (loop next : Loop) (event : ConnEvent) (c : ℕ) (conn now : LoopConn) (marks : List Mark) → Some c ≡ conn_at event → true ≡ is_open loop c
    → conn ≡ loop.conns c → Some (now, marks) ≡ conn_moves max event conn → next ≡ changed loop c now marks → Some next ≡ conn_event_plain max loop event
moved_there max loop next event c conn now marks at open_ is moves e =
    ap Some e ∙ ap (moved_plain loop c) (moves ∙ ap (conn_moves max event) is)
    ∙ ap (λ b. when b (moved_plain loop c (conn_moves max event (loop.conns c)))) open_ ∙ sym (on_conn_at max loop event c at)

pub moved_nowhere : (max : ℕ) (loop : Loop) (event : ConnEvent) (c : ℕ) (conn : LoopConn) → Some c ≡ conn_at event → true ≡ is_open loop c
    → conn ≡ loop.conns c → None ≡ conn_moves max event conn → None ≡ conn_event_plain max loop event
moved_nowhere max loop event c conn at open_ is moves =
    ap (moved_plain loop c) (moves ∙ ap (conn_moves max event) is)
    ∙ ap (λ b. when b (moved_plain loop c (conn_moves max event (loop.conns c)))) open_ ∙ sym (on_conn_at max loop event c at)

pub is_not_open : (max : ℕ) (loop : Loop) (event : ConnEvent) (c : ℕ) → Some c ≡ conn_at event → false ≡ is_open loop c → None ≡ conn_event_plain max loop event
is_not_open max loop event c at closed =
    ap (λ b. when b (moved_plain loop c (conn_moves max event (loop.conns c)))) closed ∙ sym (on_conn_at max loop event c at)

-- the first element, and those behind it
pub first_and_rest : {X : Type 0} (xs : List X) (x : X) → 0 < length xs → x ≡ get_or xs 0 x → xs ≡ x ∷ drop 1 xs
first_and_rest [] x l is = absurd (let g : ⊥ = omega arith in g)
first_and_rest (y ∷ xs) x l is = ap (λ z. z ∷ xs) (sym is)

-- the keys in front of a place stay, and behind them stands what is left of the rest
pub record Leaving (key : Key) (keys now : List Key) (i : ℕ) : Type 0 where
  pub unchanged : now ≡ keys
  pub so_far : take i keys ++ without key (drop i keys) ≡ without key keys

pub keeps_key : (key : Key) (keys now : List Key) (i : ℕ) (k : Key) → Leaving key keys now i → i < length keys → k ≡ get_or now i k → false ≡ is_same k key
    → Leaving key keys now (i + 1)
keeps_key key keys now i k w l is other =
    let rest : List Key = without key (drop (i + 1) keys) in
    let there : k ≡ get_or keys i k = is ∙ ap (λ ks. get_or ks i k) w.unchanged in
    record {
      unchanged = w.unchanged;
      so_far = ap (λ t. t ++ rest) (take_more keys i k l ∙ ap (λ x. take i keys ++ x ∷ []) (sym there)) ∙ append_assoc (take i keys) (k ∷ []) rest
          ∙ ap (λ b. take i keys ++ (if b then drop (i + 1) keys else k ∷ rest)) other
          ∙ ap (λ ks. take i keys ++ without key ks) (sym (next_of keys i k l there)) ∙ w.so_far;
    }

pub takes_key : (key : Key) (keys now next : List Key) (i : ℕ) (k : Key) → Leaving key keys now i → i < length keys → k ≡ get_or now i k → true ≡ is_same k key
    → next ≡ remove now i → next ≡ without key keys
takes_key key keys now next i k w l is same e =
    let one : suc i ≡ i + 1 = omega arith in
    let there : k ≡ get_or keys i k = is ∙ ap (λ ks. get_or ks i k) w.unchanged in
    e ∙ ap (λ ks. remove ks i) w.unchanged ∙ ap (λ n. take i keys ++ drop n keys) one
    ∙ ap (λ b. take i keys ++ (if b then drop (i + 1) keys else k ∷ without key (drop (i + 1) keys))) same
    ∙ ap (λ ks. take i keys ++ without key ks) (sym (next_of keys i k l there)) ∙ w.so_far

pub keeps_all : (key : Key) (keys now : List Key) → Leaving key keys now (length keys) → now ≡ without key keys
keeps_all key keys now w =
    w.unchanged ∙ sym (append-nil keys) ∙ ap (λ ks. ks ++ []) (sym (take-length keys)) ∙ ap (λ ks. take (length keys) keys ++ without key ks) (sym (drop-length keys)) ∙ w.so_far

module _ {A : Type 0} where
  -- hands, once one is changed, and once there is room for one more
  pub workers_set : (xs : List (PlainWorkerState A)) (w : ℕ) (x : PlainWorkerState A) → w < length xs → workers_of (slice_set xs w x) ≡ with_worker (workers_of xs) w (worker_of x)
  workers_set xs w x l = seen_set worker_of idle xs w x l

  pub worker_seen : (xs : List (PlainWorkerState A)) (w : ℕ) (x : PlainWorkerState A) → w < length xs → x ≡ get_or xs w x → worker_of x ≡ workers_of xs w
  worker_seen xs w x l is = ap worker_of is ∙ sym (seen_at worker_of idle xs w x l)

  pub no_worker : (xs : List (PlainWorkerState A)) (w : ℕ) → length xs ≤ w → idle ≡ workers_of xs w
  no_worker xs w l = sym (seen_past worker_of idle xs w l)

  pub record Room (first now : List (PlainWorkerState A)) : Type 0 where
    pub same : workers_of now ≡ workers_of first

  pub more_room : (first now next : List (PlainWorkerState A)) → Room first now → next ≡ now ++ Idle ∷ [] → Room first next
  more_room first now next r e =
      record { same = ap workers_of e ∙ (λ k i. go i (cases_eq i (length now)) k) ∙ r.same }
    where
      go : (i : ℕ) → (i ≡ length now) ⊎ (i ≡ length now → ⊥) → workers_of (now ++ Idle ∷ []) i ≡ workers_of now i
      go i (inl q) =
          (λ k. seen_more worker_of idle now Idle k i) ∙ subst (λ y. changed_at (workers_of now) (length now) idle y ≡ workers_of now y) (sym q)
          (put_same (workers_of now) (length now) idle ∙ sym (seen_past worker_of idle now (length now) (omega arith)))
      go i (inr n) = (λ k. seen_more worker_of idle now Idle k i) ∙ put_other (workers_of now) (length now) idle i n

module _ {C A M : Type 0} where
  -- a worker that holds a job takes none
  pub busy_takes_none : (cell : Cell C A M) (w : ℕ) (worker : WorkerState A) (jobs : List Job) (key : Key) → key_held worker ≡ Some key → None ≡ take_plain cell w worker jobs
  busy_takes_none cell w idle jobs key e = absurd (none-some key e)
  busy_takes_none cell w (holds k p) jobs key e = refl
  busy_takes_none cell w (has_answer k p a) jobs key e = refl
  busy_takes_none cell w (has_none k p) jobs key e = refl

-- one that holds none is idle
pub free_is_idle : {A : Type 0} (worker : WorkerState A) → key_held worker ≡ None → worker ≡ idle
free_is_idle idle e = refl
free_is_idle (holds k p) e = absurd (none-some k (sym e))
free_is_idle (has_answer k p a) e = absurd (none-some k (sym e))
free_is_idle (has_none k p) e = absurd (none-some k (sym e))

pub ruleset takings = (busy_takes_none, free_is_idle)

module _ {C A M : Type 0} (d : DeskRules C A) where
  -- a worker that holds a job puts what it comes to
  pub put_by_key : (cell : Cell C A M) (w : ℕ) (worker : WorkerState A) (key : Key) → Some key ≡ key_held worker
      → outcome_plain cell w key (settlement d worker) ≡ put_plain d cell w worker
  put_by_key cell w idle key e = absurd (none-some key (sym e))
  put_by_key cell w (holds k p) key e = ap (λ x. outcome_plain cell w x (settled_by (d.decide p))) (same_Some key k e)
  put_by_key cell w (has_answer k p a) key e = ap (λ x. outcome_plain cell w x (settled_with d p a (d.decide p))) (same_Some key k e)
  put_by_key cell w (has_none k p) key e = refl

  -- one that holds none puts nothing
  pub put_by_none : (cell : Cell C A M) (w : ℕ) (worker : WorkerState A) → None ≡ key_held worker → None ≡ put_plain d cell w worker
  put_by_none cell w idle e = refl
  put_by_none cell w (holds k p) e = absurd (none-some k e)
  put_by_none cell w (has_answer k p a) e = absurd (none-some k e)
  put_by_none cell w (has_none k p) e = refl

-- a memory at its slot
pub memory_seen : {X Y : Type 0} (f : X → Y) (xs : List X) (i : ℕ) (x : X) → i < length xs → x ≡ get_or xs i x → Some (f x) ≡ option_map f (slice_get xs i)
memory_seen f [] i x l is = absurd (let g : ⊥ = omega arith in g)
memory_seen f (y ∷ xs) zero x l is = ap (λ z. Some (f z)) is
memory_seen f (y ∷ xs) (suc i) x l is = memory_seen f xs i x (omega arith) is

pub no_memory_seen : {X Y : Type 0} (f : X → Y) (xs : List X) (i : ℕ) → length xs ≤ i → None ≡ option_map f (slice_get xs i)
no_memory_seen f [] i l = refl
no_memory_seen f (y ∷ xs) zero l = absurd (let g : ⊥ = omega arith in g)
no_memory_seen f (y ∷ xs) (suc i) l = no_memory_seen f xs i (omega arith)

module _ {C A M : Type 0} (r : ServiceRules C A M) where
  -- an Apply that is answered, or lacks memory for the copy of its answer
  pub apply_result_answers : (old new : Cell C A M) (w : ℕ) (key : Key) (payload : List ℕ) (call : C) (answer : A) (m : Option M) → Some answer ≡ option_map (λ m. (r.rule call m).0) m
      → new ≡ record old { hall = effect_plain r old.hall key call answer; workers = with_worker old.workers w (has_answer key payload answer) }
      → Some new ≡ apply_result_plain r old w key payload call answers m
  apply_result_answers old new w key payload call answer None e is = absurd (none-some answer (sym e))
  apply_result_answers old new w key payload call answer (Some m) e is =
      ap Some is ∙ ap (λ a. Some (record old { hall = effect_plain r old.hall key call a; workers = with_worker old.workers w (has_answer key payload a) }))
      (same_Some answer (r.rule call m).0 e)

  pub apply_result_lacks : (old new : Cell C A M) (w : ℕ) (key : Key) (payload : List ℕ) (call : C) (answer : A) (m : Option M) → Some answer ≡ option_map (λ m. (r.rule call m).0) m
      → new ≡ record old { hall = effect_plain r old.hall key call answer; workers = with_worker old.workers w (has_none key payload) }
      → Some new ≡ apply_result_plain r old w key payload call lacks_for_answer m
  apply_result_lacks old new w key payload call answer None e is = absurd (none-some answer (sym e))
  apply_result_lacks old new w key payload call answer (Some m) e is =
      ap Some is ∙ ap (λ a. Some (record old { hall = effect_plain r old.hall key call a; workers = with_worker old.workers w (has_none key payload) }))
      (same_Some answer (r.rule call m).0 e)

  pub apply_result_unanswered : (old : Cell C A M) (w : ℕ) (key : Key) (payload : List ℕ) (call : C) (m : Option M) → None ≡ option_map (λ m. (r.rule call m).0) m
      → None ≡ apply_result_plain r old w key payload call answers m
  apply_result_unanswered old w key payload call None e = refl
  apply_result_unanswered old w key payload call (Some m) e = absurd (none-some (r.rule call m).0 e)

  pub apply_result_unanswered_too : (old : Cell C A M) (w : ℕ) (key : Key) (payload : List ℕ) (call : C) (m : Option M) → None ≡ option_map (λ m. (r.rule call m).0) m
      → None ≡ apply_result_plain r old w key payload call lacks_for_answer m
  apply_result_unanswered_too old w key payload call None e = refl
  apply_result_unanswered_too old w key payload call (Some m) e = absurd (none-some (r.rule call m).0 e)

pub ruleset apply_results = (apply_result_answers, apply_result_lacks, apply_result_unanswered, apply_result_unanswered_too)

-- bytes are the same where those in front of the same bytes are
same_all : (xs : List ℕ) → are_same xs xs ≡ true
same_all [] = refl
same_all (x ∷ xs) = ap (λ b. b && are_same xs xs) (eq-eqb x x refl) ∙ same_all xs

pub same_fronts : (xs ys zs : List ℕ) → length xs ≡ length ys → are_same xs ys ≡ are_same (xs ++ zs) (ys ++ zs)
same_fronts [] [] zs e = sym (same_all zs)
same_fronts [] (y ∷ ys) zs e = absurd (let g : ⊥ = omega arith in g)
same_fronts (x ∷ xs) [] zs e = absurd (let g : ⊥ = omega arith in g)
same_fronts (x ∷ xs) (y ∷ ys) zs e = ap (λ b. (x == y) && b) (same_fronts xs ys zs (omega arith))

-- a step that can be, and one that can't
pub it_can : {X : Type 0} (can : Bool) (x meant : Option X) → when can x ≡ meant → can ≡ true → x ≡ meant
it_can can x meant e is = ap (λ b. when b x) (sym is) ∙ e

pub it_cannot : {X : Type 0} (can : Bool) (x meant : Option X) → when can x ≡ meant → can ≡ false → None ≡ meant
it_cannot can x meant e is = ap (λ b. when b x) (sym is) ∙ e

-- the events that are left, from here, lead to where all lead from the start
pub record Going {C A M E : Type 0} (d : DeskRules C A) (r : ServiceRules C A M) (told_by : E → Told) (first : Cell C A M) (events : List E) (i : ℕ) (now : Cell C A M) : Type 0 where
  pub so_far : run_plain d r (map told_by (drop i events)) (Some now) ≡ run_plain d r (map told_by events) (Some first)

module _ {C A M E : Type 0} (d : DeskRules C A) (r : ServiceRules C A M) (told_by : E → Told) where
  pub goes_on : (first now next : Cell C A M) (events : List E) (i : ℕ) (event : E) → Going d r told_by first events i now → i < length events → event ≡ get_or events i event
      → Some next ≡ told_plain d r now (told_by event) → Going d r told_by first events (i + 1) next
  goes_on first now next events i event g l is e =
      record {
        so_far = ap (run_plain d r (map told_by (drop (i + 1) events))) e ∙ ap (λ es. run_plain d r (map told_by es) (Some now)) (sym (next_of events i event l is)) ∙ g.so_far;
      }

  nowhere : (told : List Told) → run_plain d r told None ≡ None
  nowhere [] = refl
  nowhere (one ∷ later) = refl

  pub stops : (first now : Cell C A M) (events : List E) (i : ℕ) (event : E) → Going d r told_by first events i now → i < length events → event ≡ get_or events i event
      → None ≡ told_plain d r now (told_by event) → None ≡ run_plain d r (map told_by events) (Some first)
  stops first now events i event g l is e =
      sym (nowhere (map told_by (drop (i + 1) events))) ∙ ap (run_plain d r (map told_by (drop (i + 1) events))) e
      ∙ ap (λ es. run_plain d r (map told_by es) (Some now)) (sym (next_of events i event l is)) ∙ g.so_far

  pub all_gone : (first now : Cell C A M) (events : List E) → Going d r told_by first events (length events) now → Some now ≡ run_plain d r (map told_by events) (Some first)
  all_gone first now events g = ap (λ es. run_plain d r (map told_by es) (Some now)) (sym (drop-length events)) ∙ g.so_far

-- the payload that is to be submitted next
pub payload_seen : {X : Type 0} (f : X → List ℕ) (xs : List X) (i : ℕ) (x : X) → i < length xs → x ≡ get_or xs i x → slice_get (map f xs) i ≡ Some (f x)
payload_seen f [] i x l is = absurd (let g : ⊥ = omega arith in g)
payload_seen f (y ∷ xs) zero x l is = ap (λ z. Some (f z)) (sym is)
payload_seen f (y ∷ xs) (suc i) x l is = payload_seen f xs i x (omega arith) is

pub no_payload : {X : Type 0} (f : X → List ℕ) (xs : List X) (i : ℕ) → length xs ≤ i → slice_get (map f xs) i ≡ None
no_payload f [] i l = refl
no_payload f (y ∷ xs) zero l = absurd (let g : ⊥ = omega arith in g)
no_payload f (y ∷ xs) (suc i) l = no_payload f xs i (omega arith)

pub ruleset payloads = (payload_seen, no_payload)

pub ruleset counting = (counts_open, counts_ended)
