-- What holds of every play of a rehearsal: what its connections hold and have admitted, what is left to be read and written, and which workers move.
use Rattle.std.proofs.Common.{◌≡◌, ◌≢◌, ℕ, zero, suc, ◌+◌, ◌-◌, ◌<◌, ◌≤◌, ◌⊎◌, min, Bool, true, false, not, nat_lt, nat_le, ◌==◌, if◌then◌else◌, Option, None, Some, List, [], ◌∷◌, ◌++◌, map, length, take, drop, refl, sym, ap, ◌∙◌, subst, inl, inr, option_map, arith}
use Rattle.std.specs.Prelude.{option_and_then, ⊤}
use Rattle.std.specs.List.{AllByRecursion}
use Rattle.std.proofs.lemmas.Bool.{and_parts, eqb-true, ltb-true, ltb-false, eq-eqb, ne_eqb, cases_lt}
use Rattle.streams.specs.declared.marks.Mark.TheVariants.{Closed}
use Rattle.host_model.specs.declared.cause.EndCause.{EndCause}
use Rattle.host_model.specs.declared.cause.EndCause.TheVariants.{NoMemory}
use Rattle.host_model.specs.Journal.{ServiceRules}
use Rattle.host_model.specs.DeskRules.{DeskRules, DeskDecision, Close, Silent, Reply, Invoke}
use Rattle.host_model.proofs.Lists.{all_push}
use Rattle.machine_model.specs.HallState.{Job, JobOutcome}
use Rattle.machine_model.specs.HallRule.{apply, put}
use Rattle.machine_model.specs.Loop.{LoopConn, Loop, new_conn, with_conn, changed, with_cause, submitted_more, conn_settled, conn_marks_settled, most_connections, open_among, opens, reads, writes, fails_write, gives_up}
use Rattle.machine_model.specs.Worker.{WorkerState, idle, holds, has_answer, has_none}
use Rattle.machine_model.specs.Machine.{Cell, MachineEvent, on_conn, submits, takes, applies, puts, collects, closes, ByWorker, Steps, EventsLead}
use Rattle.machine_model.specs.Plain.{when, is_empty, has_none_yet, is_open, Moved, ends_plain, fails_read_plain, fails_write_plain, writes_plain, reads_plain, moved_plain, opened_plain, with_loop, submit_plain, collect_plain, Told, goes, puts_none, event_told, told_plain, run_plain}
use Rattle.machine_model.specs.AtFronts.{size_in}
use Rattle.script_model.specs.ScriptLines.{PlanLine, opening, piece, input_end, input_fault, resting, turn_of_conn, turn_of_worker, turn_of_outcome, PlanRule, takes_most, blocks, fails, one_if_opens, openings, count_up}
use Rattle.script_model.specs.Playing.{InputFinish, finishes, faults, MemoryAt, ample, lacking, lacking_for_call, lacking_for_answer, is_ample, Play, most_read, at_number, kept_while_open, pieces_left, moved_on, all_admitted, event_on, or_else, told_without, told_wanting, by_memory, admission, freed, freed_if_over, with_rules, with_unread, told_in, on_one, read_behind, read_move, write_move, size_move, open_move, conn_move, step_of_worker, worker_move, collect_first, collect_move}
use Rattle.script_model.specs.Rehearsing.{workers_among, is_idle, left_by, goes_on_with, until_still, work_through, all_read, all_work, pass, drain, line_done, lines_done}
use Rattle.script_model.proofs.Holding.{AreBytes, bytes_taken, bytes_left, ConnKeeps, IsAdmitted, new_keeps, ended_keeps, GoodMoved, ends_keeps, fails_read_keeps, fails_write_keeps, writes_keeps, submitted_keeps, reads_keeps, settled_keeps}

-- a piece has a byte at least, and bytes alone
abbrev pub IsArrival : List ℕ → Type 0
IsArrival bytes = (0 < length bytes) × AreBytes bytes

-- a rule lets a write that it bounds take a byte
abbrev pub MayWrite : PlanRule → Type 0
MayWrite (takes_most count) = 0 < count
MayWrite _ = ⊤

-- a line brings such a piece, or moves one of so many workers
abbrev pub IsGoodLine : ℕ → PlanLine → Type 0
IsGoodLine workers (piece c bytes) = IsArrival bytes
IsGoodLine workers (turn_of_worker w) = w < workers_among workers
IsGoodLine workers _ = ⊤

-- What is kept, by what it is said of: at most so many connections were opened.
pub record KeptSo {A : Type 0} (max workers bound : ℕ) (loop : Loop) (states : ℕ → WorkerState A) (rules : ℕ → List PlanRule) (unread : ℕ → List (List ℕ)) (admitted : ℕ → Option ℕ) : Type 0 where
  pub within : loop.count ≤ bound
  pub each : (c : ℕ) → c < loop.count → ConnKeeps max (loop.conns c) (admitted c)
  pub unopened : (c : ℕ) → loop.count ≤ c → admitted c ≡ None
  pub resting_beyond : (w : ℕ) → workers_among workers ≤ w → states w ≡ idle
  pub writes : (c : ℕ) → AllByRecursion MayWrite (rules c)
  pub pieces : (c : ℕ) → AllByRecursion IsArrival (unread c)

-- one connection is another, and so is its size
changed_each : (max : ℕ) (loop : Loop) (admitted : ℕ → Option ℕ) → ((x : ℕ) → x < loop.count → ConnKeeps max (loop.conns x) (admitted x)) → (c : ℕ) (conn : LoopConn) (size : Option ℕ)
    → ConnKeeps max conn size → (x : ℕ) → x < loop.count → ConnKeeps max (with_conn loop.conns c conn x) (at_number admitted c size x)
changed_each max loop admitted each c conn size k x l = go (x == c)
  where
    go : (b : Bool) → ConnKeeps max (if b then conn else loop.conns x) (if b then size else admitted x)
    go true = k
    go false = each x l

-- one connection alone is another
changed_alone : (max : ℕ) (loop : Loop) (admitted : ℕ → Option ℕ) → ((x : ℕ) → x < loop.count → ConnKeeps max (loop.conns x) (admitted x)) → (c : ℕ) (conn : LoopConn)
    → ConnKeeps max conn (admitted c) → (x : ℕ) → x < loop.count → ConnKeeps max (with_conn loop.conns c conn x) (admitted x)
changed_alone max loop admitted each c conn k x l = go (x == c) refl
  where
    go : (b : Bool) → (x == c) ≡ b → ConnKeeps max (if b then conn else loop.conns x) (admitted x)
    go true e = subst (λ y. ConnKeeps max conn (admitted y)) (sym (eqb-true x c e)) k
    go false e = each x l

-- one size alone is another
resized : (max : ℕ) (loop : Loop) (admitted : ℕ → Option ℕ) → ((x : ℕ) → x < loop.count → ConnKeeps max (loop.conns x) (admitted x)) → (c : ℕ) (size : Option ℕ)
    → ConnKeeps max (loop.conns c) size → (x : ℕ) → x < loop.count → ConnKeeps max (loop.conns x) (at_number admitted c size x)
resized max loop admitted each c size k x l = go (x == c) refl
  where
    go : (b : Bool) → (x == c) ≡ b → ConnKeeps max (loop.conns x) (if b then size else admitted x)
    go true e = subst (λ y. ConnKeeps max (loop.conns y) size) (sym (eqb-true x c e)) k
    go false e = each x l

unopened_still : (count : ℕ) (admitted : ℕ → Option ℕ) → ((x : ℕ) → count ≤ x → admitted x ≡ None) → (c : ℕ) (size : Option ℕ) → c < count → (x : ℕ) → count ≤ x → at_number admitted c size x ≡ None
unopened_still count admitted none c size l x m = ap (λ b. if b then size else admitted x) (ne_eqb x c (λ e. let f : ⊥ = omega arith in f)) ∙ none x m

with_itself : (conns : ℕ → LoopConn) (c : ℕ) (conn : LoopConn) → with_conn conns c conn c ≡ conn
with_itself conns c conn = ap (λ b. if b then conn else conns c) (eq-eqb c c refl)

-- lists by number, one of which is another
at_one : {X : Type 0} (P : X → Type 0) (f : ℕ → List X) (c : ℕ) (xs : List X) → ((x : ℕ) → AllByRecursion P (f x)) → AllByRecursion P xs → (x : ℕ) → AllByRecursion P (at_number f c xs x)
at_one P f c xs all one x = go (x == c)
  where
    go : (b : Bool) → AllByRecursion P (if b then xs else f x)
    go true = one
    go false = all x

no_cause : (cause : Option EndCause) → has_none_yet cause ≡ true → cause ≡ None
no_cause None e = refl
no_cause (Some cause) e = let f : ⊥ = cc in absurd f

pub is_opened : (loop : Loop) (c : ℕ) → is_open loop c ≡ true → (c < loop.count) × ((loop.conns c).cause ≡ None)
is_opened loop c e =
    let parts : (nat_lt c loop.count ≡ true) × (has_none_yet (loop.conns c).cause ≡ true) = and_parts (nat_lt c loop.count) (has_none_yet (loop.conns c).cause) e in
    (ltb-true c loop.count parts.0, no_cause (loop.conns c).cause parts.1)

pieces_kept : (bytes : List ℕ) (pieces : List (List ℕ)) → AreBytes bytes → AllByRecursion IsArrival pieces → AllByRecursion IsArrival (pieces_left bytes pieces)
pieces_kept [] pieces are all = all
pieces_kept (byte ∷ bytes) pieces are all = ((omega arith, are), all)

module _ {C A M : Type 0} (d : DeskRules C A) (r : ServiceRules C A M) (memory : ℕ → MemoryAt)
    (computes : (first cell : Cell C A M) (told : List Told) → run_plain d r told (Some first) ≡ Some cell → EventsLead d r first (map event_told told) cell) (workers : ℕ) where
  -- what is kept of a play
  abbrev pub Keeps : ℕ → Play C A M → Type 0
  Keeps bound play = KeptSo d.max workers bound play.cell.loop play.cell.workers play.rules play.unread play.admitted

  -- and of what comes of one
  abbrev pub KeepsAfter : ℕ → Option (Play C A M) → Type 0
  KeepsAfter bound None = Unit {0}
  KeepsAfter bound (Some play) = Keeps bound play

  cases : (bound : ℕ) (b : Bool) (x y : Option (Play C A M)) → (b ≡ true → KeepsAfter bound x) → (b ≡ false → KeepsAfter bound y) → KeepsAfter bound (if b then x else y)
  cases bound true x y f g = f refl
  cases bound false x y f g = g refl

  or_keeps : (bound : ℕ) (x y : Option (Play C A M)) → KeepsAfter bound x → KeepsAfter bound y → KeepsAfter bound (or_else x y)
  or_keeps bound None y a b = b
  or_keeps bound (Some x) y a b = a

  -- something happens on connection c
  one_keeps : (bound : ℕ) (play : Play C A M) → Keeps bound play → (c : ℕ) (moved : Moved) → (c < play.cell.loop.count → (play.cell.loop.conns c).cause ≡ None → GoodMoved d.max (play.admitted c) moved)
      → KeepsAfter bound (option_map (freed_if_over c) (option_map (λ cell. record play { cell = cell; moves = suc play.moves })
      (with_loop play.cell (when (is_open play.cell.loop c) (moved_plain play.cell.loop c moved)))))
  one_keeps bound play k c moved good = go (is_open play.cell.loop c) refl moved good
    where
      go : (b : Bool) → is_open play.cell.loop c ≡ b → (moved : Moved) → (c < play.cell.loop.count → (play.cell.loop.conns c).cause ≡ None → GoodMoved d.max (play.admitted c) moved)
          → KeepsAfter bound (option_map (freed_if_over c) (option_map (λ cell. record play { cell = cell; moves = suc play.moves }) (with_loop play.cell (when b (moved_plain play.cell.loop c moved)))))
      go false e moved good = tt
      go true e None good = tt
      go true e (Some moved) good =
          let o : (c < play.cell.loop.count) × ((play.cell.loop.conns c).cause ≡ None) = is_opened play.cell.loop c e in
          let g : ConnKeeps d.max moved.0 (kept_while_open (with_conn play.cell.loop.conns c moved.0 c).cause (play.admitted c)) =
          subst (λ conn. ConnKeeps d.max moved.0 (kept_while_open conn.cause (play.admitted c))) (sym (with_itself play.cell.loop.conns c moved.0)) (good o.0 o.1) in
          record {
            within = k.within;
            each = changed_each d.max play.cell.loop play.admitted k.each c moved.0 (kept_while_open (with_conn play.cell.loop.conns c moved.0 c).cause (play.admitted c)) g;
            unopened = unopened_still play.cell.loop.count play.admitted k.unopened c (kept_while_open (with_conn play.cell.loop.conns c moved.0 c).cause (play.admitted c)) o.0;
            resting_beyond = k.resting_beyond;
            writes = k.writes;
            pieces = k.pieces;
          }

  -- other pieces, or other rules, are left
  pieced : (bound c : ℕ) (pieces : List (List ℕ)) (o : Option (Play C A M)) → KeepsAfter bound o → AllByRecursion IsArrival pieces → KeepsAfter bound (option_map (with_unread c pieces) o)
  pieced bound c pieces None k all = tt
  pieced bound c pieces (Some play) k all =
      record { within = k.within; each = k.each; unopened = k.unopened; resting_beyond = k.resting_beyond; writes = k.writes; pieces = at_one IsArrival play.unread c pieces k.pieces all }

  ruled : (bound c : ℕ) (rules : List PlanRule) (o : Option (Play C A M)) → KeepsAfter bound o → AllByRecursion MayWrite rules → KeepsAfter bound (option_map (with_rules c rules) o)
  ruled bound c rules None k all = tt
  ruled bound c rules (Some play) k all =
      record { within = k.within; each = k.each; unopened = k.unopened; resting_beyond = k.resting_beyond; writes = at_one MayWrite play.rules c rules k.writes all; pieces = k.pieces }

  behind_keeps : (bound : ℕ) (play : Play C A M) → Keeps bound play → (c : ℕ) (finish : Option InputFinish) → KeepsAfter bound (read_behind d r play c finish)
  behind_keeps bound play k c None = tt
  behind_keeps bound play k c (Some finishes) =
      one_keeps bound play k c (ends_plain c (play.cell.loop.conns c)) (λ l o. ends_keeps d.max c (play.cell.loop.conns c) (play.admitted c))
  behind_keeps bound play k c (Some faults) =
      one_keeps bound play k c (fails_read_plain c (play.cell.loop.conns c)) (λ l o. fails_read_keeps d.max c (play.cell.loop.conns c) (play.admitted c))

  read_keeps : (bound : ℕ) (play : Play C A M) → Keeps bound play → (c missing : ℕ) (pieces : List (List ℕ)) → AllByRecursion IsArrival pieces → KeepsAfter bound (read_move d r play c missing pieces)
  read_keeps bound play k c missing [] all = behind_keeps bound play k c (play.finish c)
  read_keeps bound play k c missing (bytes ∷ pieces) all =
      let n : ℕ = min (min missing most_read) (length bytes) in
      pieced bound c (pieces_left (drop n bytes) pieces) (on_one d r play c (reads c (take n bytes)))
      (one_keeps bound play k c (reads_plain d.max c (take n bytes) (play.cell.loop.conns c))
      (λ l o. reads_keeps d.max c (take n bytes) (play.cell.loop.conns c) (play.admitted c) o (bytes_taken n bytes all.0.1) (k.each c l)))
      (pieces_kept (drop n bytes) pieces (bytes_left n bytes all.0.1) all.1)

  writes_one : (bound : ℕ) (play : Play C A M) → Keeps bound play → (c count : ℕ) → KeepsAfter bound (on_one d r play c (writes c count))
  writes_one bound play k c count =
      one_keeps bound play k c (writes_plain c count (play.cell.loop.conns c)) (λ l o. writes_keeps d.max c count (play.cell.loop.conns c) (play.admitted c) (k.each c l))

  write_keeps : (bound : ℕ) (play : Play C A M) → Keeps bound play → (c : ℕ) (left : List ℕ) (rules : List PlanRule) → AllByRecursion MayWrite rules → KeepsAfter bound (write_move d r play c left rules)
  write_keeps bound play k c left [] all = writes_one bound play k c (length left)
  write_keeps bound play k c left (takes_most count ∷ rules) all =
      ruled bound c rules (on_one d r play c (writes c (min count (length left)))) (writes_one bound play k c (min count (length left))) all.1
  write_keeps bound play k c left (blocks ∷ rules) all = ruled bound c rules (Some play) k all.1
  write_keeps bound play k c left (fails ∷ rules) all =
      ruled bound c rules (on_one d r play c (fails_write c))
      (one_keeps bound play k c (fails_write_plain c (play.cell.loop.conns c)) (λ l o. fails_write_keeps d.max c (play.cell.loop.conns c) (play.admitted c))) all.1

  -- for want of memory it is given up, with no size admitted
  given_up : (bound : ℕ) (play : Play C A M) → Keeps bound play → (c : ℕ) → play.admitted c ≡ None → KeepsAfter bound (told_wanting d r play (goes (on_conn (gives_up c NoMemory))))
  given_up bound play k c none = go (is_open play.cell.loop c) refl
    where
      go : (b : Bool) → is_open play.cell.loop c ≡ b
          → KeepsAfter bound (option_map (λ cell. record play { cell = cell; moves = suc play.moves; wants = suc play.wants })
          (with_loop play.cell (when b (moved_plain play.cell.loop c (Some (with_cause (play.cell.loop.conns c) NoMemory, Closed c ∷ []))))))
      go false e = tt
      go true e =
          record {
            within = k.within;
            each = changed_alone d.max play.cell.loop play.admitted k.each c (with_cause (play.cell.loop.conns c) NoMemory)
                (ended_keeps d.max (play.cell.loop.conns c) NoMemory (play.admitted c) (λ e. let f : ⊥ = cc in f) none);
            unopened = k.unopened;
            resting_beyond = k.resting_beyond;
            writes = k.writes;
            pieces = k.pieces;
          }

  admission_keeps : (bound : ℕ) (play : Play C A M) → Keeps bound play → (c size : ℕ) → c < play.cell.loop.count → play.admitted c ≡ None → IsAdmitted d.max (play.cell.loop.conns c) size
      → KeepsAfter bound (admission d r memory play c size)
  admission_keeps bound play k c size l none may = go (memory play.moves)
    where
      old : ConnKeeps d.max (play.cell.loop.conns c) (play.admitted c)
      old = k.each c l

      new : ConnKeeps d.max (play.cell.loop.conns c) (Some size)
      new = record { fits = old.fits; unstopped = old.unstopped; admits = λ n e. subst (IsAdmitted d.max (play.cell.loop.conns c)) (same n e) may }
        where
          same : (n : ℕ) → Some size ≡ Some n → size ≡ n
          same n e = cc

      next : Play C A M
      next = moved_on (record play { admitted = at_number play.admitted c (Some size) })

      admitted : Keeps bound next
      admitted =
          record {
            within = k.within;
            each = resized d.max play.cell.loop play.admitted k.each c (Some size) new;
            unopened = unopened_still play.cell.loop.count play.admitted k.unopened c (Some size) l;
            resting_beyond = k.resting_beyond;
            writes = k.writes;
            pieces = k.pieces;
          }

      go : (at : MemoryAt) → KeepsAfter bound (by_memory d r at play (goes (on_conn (gives_up c NoMemory))) (Some next))
      go ample = admitted
      go lacking = or_keeps bound _ (Some next) (given_up bound play k c none) admitted
      go lacking_for_call = or_keeps bound _ (Some next) (given_up bound play k c none) admitted
      go lacking_for_answer = or_keeps bound _ (Some next) (given_up bound play k c none) admitted

  size_keeps : (bound budget : ℕ) (play : Play C A M) → Keeps bound play → (c : ℕ) → c < play.cell.loop.count → (play.cell.loop.conns c).cause ≡ None → 4 ≤ length (play.cell.loop.conns c).held
      → (size : Option ℕ) → play.admitted c ≡ size → KeepsAfter bound (size_move d r memory budget play c (play.cell.loop.conns c).held size)
  size_keeps bound budget play k c l o four (Some size) e = read_keeps bound play k c ((4 + size) - length (play.cell.loop.conns c).held) (play.unread c) (k.pieces c)
  size_keeps bound budget play k c l o four None e =
      cases bound (nat_le (all_admitted play + size_in (play.cell.loop.conns c).held) budget) (admission d r memory play c (size_in (play.cell.loop.conns c).held)) None
      (λ b. admission_keeps bound play k c (size_in (play.cell.loop.conns c).held) l e (o, inr (four, refl))) (λ b. tt)

  -- a payload is submitted
  submit_keeps : (bound : ℕ) (play : Play C A M) → Keeps bound play → (c : ℕ) → KeepsAfter bound (told_in d r play (goes (submits c)))
  submit_keeps bound play k c = go (nat_lt c play.cell.loop.count) refl play.cell.hall.closed _
    where
      go : (b : Bool) → nat_lt c play.cell.loop.count ≡ b → (closed : Bool) (payload : Option (List ℕ))
          → KeepsAfter bound (option_map (λ cell. record play { cell = cell; moves = suc play.moves }) (when b (submit_plain play.cell c closed payload)))
      go false e closed payload = tt
      go true e closed None = tt
      go true e true (Some payload) = k
      go true e false (Some payload) =
          record {
            within = k.within;
            each = changed_alone d.max play.cell.loop play.admitted k.each c (submitted_more (play.cell.loop.conns c))
                (submitted_keeps d.max (play.cell.loop.conns c) (play.admitted c) (k.each c (ltb-true c play.cell.loop.count e)));
            unopened = k.unopened;
            resting_beyond = k.resting_beyond;
            writes = k.writes;
            pieces = k.pieces;
          }

  open_keeps : (bound budget c : ℕ) (play : Play C A M) → Keeps bound play → c < play.cell.loop.count → (play.cell.loop.conns c).cause ≡ None
      → KeepsAfter bound (open_move d r memory budget play c (play.cell.loop.conns c))
  open_keeps bound budget c play k l o =
      let conn : LoopConn = play.cell.loop.conns c in
      cases bound (not (is_empty conn.left)) _ _ (λ b. write_keeps bound play k c conn.left (play.rules c) (k.writes c))
      (λ b. cases bound (nat_lt conn.submitted (length conn.payloads)) _ _ (λ b. submit_keeps bound play k c)
      (λ b. cases bound (nat_lt conn.collected conn.submitted) None _ (λ b. tt)
      (λ b. cases bound (nat_lt (length conn.held) 4) _ _ (λ b. read_keeps bound play k c (4 - length conn.held) (play.unread c) (k.pieces c))
      (λ b. size_keeps bound budget play k c l o (ltb-false (length conn.held) 4 b) (play.admitted c) refl))))

  conn_keeps : (bound budget c : ℕ) (play : Play C A M) → Keeps bound play → KeepsAfter bound (conn_move d r memory budget c play)
  conn_keeps bound budget c play k =
      cases bound (is_open play.cell.loop c) _ None
      (λ b. let o : (c < play.cell.loop.count) × ((play.cell.loop.conns c).cause ≡ None) = is_opened play.cell.loop c b in open_keeps bound budget c play k o.0 o.1) (λ b. tt)

  -- an event is one of worker w
  abbrev IsOfWorker : ℕ → MachineEvent → Type 0
  IsOfWorker w (takes x) = x ≡ w
  IsOfWorker w (applies x) = x ≡ w
  IsOfWorker w (puts x) = x ≡ w
  IsOfWorker w _ = ⊥

  -- it leaves the loop and the other workers as they were
  IsWorked : ℕ → Cell C A M → Cell C A M → Type 0
  IsWorked w old new = (new.loop ≡ old.loop) × ((x : ℕ) → x ≢ w → new.workers x ≡ old.workers x)

  other : (w x : ℕ) (worker : WorkerState A) (states : ℕ → WorkerState A) → x ≢ w → (if x == w then worker else states x) ≡ states x
  other w x worker states n = ap (λ b. if b then worker else states x) (ne_eqb x w n)

  worker_step : (w : ℕ) (old new : Cell C A M) (event : MachineEvent) → IsOfWorker w event → Steps d r old event new → IsWorked w old new
  unfolding IsWorked
  worker_step w old new (takes x) e t =
      subst (λ y. (new.loop ≡ old.loop) × ((z : ℕ) → z ≢ y → new.workers z ≡ old.workers z)) e
      (ap (λ (cell : Cell C A M). cell.loop) t.5, λ z n. ap (λ (cell : Cell C A M). cell.workers z) t.5 ∙ other x z t.1 old.workers n)
  worker_step w old new (applies x) e t =
      let b : ByWorker d r old x (apply t.0 t.1) new = t.2 in
      subst (λ y. (new.loop ≡ old.loop) × ((z : ℕ) → z ≢ y → new.workers z ≡ old.workers z)) e
      (ap (λ (cell : Cell C A M). cell.loop) b.5, λ z n. ap (λ (cell : Cell C A M). cell.workers z) b.5 ∙ other x z b.1 old.workers n)
  worker_step w old new (puts x) e t =
      let b : ByWorker d r old x (put t.0 t.1) new = t.2 in
      subst (λ y. (new.loop ≡ old.loop) × ((z : ℕ) → z ≢ y → new.workers z ≡ old.workers z)) e
      (ap (λ (cell : Cell C A M). cell.loop) b.5, λ z n. ap (λ (cell : Cell C A M). cell.workers z) b.5 ∙ other x z b.1 old.workers n)
  worker_step w old new (on_conn conn_event) e t = absurd e
  worker_step w old new (submits c) e t = absurd e
  worker_step w old new collects e t = absurd e
  worker_step w old new closes e t = absurd e

  worked_keeps : (bound w : ℕ) (play : Play C A M) (cell : Cell C A M) → w < workers_among workers → Keeps bound play → (told : Told) → IsOfWorker w (event_told told)
      → told_plain d r play.cell told ≡ Some cell → KeptSo d.max workers bound cell.loop cell.workers play.rules play.unread play.admitted
  unfolding IsWorked
  worked_keeps bound w play cell l k told of e =
      let t : (next : Cell C A M) × Steps d r play.cell (event_told told) next × (cell ≡ next) = computes play.cell cell (told ∷ []) e in
      let s : Steps d r play.cell (event_told told) cell = subst (Steps d r play.cell (event_told told)) (sym t.2) t.1 in
      let p : (cell.loop ≡ play.cell.loop) × ((x : ℕ) → x ≢ w → cell.workers x ≡ play.cell.workers x) = worker_step w play.cell cell (event_told told) of s in
      subst (λ loop. KeptSo d.max workers bound loop cell.workers play.rules play.unread play.admitted) (sym p.0)
      (record {
        within = k.within;
        each = k.each;
        unopened = k.unopened;
        resting_beyond = λ x m. p.1 x (λ f. let g : ⊥ = omega arith in g) ∙ k.resting_beyond x m;
        writes = k.writes;
        pieces = k.pieces;
      })

  told_keeps : (bound w : ℕ) (play : Play C A M) → w < workers_among workers → Keeps bound play → (told : Told) → IsOfWorker w (event_told told) → KeepsAfter bound (told_in d r play told)
  told_keeps bound w play l k told of = go (told_plain d r play.cell told) refl
    where
      go : (o : Option (Cell C A M)) → told_plain d r play.cell told ≡ o → KeepsAfter bound (option_map (λ cell. record play { cell = cell; moves = suc play.moves }) o)
      go None e = tt
      go (Some cell) e = worked_keeps bound w play cell l k told of e

  wanting_keeps : (bound w : ℕ) (play : Play C A M) → w < workers_among workers → Keeps bound play → (told : Told) → IsOfWorker w (event_told told) → KeepsAfter bound (told_wanting d r play told)
  wanting_keeps bound w play l k told of = go (told_plain d r play.cell told) refl
    where
      go : (o : Option (Cell C A M)) → told_plain d r play.cell told ≡ o → KeepsAfter bound (option_map (λ cell. record play { cell = cell; moves = suc play.moves; wants = suc play.wants }) o)
      go None e = tt
      go (Some cell) e = worked_keeps bound w play cell l k told of e

  memory_keeps : (bound w : ℕ) (play : Play C A M) → w < workers_among workers → Keeps bound play → (at : MemoryAt) (told : Told) → IsOfWorker w (event_told told) → (o : Option (Play C A M)) → KeepsAfter bound o
      → KeepsAfter bound (by_memory d r at play told o)
  memory_keeps bound w play l k at told of o a =
      cases bound (is_ample at) o (or_else (told_wanting d r play told) o) (λ b. a) (λ b. or_keeps bound (told_wanting d r play told) o (wanting_keeps bound w play l k told of) a)

  of_event : (w : ℕ) (decision : DeskDecision C) → IsOfWorker w (event_on d r w decision)
  of_event w (Invoke call) = refl
  of_event w (Close fault) = refl
  of_event w Silent = refl
  of_event w (Reply reply) = refl

  of_want : (w : ℕ) (at : MemoryAt) (decision : DeskDecision C) → IsOfWorker w (event_told (told_without d r w at decision))
  of_want w lacking_for_call (Invoke call) = refl
  of_want w lacking_for_call (Close fault) = refl
  of_want w lacking_for_call Silent = refl
  of_want w lacking_for_call (Reply reply) = refl
  of_want w lacking_for_answer (Invoke call) = refl
  of_want w lacking_for_answer (Close fault) = refl
  of_want w lacking_for_answer Silent = refl
  of_want w lacking_for_answer (Reply reply) = refl
  of_want w ample decision = refl
  of_want w lacking decision = refl

  step_keeps : (bound w : ℕ) (play : Play C A M) → w < workers_among workers → Keeps bound play → (worker : WorkerState A) (jobs : List Job) → KeepsAfter bound (step_of_worker d r memory play w worker jobs)
  step_keeps bound w play l k idle [] = tt
  step_keeps bound w play l k idle (job ∷ jobs) = told_keeps bound w play l k (goes (takes w)) refl
  step_keeps bound w play l k (holds key payload) jobs =
      let told : Told = goes (event_on d r w (d.decide payload)) in
      memory_keeps bound w play l k (memory play.moves) (told_without d r w (memory play.moves) (d.decide payload)) (of_want w (memory play.moves) (d.decide payload)) (told_in d r play told)
      (told_keeps bound w play l k told (of_event w (d.decide payload)))
  step_keeps bound w play l k (has_answer key payload answer) jobs =
      memory_keeps bound w play l k (memory play.moves) (puts_none w) refl (told_in d r play (goes (puts w))) (told_keeps bound w play l k (goes (puts w)) refl)
  step_keeps bound w play l k (has_none key payload) jobs = told_keeps bound w play l k (puts_none w) refl

  worker_keeps : (bound w : ℕ) (play : Play C A M) → w < workers_among workers → Keeps bound play → KeepsAfter bound (worker_move d r memory w play)
  worker_keeps bound w play l k = step_keeps bound w play l k (play.cell.workers w) play.cell.hall.jobs

  -- the oldest outcome is collected
  first_keeps : (bound : ℕ) (play : Play C A M) → Keeps bound play → (outcomes : List JobOutcome) → play.cell.hall.outcomes ≡ outcomes → KeepsAfter bound (collect_first d r play outcomes)
  first_keeps bound play k [] e = tt
  first_keeps bound play k (o ∷ later) e =
      subst (λ outs. KeepsAfter bound (option_map (freed o.key.c) (option_map (λ cell. record play { cell = cell; moves = suc play.moves }) (collect_plain play.cell outs)))) (sym e)
      (go (nat_lt o.key.c play.cell.loop.count) refl)
    where
      conn : LoopConn
      conn = play.cell.loop.conns o.key.c

      go : (b : Bool) → nat_lt o.key.c play.cell.loop.count ≡ b
          → KeepsAfter bound (option_map (freed o.key.c) (option_map (λ cell. record play { cell = cell; moves = suc play.moves })
          (when b (Some (record play.cell {
            loop = changed play.cell.loop o.key.c (conn_settled (play.cell.loop.conns o.key.c).cause o.settled (play.cell.loop.conns o.key.c)) (conn_marks_settled (play.cell.loop.conns o.key.c).cause o.key.c o.settled);
            hall = record play.cell.hall { outcomes = later };
          })))))
      go false f = tt
      go true f =
          let l : o.key.c < play.cell.loop.count = ltb-true o.key.c play.cell.loop.count f in
          record {
            within = k.within;
            each = changed_each d.max play.cell.loop play.admitted k.each o.key.c (conn_settled (play.cell.loop.conns o.key.c).cause o.settled (play.cell.loop.conns o.key.c)) None
                (settled_keeps d.max (play.cell.loop.conns o.key.c) o.settled (play.admitted o.key.c) (k.each o.key.c l));
            unopened = unopened_still play.cell.loop.count play.admitted k.unopened o.key.c None l;
            resting_beyond = k.resting_beyond;
            writes = k.writes;
            pieces = k.pieces;
          }

  collect_keeps : (bound : ℕ) (play : Play C A M) → Keeps bound play → KeepsAfter bound (collect_move d r play)
  collect_keeps bound play k = first_keeps bound play k play.cell.hall.outcomes refl

  -- one more connection is opened
  open_one_keeps : (bound : ℕ) (play : Play C A M) → Keeps bound play → KeepsAfter (suc bound) (told_in d r play (goes (on_conn opens)))
  open_one_keeps bound play k = go (nat_lt (open_among play.cell.loop.conns play.cell.loop.count) most_connections)
    where
      count : ℕ
      count = play.cell.loop.count

      one_of : (x : ℕ) (b : Bool) → (x == play.cell.loop.count) ≡ b → x < suc play.cell.loop.count → ConnKeeps d.max (if b then new_conn else play.cell.loop.conns x) (play.admitted x)
      one_of x true e l = new_keeps d.max (play.admitted x) (k.unopened x (let f : x ≡ play.cell.loop.count = eqb-true x play.cell.loop.count e in omega arith))
      one_of x false e l = k.each x (below (cases_lt x play.cell.loop.count))
        where
          below : (x < play.cell.loop.count) ⊎ (play.cell.loop.count ≤ x) → x < play.cell.loop.count
          below (inl m) = m
          below (inr m) =
              let f : x ≡ play.cell.loop.count = omega arith in let g : (x == play.cell.loop.count) ≡ true = eq-eqb x play.cell.loop.count f in let h : ⊥ = cc in absurd h

      go : (b : Bool) → KeepsAfter (suc bound) (option_map (λ cell. record play { cell = cell; moves = suc play.moves }) (with_loop play.cell (when b (Some (opened_plain play.cell.loop)))))
      go false = tt
      go true =
          record {
            within = let w : play.cell.loop.count ≤ bound = k.within in omega arith;
            each = λ x l. one_of x (x == play.cell.loop.count) refl l;
            unopened = λ x l. k.unopened x (omega arith);
            resting_beyond = k.resting_beyond;
            writes = k.writes;
            pieces = k.pieces;
          }

  -- the moves one after another
  and_keeps : (bound : ℕ) (f : Play C A M → Option (Play C A M)) (o : Option (Play C A M)) → KeepsAfter bound o → ((play : Play C A M) → Keeps bound play → KeepsAfter bound (f play))
      → KeepsAfter bound (option_and_then f o)
  and_keeps bound f None k each = tt
  and_keeps bound f (Some play) k each = each play k

  goes_keeps : (bound : ℕ) (old : Play C A M) (o : Option (Play C A M)) (again : Play C A M → Option (Play C A M)) → Keeps bound old → KeepsAfter bound o
      → ((play : Play C A M) → Keeps bound play → KeepsAfter bound (again play)) → KeepsAfter bound (goes_on_with old o again)
  goes_keeps bound old None again k a each = k
  goes_keeps bound old (Some next) again k a each = each next a

  left_keeps : (bound : ℕ) (old : Play C A M) (o : Option (Play C A M)) → Keeps bound old → KeepsAfter bound o → Keeps bound (left_by old o)
  left_keeps bound old None k a = k
  left_keeps bound old (Some next) k a = a

  still_keeps : (bound n : ℕ) (move : Play C A M → Option (Play C A M)) → ((play : Play C A M) → Keeps bound play → KeepsAfter bound (move play)) → (play : Play C A M) → Keeps bound play
      → KeepsAfter bound (until_still n move play)
  still_keeps bound zero move each play k = goes_keeps bound play (move play) (λ next. None) k (each play k) (λ next k'. tt)
  still_keeps bound (suc n) move each play k = goes_keeps bound play (move play) (λ next. until_still n move next) k (each play k) (λ next k'. still_keeps bound n move each next k')

  through_keeps : (bound n w : ℕ) (play : Play C A M) → w < workers_among workers → Keeps bound play → KeepsAfter bound (work_through d r memory n w play)
  through_keeps bound zero w play l k = k
  through_keeps bound (suc n) w play l k =
      goes_keeps bound play (worker_move d r memory w play) (λ next. if is_idle (next.cell.workers w) then Some next else work_through d r memory n w next) k (worker_keeps bound w play l k)
      (λ next k'. cases bound (is_idle (next.cell.workers w)) (Some next) (work_through d r memory n w next) (λ b. k') (λ b. through_keeps bound n w next l k'))

  all_read_keeps : (bound fuel budget : ℕ) (cs : List ℕ) (play : Play C A M) → Keeps bound play → KeepsAfter bound (all_read d r memory fuel budget cs play)
  all_read_keeps bound fuel budget [] play k = k
  all_read_keeps bound fuel budget (c ∷ cs) play k =
      and_keeps bound (λ next. all_read d r memory fuel budget cs next) _ (still_keeps bound fuel (conn_move d r memory budget c) (conn_keeps bound budget c) play k)
      (λ next k'. all_read_keeps bound fuel budget cs next k')

  all_work_keeps : (bound from n : ℕ) (play : Play C A M) → from + n ≤ workers_among workers → Keeps bound play → KeepsAfter bound (all_work d r memory (count_up from n) play)
  all_work_keeps bound from zero play l k = k
  all_work_keeps bound from (suc n) play l k =
      and_keeps bound (λ next. all_work d r memory (count_up (suc from) n) next) _ (through_keeps bound 3 from play (omega arith) k)
      (λ next k'. all_work_keeps bound (suc from) n next (omega arith) k')

  pass_keeps : (bound fuel budget : ℕ) (play : Play C A M) → Keeps bound play → KeepsAfter bound (pass d r memory fuel budget workers play)
  pass_keeps bound fuel budget play k =
      and_keeps bound (λ next. until_still fuel (collect_move d r) next) _
      (and_keeps bound (λ next. all_work d r memory (count_up 0 (workers_among workers)) next) _ (all_read_keeps bound fuel budget (count_up 0 play.cell.loop.count) play k)
      (λ next k'. all_work_keeps bound 0 (workers_among workers) next (omega arith) k'))
      (λ next k'. still_keeps bound fuel (collect_move d r) (collect_keeps bound) next k')

  drain_keeps : (bound n fuel budget : ℕ) (play : Play C A M) → Keeps bound play → KeepsAfter bound (drain d r memory n fuel budget workers play)
  drain_keeps bound zero fuel budget play k = tt
  drain_keeps bound (suc n) fuel budget play k =
      and_keeps bound (λ next. if next.moves == play.moves then Some play else drain d r memory n fuel budget workers next) _ (pass_keeps bound fuel budget play k)
      (λ next k'. cases bound (next.moves == play.moves) (Some play) (drain d r memory n fuel budget workers next) (λ b. k) (λ b. drain_keeps bound n fuel budget next k'))

  wider : (bound more : ℕ) (o : Option (Play C A M)) → bound ≤ more → KeepsAfter bound o → KeepsAfter more o
  wider bound more None l k = tt
  wider bound more (Some play) l k =
      record { within = let w : play.cell.loop.count ≤ bound = k.within in omega arith; each = k.each; unopened = k.unopened; resting_beyond = k.resting_beyond; writes = k.writes; pieces = k.pieces }

  same_bound : (bound : ℕ) (o : Option (Play C A M)) → KeepsAfter bound o → KeepsAfter (0 + bound) o
  same_bound bound o k = wider bound (0 + bound) o (omega arith) k

  line_keeps : (bound fuel budget : ℕ) (play : Play C A M) (line : PlanLine) → IsGoodLine workers line → Keeps bound play → KeepsAfter (one_if_opens line + bound) (line_done d r memory fuel budget workers play line)
  line_keeps bound fuel budget play opening good k =
      wider (suc bound) (1 + bound) (Some (left_by play (told_in d r play (goes (on_conn opens))))) (omega arith) (left_keeps (suc bound) play (told_in d r play (goes (on_conn opens)))
      (record { within = let w : play.cell.loop.count ≤ bound = k.within in omega arith; each = k.each; unopened = k.unopened; resting_beyond = k.resting_beyond; writes = k.writes; pieces = k.pieces })
      (open_one_keeps bound play k))
  line_keeps bound fuel budget play (piece c bytes) good k =
      same_bound bound (line_done d r memory fuel budget workers play (piece c bytes))
      (record {
        within = k.within;
        each = k.each;
        unopened = k.unopened;
        resting_beyond = k.resting_beyond;
        writes = k.writes;
        pieces = at_one IsArrival play.unread c (play.unread c ++ bytes ∷ []) k.pieces (all_push IsArrival (play.unread c) bytes (k.pieces c) good);
      })
  line_keeps bound fuel budget play (input_end c) good k = same_bound bound (line_done d r memory fuel budget workers play (input_end c)) k
  line_keeps bound fuel budget play (input_fault c) good k = same_bound bound (line_done d r memory fuel budget workers play (input_fault c)) k
  line_keeps bound fuel budget play resting good k = same_bound bound (drain d r memory fuel fuel budget workers play) (drain_keeps bound fuel fuel budget play k)
  line_keeps bound fuel budget play (turn_of_conn c) good k =
      same_bound bound (line_done d r memory fuel budget workers play (turn_of_conn c)) (left_keeps bound play (conn_move d r memory budget c play) k (conn_keeps bound budget c play k))
  line_keeps bound fuel budget play (turn_of_worker w) good k =
      same_bound bound (line_done d r memory fuel budget workers play (turn_of_worker w)) (left_keeps bound play (worker_move d r memory w play) k (worker_keeps bound w play good k))
  line_keeps bound fuel budget play turn_of_outcome good k =
      same_bound bound (line_done d r memory fuel budget workers play turn_of_outcome) (left_keeps bound play (collect_move d r play) k (collect_keeps bound play k))

  pub lines_keep : (bound fuel budget : ℕ) (lines : List PlanLine) (play : Play C A M) → AllByRecursion (IsGoodLine workers) lines → Keeps bound play
      → KeepsAfter (bound + openings lines) (lines_done d r memory fuel budget workers lines play)
  lines_keep bound fuel budget [] play good k = wider bound (bound + 0) (drain d r memory fuel fuel budget workers play) (omega arith) (drain_keeps bound fuel fuel budget play k)
  lines_keep bound fuel budget (line ∷ lines) play good k =
      go (line_done d r memory fuel budget workers play line) (line_keeps bound fuel budget play line good.0 k) (λ next k'. lines_keep (one_if_opens line + bound) fuel budget lines next good.1 k')
    where
      go : (o : Option (Play C A M)) → KeepsAfter (one_if_opens line + bound) o
          → ((next : Play C A M) → Keeps (one_if_opens line + bound) next → KeepsAfter ((one_if_opens line + bound) + openings lines) (lines_done d r memory fuel budget workers lines next))
          → KeepsAfter (bound + openings (line ∷ lines)) (option_and_then (λ next. lines_done d r memory fuel budget workers lines next) o)
      go None k each = tt
      go (Some next) k each = wider ((one_if_opens line + bound) + openings lines) (bound + openings (line ∷ lines)) (lines_done d r memory fuel budget workers lines next) (omega arith) (each next k)
