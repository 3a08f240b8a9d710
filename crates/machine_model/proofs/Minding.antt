-- What the loop knows of its own calls alone.
use Rattle.std.proofs.Common.{◌≡◌, ℕ, zero, suc, ◌+◌, ◌<◌, ◌≤◌, ◌⊎◌, Bool, true, false, ◌==◌, if◌then◌else◌, Option, None, Some, List, [], ◌∷◌, ◌++◌, length, slice_get, refl, sym, ap, ◌∙◌, subst, inl, inr, ⊎_elim, arith, append_assoc, append-nil, length-append, eqb, eq-eqb, ne_eqb, cond}
use Rattle.std.proofs.lemmas.Bool.{cases_eq, cases_lt, true≢false, false≢true, and_from, eqb-true, false_from_ne_true}
use Rattle.std.proofs.lemmas.Option.{none-some, same_Some, slice_get_past}
use Rattle.streams.specs.declared.outcomes.Settled.{Settled}
use Rattle.streams.specs.declared.outcomes.Settled.TheVariants.{Reply, Nothing, Close as Refused, NoMemory}
use Rattle.streams.specs.declared.marks.Mark.{Mark}
use Rattle.streams.specs.declared.marks.Mark.TheVariants.{Opened}
use Rattle.host_model.specs.declared.key.Key.{Key}
use Rattle.host_model.specs.declared.cause.EndCause.{EndCause}
use Rattle.host_model.specs.Frames.{ArePayloads, IsPayload}
use Rattle.host_model.specs.Journal.{ServiceRules}
use Rattle.host_model.proofs.Lists.{nil-cons, cons_parts}
use Rattle.call_history.specs.History.{IsHistory}
use Rattle.call_history.specs.Calls.{seat_ask, calls_by, ask_of, asks_of, AllAllowed}
use Rattle.call_history.specs.Laws.{calls_by-first, calls_by-first-other, IsHistory-front, AllAllowed-front, asks-append}
use Rattle.machine_model.specs.HallState.{is_same, HallState}
use Rattle.machine_model.specs.HallRule.{HallOperation, submit, take_job, apply, put, collect, close, HallAnswer, done, job, empty, is_closed, applied, no_memory, journal_fault, is_broken, outcome, HallGives}
use Rattle.machine_model.specs.OwnCalls.{HallCall, HallAsk, longest_payload, submits_key, any_of, adds_key, frees_key, summed_calls, OwnAsksAllow, HallMay}
use Rattle.machine_model.specs.SingleKeys.{adds_this_key, frees_this_key}
use Rattle.machine_model.specs.OwnLoop.{adds_of_conn, frees_of_conn, refuses_job, CollectsItsOwn}
use Rattle.machine_model.specs.Loop.{LoopConn, new_conn, Loop, count_if_open, open_among, most_connections, FrameProgress, part, bad_size, whole, read_more, with_conn, changed, ConnEvent, opens, reads, ends, fails_read, writes, fails_write, gives_up, Happens, submitted_more, conn_settled, IsOpen, IsProgress, LoopAsks}
use Rattle.machine_model.specs.Bounds.{sum_among, all_submitted, all_collected, NoneIsLeftBehind}
use Rattle.machine_model.specs.Merge.{LoopItem, handles, calls, no_loop, calls_in, Weaves}
use Rattle.machine_model.proofs.Lists.{put_same, put_other}
use Rattle.machine_model.proofs.Keys.{same_key}
use Rattle.machine_model.proofs.Owning.{number_push}
use Rattle.machine_model.proofs.Singling.{one_if, any_push, collected_once}
use Rattle.machine_model.proofs.Summing.{sum_outside, sum_changed, open_sum, sum_both, sum_below}

-- one, where a number is below another
abbrev one_before : ℕ → ℕ → ℕ
one_before i zero = 0
one_before zero (suc n) = 1
one_before (suc i) (suc n) = one_before i n

one_below : (i n : ℕ) → i < n → one_before i n ≡ 1
one_below i zero l = absurd (let f : ⊥ = omega arith in f)
one_below zero (suc n) l = refl
one_below (suc i) (suc n) l = one_below i n (omega arith)

none_past : (i n : ℕ) → n ≤ i → one_before i n ≡ 0
none_past i zero l = refl
none_past zero (suc n) l = absurd (let f : ⊥ = omega arith in f)
none_past (suc i) (suc n) l = none_past i n (omega arith)

one_more_below : (i n : ℕ) → (n ≡ i → ⊥) → one_before i (suc n) ≡ one_before i n
one_more_below i n other = go (cases_lt i n)
  where
    go : (i < n) ⊎ (n ≤ i) → one_before i (suc n) ≡ one_before i n
    go (inl l) = let a : one_before i (suc n) ≡ 1 = one_below i (suc n) (omega arith) in let b : one_before i n ≡ 1 = one_below i n l in a ∙ sym b
    go (inr l) = past (cases_lt n i)
      where
        past : (n < i) ⊎ (i ≤ n) → one_before i (suc n) ≡ one_before i n
        past (inl m) = let a : one_before i (suc n) ≡ 0 = none_past i (suc n) (omega arith) in let b : one_before i n ≡ 0 = none_past i n l in a ∙ sym b
        past (inr m) = absurd (other (omega arith))

-- numbers of which one is one more
abbrev bump : (ℕ → ℕ) → ℕ → ℕ → ℕ
bump f c x = if x == c then suc (f c) else f x

bump_same : (f : ℕ → ℕ) (c : ℕ) → bump f c c ≡ suc (f c)
bump_same f c = put_same f c (suc (f c))

bump_other : (f : ℕ → ℕ) (c x : ℕ) → (x ≡ c → ⊥) → bump f c x ≡ f x
bump_other f c x n = put_other f c (suc (f c)) x n

bump_by_conn : (f : ℕ → ℕ) (c x : ℕ) → bump f c x ≡ f x + (if c == x then 1 else 0)
bump_by_conn f c x = go (cases_eq x c)
  where
    go : (x ≡ c) ⊎ (x ≡ c → ⊥) → bump f c x ≡ f x + (if c == x then 1 else 0)
    go (inl e) =
        let a : bump f c x ≡ suc (f x) = subst (λ y. bump f y x ≡ suc (f x)) e (bump_same f x) in
        let b : one_if (c == x) ≡ 1 = ap one_if (eq-eqb c x (sym e)) in omega arith
    go (inr n) =
        let a : bump f c x ≡ f x = bump_other f c x n in
        let b : one_if (c == x) ≡ 0 = ap one_if (ne_eqb c x (λ q. n (sym q))) in omega arith

bump_by_key : (f : ℕ → ℕ) (key k : Key) → key.i ≡ f key.c → one_before k.i (bump f key.c k.c) ≡ one_before k.i (f k.c) + (if is_same key k then 1 else 0)
bump_by_key f key k is = go (is_same key k) refl
  where
    go : (b : Bool) → is_same key k ≡ b → one_before k.i (bump f key.c k.c) ≡ one_before k.i (f k.c) + (if b then 1 else 0)
    go true s =
        let e : key ≡ k = same_key key k s in
        let at : key.i ≡ f key.c = is in
        let new : bump f key.c key.c ≡ suc (f key.c) = bump_same f key.c in
        let a : one_before key.i (bump f key.c key.c) ≡ 1 = one_below key.i (bump f key.c key.c) (omega arith) in
        let b : one_before key.i (f key.c) ≡ 0 = none_past key.i (f key.c) (omega arith) in
        subst (λ (x : Key). one_before x.i (bump f key.c x.c) ≡ one_before x.i (f x.c) + 1) e (omega arith)
    go false s = other (cases_eq k.c key.c)
      where
        other : (k.c ≡ key.c) ⊎ (k.c ≡ key.c → ⊥) → one_before k.i (bump f key.c k.c) ≡ one_before k.i (f k.c) + 0
        other (inl e) =
            let new : bump f key.c k.c ≡ suc (f k.c) = subst (λ y. bump f y k.c ≡ suc (f k.c)) e (bump_same f k.c) in
            let apart : f k.c ≡ k.i → ⊥ = (λ q. true≢false (sym (and_from (key.c == k.c) (key.i == k.i) (eq-eqb key.c k.c (sym e)) (eq-eqb key.i k.i (is ∙ ap f (sym e) ∙ q))) ∙ s)) in
            let a : one_before k.i (suc (f k.c)) ≡ one_before k.i (f k.c) = one_more_below k.i (f k.c) apart in
            let b : one_before k.i (bump f key.c k.c) ≡ one_before k.i (suc (f k.c)) = ap (one_before k.i) new in omega arith
        other (inr n) = let b : one_before k.i (bump f key.c k.c) ≡ one_before k.i (f k.c) = ap (one_before k.i) (bump_other f key.c k.c n) in omega arith

-- a number that is bumped has not become less
bump_grows : (f : ℕ → ℕ) (c x : ℕ) → f x ≤ bump f c x
bump_grows f c x = let e : bump f c x ≡ f x + (if c == x then 1 else 0) = bump_by_conn f c x in omega arith

module _ {C A : Type 0} where
  -- where a seat's ask stands among all
  abbrev Stands : ℕ → List (HallAsk C A) → List (HallAsk C A) → HallAsk C A → Type 0
  Stands seat asks front a = (before after : List (HallAsk C A)) × (asks ≡ before ++ a ∷ after) × (calls_by seat before ≡ front)

  split_step : (seat : ℕ) (x : HallAsk C A) (asks front : List (HallAsk C A)) (a : HallAsk C A) (back : List (HallAsk C A)) (b : Bool) → eqb x.seat seat ≡ b
      → cond b (x ∷ calls_by seat asks) (calls_by seat asks) ≡ front ++ a ∷ back → ((front : List (HallAsk C A)) → calls_by seat asks ≡ front ++ a ∷ back → Stands seat asks front a)
      → Stands seat (x ∷ asks) front a
  split_step seat x asks [] a back true e h rec =
      let parts : (x ≡ a) × (calls_by seat asks ≡ back) = cons_parts x a (calls_by seat asks) back h in ([], asks, (λ i. parts.0 i ∷ asks), refl)
  split_step seat x asks (y ∷ ys) a back true e h rec =
      let parts : (x ≡ y) × (calls_by seat asks ≡ ys ++ a ∷ back) = cons_parts x y (calls_by seat asks) (ys ++ a ∷ back) h in
      let t : Stands seat asks ys a = rec ys parts.1 in
      (x ∷ t.0, t.1, ap (λ (l : List (HallAsk C A)). x ∷ l) t.2, calls_by-first seat x t.0 (eqb-true x.seat seat e) ∙ (λ i. parts.0 i ∷ t.3 i))
  split_step seat x asks front a back false e h rec =
      let t : Stands seat asks front a = rec front h in
      (x ∷ t.0, t.1, ap (λ (l : List (HallAsk C A)). x ∷ l) t.2, calls_by-first-other seat x t.0 (λ q. true≢false (sym (eq-eqb x.seat seat q) ∙ e)) ∙ t.3)

  none_there : (front : List (HallAsk C A)) (a : HallAsk C A) (back : List (HallAsk C A)) → [] ≡ front ++ a ∷ back → ⊥
  none_there [] a back e = nil-cons a back e
  none_there (x ∷ xs) a back e = nil-cons x (xs ++ a ∷ back) e

  split_own : (seat : ℕ) (asks front : List (HallAsk C A)) (a : HallAsk C A) (back : List (HallAsk C A)) → calls_by seat asks ≡ front ++ a ∷ back → Stands seat asks front a
  split_own seat [] front a back is = absurd (none_there front a back is)
  split_own seat (x ∷ asks) front a back is = split_step seat x asks front a back (eqb x.seat seat) refl is (λ front h. split_own seat asks front a back h)

  own_once : (key : Key) (mine front : List (HallAsk C A)) → mine ≡ front → summed_calls (adds_this_key key) mine ≡ 1 → summed_calls (frees_this_key key) mine ≡ 0
      → (summed_calls (adds_this_key key) front ≡ 1) × (summed_calls (frees_this_key key) front ≡ 0)
  own_once key mine front same adds frees = (subst (λ own. summed_calls (adds_this_key key) own ≡ 1) same adds, subst (λ own. summed_calls (frees_this_key key) own ≡ 0) same frees)

module _ {C A M : Type 0} where
  -- a front of the asks is that of a front of the calls
  split_asks : (log : List (HallCall C A M)) (xs ys : List (HallAsk C A)) → asks_of log ≡ xs ++ ys → (front back : List (HallCall C A M)) × (log ≡ front ++ back) × (asks_of front ≡ xs)
  split_asks log [] ys is = ([], log, refl, refl)
  split_asks [] (x ∷ xs) ys is = absurd (nil-cons x (xs ++ ys) is)
  split_asks (e ∷ log) (x ∷ xs) ys is =
      let parts : (ask_of e ≡ x) × (asks_of log ≡ xs ++ ys) = cons_parts (ask_of e) x (asks_of log) (xs ++ ys) is in
      let t : (front back : List (HallCall C A M)) × (log ≡ front ++ back) × (asks_of front ≡ xs) = split_asks log xs ys parts.1 in
      (e ∷ t.0, t.1, ap (λ (l : List (HallCall C A M)). e ∷ l) t.2, (λ i. parts.0 i ∷ t.3 i))

  -- in a history whose calls were allowed seat 0 collects its own
  pub collects_own : (r : ServiceRules C A M) (opening : HallState C A M) (log : List (HallCall C A M)) → IsHistory (HallGives r) opening log → AllAllowed (HallMay r) opening (asks_of log)
      → CollectsItsOwn (calls_by 0 (asks_of log))
  collects_own r opening log history allowed front back seat key settled is =
      let a : HallAsk C A = seat_ask seat collect (outcome key settled) in
      let t : Stands 0 (asks_of log) front a = split_own 0 (asks_of log) front a back is in
      let u : (one other : List (HallCall C A M)) × (log ≡ one ++ other) × (asks_of one ≡ t.0 ++ a ∷ []) =
      split_asks log (t.0 ++ a ∷ []) t.1 (t.2 ∙ sym (append_assoc t.0 (a ∷ []) t.1)) in
      let v : (summed_calls (adds_this_key key) (calls_by 0 t.0) ≡ 1) × ((other : ℕ) → summed_calls (frees_this_key key) (calls_by other t.0) ≡ 0) =
      collected_once r opening u.0 t.0 seat key settled (IsHistory-front (HallGives r) opening u.0 u.1 (subst (IsHistory (HallGives r) opening) u.2 history))
      (AllAllowed-front (HallMay r) opening (asks_of u.0) (asks_of u.1) (subst (AllAllowed (HallMay r) opening) (ap asks_of u.2 ∙ asks-append u.0 u.1) allowed)) u.3 in
      own_once key (calls_by 0 t.0) front t.3 v.0 (v.1 0)

module _ {C A : Type 0} where
  -- the loop's numbers, as its own asks have them
  record Counts (own : List (HallAsk C A)) (s k : ℕ → ℕ) : Type 0 where
    submitted : (c : ℕ) → summed_calls (adds_of_conn c) own ≡ s c
    collected : (c : ℕ) → summed_calls (frees_of_conn c) own ≡ k c
    added : (x : Key) → summed_calls (adds_this_key x) own ≡ one_before x.i (s x.c)
    freed : (x : Key) → summed_calls (frees_this_key x) own ≡ one_before x.i (k x.c)
    asked : (x : Key) → any_of (submits_key x) own ≡ true → (x.i < s x.c) ⊎ (1 ≤ summed_calls refuses_job own)

  -- an ask that submits nothing and collects nothing
  record Quiet (op : HallOperation C) (answer : HallAnswer A) : Type 0 where
    no_job : (c : ℕ) → adds_of_conn c op answer ≡ 0
    no_outcome : (c : ℕ) → frees_of_conn c op answer ≡ 0
    no_key : (x : Key) → adds_this_key x op answer ≡ 0
    no_freed : (x : Key) → frees_this_key x op answer ≡ 0
    none_added : adds_key op answer ≡ 0
    none_freed : frees_key op answer ≡ 0
    refuses : (x : Key) → submits_key x op ≡ true → refuses_job op answer ≡ 1

  more_refused : (own : List (HallAsk C A)) (e : HallAsk C A) → 1 ≤ summed_calls refuses_job own → 1 ≤ summed_calls refuses_job (own ++ e ∷ [])
  more_refused own e l = let p : summed_calls refuses_job (own ++ e ∷ []) ≡ summed_calls refuses_job own + refuses_job e.op e.reply = number_push refuses_job own e in omega arith

  counts_same : (own : List (HallAsk C A)) (s k : ℕ → ℕ) (e : HallAsk C A) → Quiet e.op e.reply → Counts own s k → Counts (own ++ e ∷ []) s k
  counts_same own s k e q n = record {
    submitted = λ c. let p : summed_calls (adds_of_conn c) (own ++ e ∷ []) ≡ summed_calls (adds_of_conn c) own + adds_of_conn c e.op e.reply = number_push (adds_of_conn c) own e in
        let z : adds_of_conn c e.op e.reply ≡ 0 = q.no_job c in let b : summed_calls (adds_of_conn c) own ≡ s c = n.submitted c in omega arith;
    collected = λ c. let p : summed_calls (frees_of_conn c) (own ++ e ∷ []) ≡ summed_calls (frees_of_conn c) own + frees_of_conn c e.op e.reply = number_push (frees_of_conn c) own e in
        let z : frees_of_conn c e.op e.reply ≡ 0 = q.no_outcome c in let b : summed_calls (frees_of_conn c) own ≡ k c = n.collected c in omega arith;
    added = λ x. let p : summed_calls (adds_this_key x) (own ++ e ∷ []) ≡ summed_calls (adds_this_key x) own + adds_this_key x e.op e.reply = number_push (adds_this_key x) own e in
        let z : adds_this_key x e.op e.reply ≡ 0 = q.no_key x in let b : summed_calls (adds_this_key x) own ≡ one_before x.i (s x.c) = n.added x in omega arith;
    freed = λ x. let p : summed_calls (frees_this_key x) (own ++ e ∷ []) ≡ summed_calls (frees_this_key x) own + frees_this_key x e.op e.reply = number_push (frees_this_key x) own e in
        let z : frees_this_key x e.op e.reply ≡ 0 = q.no_freed x in let b : summed_calls (frees_this_key x) own ≡ one_before x.i (k x.c) = n.freed x in omega arith;
    asked = λ x h. ⊎_elim (λ f. ⊎_elim (λ l. inl l) (λ l. inr (more_refused own e l)) (n.asked x f)) (λ f. inr (refused x f)) (any_push (submits_key x) own e h);
  }
    where
      refused : (x : Key) → submits_key x e.op ≡ true → 1 ≤ summed_calls refuses_job (own ++ e ∷ [])
      refused x f =
          let p : summed_calls refuses_job (own ++ e ∷ []) ≡ summed_calls refuses_job own + refuses_job e.op e.reply = number_push refuses_job own e in
          let one : refuses_job e.op e.reply ≡ 1 = q.refuses x f in omega arith

  counts_submit : (own : List (HallAsk C A)) (s k : ℕ → ℕ) (seat : ℕ) (key : Key) (payload : List ℕ) → key.i ≡ s key.c → Counts own s k → Counts (own ++ seat_ask seat (submit key payload) done ∷ []) (bump s key.c) k
  counts_submit own s k seat key payload is n = record {
    submitted = λ c. let p : summed_calls (adds_of_conn c) (own ++ e ∷ []) ≡ summed_calls (adds_of_conn c) own + (if key.c == c then 1 else 0) = number_push (adds_of_conn c) own e in
        let b : summed_calls (adds_of_conn c) own ≡ s c = n.submitted c in let m : bump s key.c c ≡ s c + (if key.c == c then 1 else 0) = bump_by_conn s key.c c in omega arith;
    collected = λ c. let p : summed_calls (frees_of_conn c) (own ++ e ∷ []) ≡ summed_calls (frees_of_conn c) own + 0 = number_push (frees_of_conn c) own e in
        let b : summed_calls (frees_of_conn c) own ≡ k c = n.collected c in omega arith;
    added = λ x. let p : summed_calls (adds_this_key x) (own ++ e ∷ []) ≡ summed_calls (adds_this_key x) own + (if is_same key x then 1 else 0) = number_push (adds_this_key x) own e in
        let b : summed_calls (adds_this_key x) own ≡ one_before x.i (s x.c) = n.added x in
        let m : one_before x.i (bump s key.c x.c) ≡ one_before x.i (s x.c) + (if is_same key x then 1 else 0) = bump_by_key s key x is in omega arith;
    freed = λ x. let p : summed_calls (frees_this_key x) (own ++ e ∷ []) ≡ summed_calls (frees_this_key x) own + 0 = number_push (frees_this_key x) own e in
        let b : summed_calls (frees_this_key x) own ≡ one_before x.i (k x.c) = n.freed x in omega arith;
    asked = λ x h. ⊎_elim (λ f. ⊎_elim (λ l. inl (grown x l)) (λ l. inr (more_refused own e l)) (n.asked x f)) (λ f. inl (now x f)) (any_push (submits_key x) own e h);
  }
    where
      e : HallAsk C A
      e = seat_ask seat (submit key payload) done

      grown : (x : Key) → x.i < s x.c → x.i < bump s key.c x.c
      grown x l = let g : s x.c ≤ bump s key.c x.c = bump_grows s key.c x.c in omega arith

      now : (x : Key) → is_same key x ≡ true → x.i < bump s key.c x.c
      now x f =
          let new : bump s key.c key.c ≡ suc (s key.c) = bump_same s key.c in
          let at : key.i ≡ s key.c = is in
          let l : key.i < bump s key.c key.c = omega arith in
          subst (λ (y : Key). y.i < bump s key.c y.c) (same_key key x f) l

  counts_collect : (own : List (HallAsk C A)) (s k : ℕ → ℕ) (seat : ℕ) (key : Key) (settled : Settled) → key.i ≡ k key.c → Counts own s k → Counts (own ++ seat_ask seat collect (outcome key settled) ∷ []) s (bump k key.c)
  counts_collect own s k seat key settled is n = record {
    submitted = λ c. let p : summed_calls (adds_of_conn c) (own ++ e ∷ []) ≡ summed_calls (adds_of_conn c) own + 0 = number_push (adds_of_conn c) own e in
        let b : summed_calls (adds_of_conn c) own ≡ s c = n.submitted c in omega arith;
    collected = λ c. let p : summed_calls (frees_of_conn c) (own ++ e ∷ []) ≡ summed_calls (frees_of_conn c) own + (if key.c == c then 1 else 0) = number_push (frees_of_conn c) own e in
        let b : summed_calls (frees_of_conn c) own ≡ k c = n.collected c in let m : bump k key.c c ≡ k c + (if key.c == c then 1 else 0) = bump_by_conn k key.c c in omega arith;
    added = λ x. let p : summed_calls (adds_this_key x) (own ++ e ∷ []) ≡ summed_calls (adds_this_key x) own + 0 = number_push (adds_this_key x) own e in
        let b : summed_calls (adds_this_key x) own ≡ one_before x.i (s x.c) = n.added x in omega arith;
    freed = λ x. let p : summed_calls (frees_this_key x) (own ++ e ∷ []) ≡ summed_calls (frees_this_key x) own + (if is_same key x then 1 else 0) = number_push (frees_this_key x) own e in
        let b : summed_calls (frees_this_key x) own ≡ one_before x.i (k x.c) = n.freed x in
        let m : one_before x.i (bump k key.c x.c) ≡ one_before x.i (k x.c) + (if is_same key x then 1 else 0) = bump_by_key k key x is in omega arith;
    asked = λ x h. ⊎_elim (λ f. ⊎_elim (λ l. inl l) (λ l. inr (more_refused own e l)) (n.asked x f)) (λ f. absurd (false≢true f)) (any_push (submits_key x) own e h);
  }
    where
      e : HallAsk C A
      e = seat_ask seat collect (outcome key settled)

-- a connection's payloads, of which one at most is under way
record ConnStands (max : ℕ) (conn : LoopConn) : Type 0 where
  first : conn.collected ≤ conn.submitted
  second : conn.submitted ≤ length conn.payloads
  third : length conn.payloads ≤ suc conn.collected
  each : ArePayloads max conn.payloads

stands_like : (max : ℕ) (conn other : LoopConn) → ConnStands max conn → other.submitted ≡ conn.submitted → other.collected ≡ conn.collected → other.payloads ≡ conn.payloads → ConnStands max other
stands_like max conn other st s k p =
    let a : conn.collected ≤ conn.submitted = st.first in
    let b : conn.submitted ≤ length conn.payloads = st.second in
    let c : length conn.payloads ≤ suc conn.collected = st.third in
    let l : length other.payloads ≡ length conn.payloads = ap length p in
    record { first = omega arith; second = omega arith; third = omega arith; each = subst (ArePayloads max) (sym p) st.each }

payloads_push : (max : ℕ) (payloads : List (List ℕ)) (payload : List ℕ) → ArePayloads max payloads → IsPayload max payload → ArePayloads max (payloads ++ payload ∷ [])
payloads_push max [] payload each is = (is, tt)
payloads_push max (p ∷ payloads) payload each is = (each.0, payloads_push max payloads payload each.1 is)

payload_among : (max : ℕ) (payloads : List (List ℕ)) (i : ℕ) (payload : List ℕ) → ArePayloads max payloads → slice_get payloads i ≡ Some payload → IsPayload max payload
payload_among max [] i payload each e = absurd (none-some payload e)
payload_among max (p ∷ payloads) zero payload each e = subst (IsPayload max) (same_Some p payload e) each.0
payload_among max (p ∷ payloads) (suc i) payload each e = payload_among max payloads i payload each.1 e

there_is : (payloads : List (List ℕ)) (i : ℕ) (payload : List ℕ) → slice_get payloads i ≡ Some payload → i < length payloads
there_is payloads i payload e = ⊎_elim (λ l. l) (λ l. absurd (none-some payload (sym (slice_get_past payloads i l) ∙ e))) (cases_lt i (length payloads))

-- a number of each connection, where one changes
same_at : (f : LoopConn → ℕ) (conns : ℕ → LoopConn) (c : ℕ) (conn : LoopConn) → f conn ≡ f (conns c) → (x : ℕ) → f (conns x) ≡ f (with_conn conns c conn x)
same_at f conns c conn e x = go (cases_eq x c)
  where
    go : (x ≡ c) ⊎ (x ≡ c → ⊥) → f (conns x) ≡ f (with_conn conns c conn x)
    go (inl q) = subst (λ y. f (conns y) ≡ f (with_conn conns c conn y)) (sym q) (sym e ∙ sym (ap f (put_same conns c conn)))
    go (inr n) = sym (ap f (put_other conns c conn x n))

bumped_at : (f : LoopConn → ℕ) (conns : ℕ → LoopConn) (c : ℕ) (conn : LoopConn) → f conn ≡ suc (f (conns c)) → (x : ℕ) → bump (λ y. f (conns y)) c x ≡ f (with_conn conns c conn x)
bumped_at f conns c conn e x = go (cases_eq x c)
  where
    go : (x ≡ c) ⊎ (x ≡ c → ⊥) → bump (λ y. f (conns y)) c x ≡ f (with_conn conns c conn x)
    go (inl q) = subst (λ y. bump (λ z. f (conns z)) c y ≡ f (with_conn conns c conn y)) (sym q) (bump_same (λ y. f (conns y)) c ∙ sym e ∙ sym (ap f (put_same conns c conn)))
    go (inr n) = bump_other (λ y. f (conns y)) c x n ∙ sym (ap f (put_other conns c conn x n))

stands_at : (max : ℕ) (conns : ℕ → LoopConn) (c : ℕ) (conn : LoopConn) → ((x : ℕ) → ConnStands max (conns x)) → ConnStands max conn → (x : ℕ) → ConnStands max (with_conn conns c conn x)
stands_at max conns c conn all one x = go (cases_eq x c)
  where
    go : (x ≡ c) ⊎ (x ≡ c → ⊥) → ConnStands max (with_conn conns c conn x)
    go (inl q) = subst (λ y. ConnStands max (with_conn conns c conn y)) (sym q) (subst (ConnStands max) (sym (put_same conns c conn)) one)
    go (inr n) = subst (ConnStands max) (sym (put_other conns c conn x n)) (all x)

abbrev submitted_of : LoopConn → ℕ
submitted_of conn = conn.submitted

abbrev collected_of : LoopConn → ℕ
collected_of conn = conn.collected

abbrev opens_of : LoopConn → ℕ
opens_of conn = count_if_open conn.cause

-- an outcome of its own is that of a connection's one payload that is under way
below_one : (i n : ℕ) → one_before i n ≡ 1 → i < n
below_one i n e = ⊎_elim (λ l. l) (λ l. absurd (let z : one_before i n ≡ 0 = none_past i n l in let g : ⊥ = omega arith in g)) (cases_lt i n)

past_none : (i n : ℕ) → one_before i n ≡ 0 → n ≤ i
past_none i n e = ⊎_elim (λ l. absurd (let z : one_before i n ≡ 1 = one_below i n l in let g : ⊥ = omega arith in g)) (λ l. l) (cases_lt i n)

-- what Collect makes of a connection
settled_numbers : (conn : LoopConn) (settled : Settled) (cause : Option EndCause) → cause ≡ conn.cause
    → ((conn_settled cause settled conn).submitted ≡ conn.submitted) × ((conn_settled cause settled conn).collected ≡ suc conn.collected) × ((conn_settled cause settled conn).payloads ≡ conn.payloads)
    × (count_if_open (conn_settled cause settled conn).cause ≤ count_if_open conn.cause)
settled_numbers conn (Reply reply) None e = (refl, refl, refl, omega arith)
settled_numbers conn Nothing None e = (refl, refl, refl, omega arith)
settled_numbers conn (Refused fault) None e = (refl, refl, refl, omega arith)
settled_numbers conn NoMemory None e = (refl, refl, refl, omega arith)
settled_numbers conn settled (Some cause) e = (refl, refl, refl, omega arith)

cases_open : (cause : Option EndCause) → (cause ≡ None) ⊎ (cause ≡ None → ⊥)
cases_open None = inl refl
cases_open (Some cause) = inr (λ e. none-some cause (sym e))

module _ {C A : Type 0} (max : ℕ) where
  -- what the loop knows of itself
  record Minds (own : List (HallAsk C A)) (loop : Loop) : Type 0 where
    counts : Counts own (λ c. (loop.conns c).submitted) (λ c. (loop.conns c).collected)
    all_added : summed_calls adds_key own ≡ all_submitted loop
    all_freed : summed_calls frees_key own ≡ all_collected loop
    most : open_among loop.conns loop.count ≤ most_connections
    stands : (c : ℕ) → ConnStands max (loop.conns c)
    unopened : (c : ℕ) → loop.count ≤ c → ((loop.conns c).submitted ≡ 0) × ((loop.conns c).collected ≡ 0)

  -- a connection changes
  changed_minds : (own later : List (HallAsk C A)) (old : Loop) (c : ℕ) (conn : LoopConn) (marks : List Mark) (a f : ℕ) → Minds own old → c < old.count
      → Counts later (λ x. (with_conn old.conns c conn x).submitted) (λ x. (with_conn old.conns c conn x).collected)
      → summed_calls adds_key later ≡ summed_calls adds_key own + a → summed_calls frees_key later ≡ summed_calls frees_key own + f
      → conn.submitted ≡ (old.conns c).submitted + a → conn.collected ≡ (old.conns c).collected + f
      → count_if_open conn.cause ≤ count_if_open (old.conns c).cause → ConnStands max conn → Minds later (changed old c conn marks)
  changed_minds own later old c conn marks a f m l counts adds frees s k o st =
      let n : ℕ = old.count in
      let open_before : open_among old.conns n ≤ most_connections = m.most in
      let oa : open_among (with_conn old.conns c conn) n ≡ sum_among opens_of (with_conn old.conns c conn) n = open_sum (with_conn old.conns c conn) n in
      let ob : open_among old.conns n ≡ sum_among opens_of old.conns n = open_sum old.conns n in
      let oc : sum_among opens_of (with_conn old.conns c conn) n + count_if_open (old.conns c).cause ≡ sum_among opens_of old.conns n + count_if_open conn.cause = sum_changed opens_of old.conns c conn n l in
      let sc : sum_among submitted_of (with_conn old.conns c conn) n + (old.conns c).submitted ≡ all_submitted old + conn.submitted = sum_changed submitted_of old.conns c conn n l in
      let kc : sum_among collected_of (with_conn old.conns c conn) n + (old.conns c).collected ≡ all_collected old + conn.collected = sum_changed collected_of old.conns c conn n l in
      let added : summed_calls adds_key own ≡ all_submitted old = m.all_added in
      let freed : summed_calls frees_key own ≡ all_collected old = m.all_freed in
      record {
        counts = counts;
        all_added = omega arith;
        all_freed = omega arith;
        most = omega arith;
        stands = stands_at max old.conns c conn m.stands st;
        unopened = λ x past. subst (λ (y : LoopConn). (y.submitted ≡ 0) × (y.collected ≡ 0)) (sym (put_other old.conns c conn x (λ q. let g : ⊥ = omega arith in g))) (m.unopened x past);
      }

  -- but for what it has submitted and collected
  conn_minds : (own : List (HallAsk C A)) (old : Loop) (c : ℕ) (conn : LoopConn) (marks : List Mark) → Minds own old → c < old.count → conn.submitted ≡ (old.conns c).submitted → conn.collected ≡ (old.conns c).collected
      → count_if_open conn.cause ≤ count_if_open (old.conns c).cause → ConnStands max conn → Minds own (changed old c conn marks)
  conn_minds own old c conn marks m l s k o st =
      changed_minds own own old c conn marks 0 0 m l
      (subst (λ (t : (ℕ → ℕ) × (ℕ → ℕ)). Counts own t.0 t.1) (λ i. (λ x. same_at submitted_of old.conns c conn s x i, λ x. same_at collected_of old.conns c conn k x i)) m.counts)
      (omega arith) (omega arith) (omega arith) (omega arith) o st

  opened_minds : (own : List (HallAsk C A)) (old : Loop) (marks : List Mark) → Minds own old → open_among old.conns old.count < most_connections
      → Minds own (record { tape = old.tape ++ marks; count = suc old.count; conns = with_conn old.conns old.count new_conn })
  opened_minds own old marks m l =
      let n : ℕ = old.count in
      let next : ℕ → LoopConn = with_conn old.conns n new_conn in
      let at : next n ≡ new_conn = put_same old.conns n new_conn in
      let none : ((old.conns n).submitted ≡ 0) × ((old.conns n).collected ≡ 0) = m.unopened n (omega arith) in
      let oa : open_among next n ≡ sum_among opens_of next n = open_sum next n in
      let ob : open_among old.conns n ≡ sum_among opens_of old.conns n = open_sum old.conns n in
      let oc : sum_among opens_of next n ≡ sum_among opens_of old.conns n = sum_outside opens_of old.conns n new_conn n (omega arith) in
      let sc : sum_among submitted_of next n ≡ all_submitted old = sum_outside submitted_of old.conns n new_conn n (omega arith) in
      let kc : sum_among collected_of next n ≡ all_collected old = sum_outside collected_of old.conns n new_conn n (omega arith) in
      let ot : count_if_open (next n).cause ≡ 1 = ap opens_of at in
      let st : (next n).submitted ≡ 0 = ap submitted_of at in
      let kt : (next n).collected ≡ 0 = ap collected_of at in
      let added : summed_calls adds_key own ≡ all_submitted old = m.all_added in
      let freed : summed_calls frees_key own ≡ all_collected old = m.all_freed in
      record {
        counts = subst (λ (t : (ℕ → ℕ) × (ℕ → ℕ)). Counts own t.0 t.1) (λ i. (λ x. same_at submitted_of old.conns n new_conn (sym none.0) x i, λ x. same_at collected_of old.conns n new_conn (sym none.1) x i)) m.counts;
        all_added = omega arith;
        all_freed = omega arith;
        most = omega arith;
        stands = stands_at max old.conns n new_conn m.stands (record { first = omega arith; second = omega arith; third = omega arith; each = tt });
        unopened = λ x past. subst (λ (y : LoopConn). (y.submitted ≡ 0) × (y.collected ≡ 0)) (sym (put_other old.conns n new_conn x (λ q. let g : ⊥ = omega arith in g))) (m.unopened x (omega arith));
      }

  -- what happens on a connection
  read_minds : (own : List (HallAsk C A)) (old : Loop) (c : ℕ) (bytes : List ℕ) (progress : FrameProgress) (marks : List Mark) → Minds own old → IsOpen old c → (old.conns c).collected ≡ length (old.conns c).payloads
      → IsProgress max ((old.conns c).held ++ bytes) progress → Minds own (changed old c (read_more (old.conns c) bytes progress) marks)
  read_minds own old c bytes part marks m is all p =
      conn_minds own old c (read_more (old.conns c) bytes part) marks m is.0 refl refl (omega arith) (stands_like max (old.conns c) (read_more (old.conns c) bytes part) (m.stands c) refl refl refl)
  read_minds own old c bytes (bad_size size) marks m is all p =
      conn_minds own old c (read_more (old.conns c) bytes (bad_size size)) marks m is.0 refl refl (omega arith) (stands_like max (old.conns c) (read_more (old.conns c) bytes (bad_size size)) (m.stands c) refl refl refl)
  read_minds own old c bytes (whole payload) marks m is all p =
      let st : ConnStands max (old.conns c) = m.stands c in
      let a : (old.conns c).collected ≤ (old.conns c).submitted = st.first in
      let b : (old.conns c).submitted ≤ length (old.conns c).payloads = st.second in
      let more : length ((old.conns c).payloads ++ payload ∷ []) ≡ length (old.conns c).payloads + 1 = length-append (old.conns c).payloads (payload ∷ []) in
      conn_minds own old c (read_more (old.conns c) bytes (whole payload)) marks m is.0 refl refl (omega arith)
      (record { first = omega arith; second = omega arith; third = omega arith; each = payloads_push max (old.conns c).payloads payload st.each p.0 })

  event_minds : (own : List (HallAsk C A)) (old : Loop) (conn_event : ConnEvent) (new : Loop) → Minds own old → Happens max old conn_event new → Minds own new
  event_minds own old opens new m t = subst (Minds own) (sym t.1) (opened_minds own old (Opened old.count ∷ []) m t.0)
  event_minds own old (reads c bytes) new m t = subst (Minds own) (sym t.6) (read_minds own old c bytes t.0 _ m t.1 t.2.0 t.5)
  event_minds own old (ends c) new m t = subst (Minds own) (sym t.2) (conn_minds own old c _ _ m t.0.0 refl refl (omega arith) (stands_like max (old.conns c) _ (m.stands c) refl refl refl))
  event_minds own old (fails_read c) new m t = subst (Minds own) (sym t.2) (conn_minds own old c _ _ m t.0.0 refl refl (omega arith) (stands_like max (old.conns c) _ (m.stands c) refl refl refl))
  event_minds own old (writes c count) new m t = subst (Minds own) (sym t.3) (conn_minds own old c _ _ m t.0.0 refl refl (omega arith) (stands_like max (old.conns c) _ (m.stands c) refl refl refl))
  event_minds own old (fails_write c) new m t = subst (Minds own) (sym t.2) (conn_minds own old c _ _ m t.0.0 refl refl (omega arith) (stands_like max (old.conns c) _ (m.stands c) refl refl refl))
  event_minds own old (gives_up c cause) new m t = subst (Minds own) (sym t.2) (conn_minds own old c _ _ m t.0.0 refl refl (omega arith) (stands_like max (old.conns c) _ (m.stands c) refl refl refl))

  own_outcome : (own : List (HallAsk C A)) (loop : Loop) (key : Key) → Minds own loop → summed_calls (adds_this_key key) own ≡ 1 → summed_calls (frees_this_key key) own ≡ 0
      → (key.c < loop.count) × (key.i ≡ (loop.conns key.c).collected) × ((loop.conns key.c).submitted ≡ suc key.i) × (length (loop.conns key.c).payloads ≡ suc key.i)
  own_outcome own loop key m adds frees =
      let conn : LoopConn = loop.conns key.c in
      let low : key.i < (loop.conns key.c).submitted = below_one key.i (loop.conns key.c).submitted (sym (m.counts.added key) ∙ adds) in
      let high : (loop.conns key.c).collected ≤ key.i = past_none key.i (loop.conns key.c).collected (sym (m.counts.freed key) ∙ frees) in
      let b : (loop.conns key.c).submitted ≤ length (loop.conns key.c).payloads = (m.stands key.c).second in
      let t : length (loop.conns key.c).payloads ≤ suc (loop.conns key.c).collected = (m.stands key.c).third in (
        ⊎_elim (λ l. l) (λ past. absurd (let z : (loop.conns key.c).submitted ≡ 0 = (m.unopened key.c past).0 in let g : ⊥ = omega arith in g)) (cases_lt key.c loop.count),
        omega arith,
        omega arith,
        omega arith,
      )

  submit_minds : (own : List (HallAsk C A)) (old : Loop) (seat : ℕ) (key : Key) (payload : List ℕ) → Minds own old → key.c < old.count → key.i ≡ (old.conns key.c).submitted → slice_get (old.conns key.c).payloads key.i ≡ Some payload
      → Minds (own ++ seat_ask seat (submit key payload) done ∷ []) (changed old key.c (submitted_more (old.conns key.c)) [])
  submit_minds own old seat key payload m l is there =
      let e : HallAsk C A = seat_ask seat (submit key payload) done in
      let low : key.i < length (old.conns key.c).payloads = there_is (old.conns key.c).payloads key.i payload there in
      let at : key.i ≡ (old.conns key.c).submitted = is in
      let a : (old.conns key.c).collected ≤ (old.conns key.c).submitted = (m.stands key.c).first in
      let t : length (old.conns key.c).payloads ≤ suc (old.conns key.c).collected = (m.stands key.c).third in
      let adds : summed_calls adds_key (own ++ e ∷ []) ≡ summed_calls adds_key own + 1 = number_push adds_key own e in
      let frees : summed_calls frees_key (own ++ e ∷ []) ≡ summed_calls frees_key own + 0 = number_push frees_key own e in
      changed_minds own (own ++ e ∷ []) old key.c (submitted_more (old.conns key.c)) [] 1 0 m l
      (subst (λ (t : (ℕ → ℕ) × (ℕ → ℕ)). Counts (own ++ e ∷ []) t.0 t.1)
      (λ i. (λ x. bumped_at submitted_of old.conns key.c (submitted_more (old.conns key.c)) refl x i, λ x. same_at collected_of old.conns key.c (submitted_more (old.conns key.c)) refl x i))
      (counts_submit own (λ c. (old.conns c).submitted) (λ c. (old.conns c).collected) seat key payload is m.counts))
      adds frees (omega arith) (omega arith) (omega arith) (record { first = omega arith; second = omega arith; third = omega arith; each = (m.stands key.c).each })

  collect_minds : (own : List (HallAsk C A)) (old : Loop) (seat : ℕ) (key : Key) (settled : Settled) (marks : List Mark) → Minds own old → summed_calls (adds_this_key key) own ≡ 1 → summed_calls (frees_this_key key) own ≡ 0
      → Minds (own ++ seat_ask seat collect (outcome key settled) ∷ []) (changed old key.c (conn_settled (old.conns key.c).cause settled (old.conns key.c)) marks)
  collect_minds own old seat key settled marks m adds_one frees_none =
      let e : HallAsk C A = seat_ask seat collect (outcome key settled) in
      let conn : LoopConn = conn_settled (old.conns key.c).cause settled (old.conns key.c) in
      let t : (key.c < old.count) × (key.i ≡ (old.conns key.c).collected) × ((old.conns key.c).submitted ≡ suc key.i) × (length (old.conns key.c).payloads ≡ suc key.i) = own_outcome own old key m adds_one frees_none in
      let n : (conn.submitted ≡ (old.conns key.c).submitted) × (conn.collected ≡ suc (old.conns key.c).collected) × (conn.payloads ≡ (old.conns key.c).payloads) × (count_if_open conn.cause ≤ count_if_open (old.conns key.c).cause) =
      settled_numbers (old.conns key.c) settled (old.conns key.c).cause refl in
      let t1 : key.i ≡ (old.conns key.c).collected = t.1 in
      let t2 : (old.conns key.c).submitted ≡ suc key.i = t.2 in
      let t3 : length (old.conns key.c).payloads ≡ suc key.i = t.3 in
      let n0 : conn.submitted ≡ (old.conns key.c).submitted = n.0 in
      let n1 : conn.collected ≡ suc (old.conns key.c).collected = n.1 in
      let n2 : length conn.payloads ≡ length (old.conns key.c).payloads = ap length n.2 in
      let adds : summed_calls adds_key (own ++ e ∷ []) ≡ summed_calls adds_key own + 0 = number_push adds_key own e in
      let frees : summed_calls frees_key (own ++ e ∷ []) ≡ summed_calls frees_key own + 1 = number_push frees_key own e in
      changed_minds own (own ++ e ∷ []) old key.c conn marks 0 1 m t.0
      (subst (λ (t : (ℕ → ℕ) × (ℕ → ℕ)). Counts (own ++ e ∷ []) t.0 t.1)
      (λ i. (λ x. same_at submitted_of old.conns key.c conn n.0 x i, λ x. bumped_at collected_of old.conns key.c conn n.1 x i))
      (counts_collect own (λ c. (old.conns c).submitted) (λ c. (old.conns c).collected) seat key settled t.1 m.counts))
      adds frees (omega arith) (omega arith) n.3 (record { first = omega arith; second = omega arith; third = omega arith; each = subst (ArePayloads max) (sym n.2) (m.stands key.c).each })

  -- an ask that changes nothing
  quiet_minds : (own : List (HallAsk C A)) (old new : Loop) (seat : ℕ) (op : HallOperation C) (answer : HallAnswer A) → new ≡ old → Quiet op answer → Minds own old → Minds (own ++ seat_ask seat op answer ∷ []) new
  quiet_minds own old new seat op answer is q m =
      let e : HallAsk C A = seat_ask seat op answer in
      let adds : summed_calls adds_key (own ++ e ∷ []) ≡ summed_calls adds_key own + adds_key op answer = number_push adds_key own e in
      let frees : summed_calls frees_key (own ++ e ∷ []) ≡ summed_calls frees_key own + frees_key op answer = number_push frees_key own e in
      let no_adds : adds_key op answer ≡ 0 = q.none_added in
      let no_frees : frees_key op answer ≡ 0 = q.none_freed in
      let added : summed_calls adds_key own ≡ all_submitted old = m.all_added in
      let freed : summed_calls frees_key own ≡ all_collected old = m.all_freed in
      subst (Minds (own ++ e ∷ [])) (sym is)
      (record {
        counts = counts_same own (λ c. (old.conns c).submitted) (λ c. (old.conns c).collected) e q m.counts;
        all_added = omega arith;
        all_freed = omega arith;
        most = m.most;
        stands = m.stands;
        unopened = m.unopened;
      })

  ask_minds : (own : List (HallAsk C A)) (old : Loop) (seat : ℕ) (op : HallOperation C) (answer : HallAnswer A) (new : Loop) → Minds own old → LoopAsks old op answer new
      → ((key : Key) (settled : Settled) → op ≡ collect → answer ≡ outcome key settled → (summed_calls (adds_this_key key) own ≡ 1) × (summed_calls (frees_this_key key) own ≡ 0))
      → Minds (own ++ seat_ask seat op answer ∷ []) new
  ask_minds own old seat (submit key payload) done new m t once = subst (Minds (own ++ seat_ask seat (submit key payload) done ∷ [])) (sym t.3) (submit_minds own old seat key payload m t.0 t.1 t.2)
  ask_minds own old seat collect (outcome key settled) new m t once =
      let o : (summed_calls (adds_this_key key) own ≡ 1) × (summed_calls (frees_this_key key) own ≡ 0) = once key settled refl refl in
      subst (Minds (own ++ seat_ask seat collect (outcome key settled) ∷ [])) (sym t) (collect_minds own old seat key settled _ m o.0 o.1)
  ask_minds own old seat (submit key payload) (job k p) new m t once = quiet_minds own old new seat (submit key payload) (job k p) t.3 (record { no_job = λ c. refl; no_outcome = λ c. refl; no_key = λ x. refl; no_freed = λ x. refl; none_added = refl; none_freed = refl; refuses = λ x h. refl }) m
  ask_minds own old seat (submit key payload) empty new m t once = quiet_minds own old new seat (submit key payload) empty t.3 (record { no_job = λ c. refl; no_outcome = λ c. refl; no_key = λ x. refl; no_freed = λ x. refl; none_added = refl; none_freed = refl; refuses = λ x h. refl }) m
  ask_minds own old seat (submit key payload) is_closed new m t once = quiet_minds own old new seat (submit key payload) is_closed t.3 (record { no_job = λ c. refl; no_outcome = λ c. refl; no_key = λ x. refl; no_freed = λ x. refl; none_added = refl; none_freed = refl; refuses = λ x h. refl }) m
  ask_minds own old seat (submit key payload) (applied reply) new m t once = quiet_minds own old new seat (submit key payload) (applied reply) t.3 (record { no_job = λ c. refl; no_outcome = λ c. refl; no_key = λ x. refl; no_freed = λ x. refl; none_added = refl; none_freed = refl; refuses = λ x h. refl }) m
  ask_minds own old seat (submit key payload) no_memory new m t once = quiet_minds own old new seat (submit key payload) no_memory t.3 (record { no_job = λ c. refl; no_outcome = λ c. refl; no_key = λ x. refl; no_freed = λ x. refl; none_added = refl; none_freed = refl; refuses = λ x h. refl }) m
  ask_minds own old seat (submit key payload) journal_fault new m t once = quiet_minds own old new seat (submit key payload) journal_fault t.3 (record { no_job = λ c. refl; no_outcome = λ c. refl; no_key = λ x. refl; no_freed = λ x. refl; none_added = refl; none_freed = refl; refuses = λ x h. refl }) m
  ask_minds own old seat (submit key payload) is_broken new m t once = quiet_minds own old new seat (submit key payload) is_broken t.3 (record { no_job = λ c. refl; no_outcome = λ c. refl; no_key = λ x. refl; no_freed = λ x. refl; none_added = refl; none_freed = refl; refuses = λ x h. refl }) m
  ask_minds own old seat (submit key payload) (outcome k z) new m t once = quiet_minds own old new seat (submit key payload) (outcome k z) t.3 (record { no_job = λ c. refl; no_outcome = λ c. refl; no_key = λ x. refl; no_freed = λ x. refl; none_added = refl; none_freed = refl; refuses = λ x h. refl }) m
  ask_minds own old seat collect done new m t once = quiet_minds own old new seat collect done t (record { no_job = λ c. refl; no_outcome = λ c. refl; no_key = λ x. refl; no_freed = λ x. refl; none_added = refl; none_freed = refl; refuses = λ x h. absurd (false≢true h) }) m
  ask_minds own old seat collect (job k p) new m t once = quiet_minds own old new seat collect (job k p) t (record { no_job = λ c. refl; no_outcome = λ c. refl; no_key = λ x. refl; no_freed = λ x. refl; none_added = refl; none_freed = refl; refuses = λ x h. absurd (false≢true h) }) m
  ask_minds own old seat collect empty new m t once = quiet_minds own old new seat collect empty t (record { no_job = λ c. refl; no_outcome = λ c. refl; no_key = λ x. refl; no_freed = λ x. refl; none_added = refl; none_freed = refl; refuses = λ x h. absurd (false≢true h) }) m
  ask_minds own old seat collect is_closed new m t once = quiet_minds own old new seat collect is_closed t (record { no_job = λ c. refl; no_outcome = λ c. refl; no_key = λ x. refl; no_freed = λ x. refl; none_added = refl; none_freed = refl; refuses = λ x h. absurd (false≢true h) }) m
  ask_minds own old seat collect (applied reply) new m t once = quiet_minds own old new seat collect (applied reply) t (record { no_job = λ c. refl; no_outcome = λ c. refl; no_key = λ x. refl; no_freed = λ x. refl; none_added = refl; none_freed = refl; refuses = λ x h. absurd (false≢true h) }) m
  ask_minds own old seat collect no_memory new m t once = quiet_minds own old new seat collect no_memory t (record { no_job = λ c. refl; no_outcome = λ c. refl; no_key = λ x. refl; no_freed = λ x. refl; none_added = refl; none_freed = refl; refuses = λ x h. absurd (false≢true h) }) m
  ask_minds own old seat collect journal_fault new m t once = quiet_minds own old new seat collect journal_fault t (record { no_job = λ c. refl; no_outcome = λ c. refl; no_key = λ x. refl; no_freed = λ x. refl; none_added = refl; none_freed = refl; refuses = λ x h. absurd (false≢true h) }) m
  ask_minds own old seat collect is_broken new m t once = quiet_minds own old new seat collect is_broken t (record { no_job = λ c. refl; no_outcome = λ c. refl; no_key = λ x. refl; no_freed = λ x. refl; none_added = refl; none_freed = refl; refuses = λ x h. absurd (false≢true h) }) m
  ask_minds own old seat close answer new m t once = quiet_minds own old new seat close answer t (record { no_job = λ c. refl; no_outcome = λ c. refl; no_key = λ x. refl; no_freed = λ x. refl; none_added = refl; none_freed = refl; refuses = λ x h. absurd (false≢true h) }) m
  ask_minds own old seat take_job answer new m t once = absurd t
  ask_minds own old seat (apply key call) answer new m t once = absurd t
  ask_minds own old seat (put key settled) answer new m t once = absurd t

  -- a weave that begins where the loop knows itself so
  weave_minds : (items : List (LoopItem C A)) (own : List (HallAsk C A)) (old new : Loop) → Minds own old → Weaves max old items new → CollectsItsOwn (own ++ calls_in items) → Minds (own ++ calls_in items) new
  weave_minds [] own old new m t once = subst (λ (x : List (HallAsk C A) × Loop). Minds x.0 x.1) (λ i. (sym (append-nil own) i, sym t i)) m
  weave_minds (handles conn_event ∷ items) own old new m t once = weave_minds items own t.0 new (event_minds own old conn_event t.0 m t.1) t.2 once
  weave_minds (calls e ∷ items) own old new m t once =
      let same : (own ++ e ∷ []) ++ calls_in items ≡ own ++ e ∷ calls_in items = append_assoc own (e ∷ []) (calls_in items) in
      subst (λ asks. Minds asks new) same
      (weave_minds items (own ++ e ∷ []) t.0 new
      (ask_minds own old e.seat e.op e.reply t.0 m t.1
      (λ key settled op answer. once own (calls_in items) e.seat key settled (λ i. own ++ seat_ask e.seat (op i) (answer i) ∷ calls_in items)))
      t.2 (subst CollectsItsOwn (sym same) once))

  none_yet : Minds [] no_loop
  none_yet = record {
    counts = record { submitted = λ c. refl; collected = λ c. refl; added = λ x. refl; freed = λ x. refl; asked = λ x h. absurd (false≢true h) };
    all_added = refl;
    all_freed = refl;
    most = omega arith;
    stands = λ c. record { first = omega arith; second = omega arith; third = omega arith; each = tt };
    unopened = λ c l. (refl, refl);
  }

  minds : (items : List (LoopItem C A)) (loop : Loop) → Weaves max no_loop items loop → CollectsItsOwn (calls_in items) → Minds (calls_in items) loop
  minds items loop t once = weave_minds items [] no_loop loop none_yet t once

  pub numbers : (items : List (LoopItem C A)) (loop : Loop) → Weaves max no_loop items loop → CollectsItsOwn (calls_in items)
      → (c : ℕ) → (summed_calls (adds_of_conn c) (calls_in items) ≡ (loop.conns c).submitted) × (summed_calls (frees_of_conn c) (calls_in items) ≡ (loop.conns c).collected)
  numbers items loop t once c = let m : Minds (calls_in items) loop = minds items loop t once in (m.counts.submitted c, m.counts.collected c)

  one_a_call : (own : List (HallAsk C A)) → summed_calls adds_key own + summed_calls frees_key own ≤ length own
  one_a_call [] = omega arith
  one_a_call (e ∷ own) = let t : summed_calls adds_key own + summed_calls frees_key own ≤ length own = one_a_call own in let o : adds_key e.op e.reply + frees_key e.op e.reply ≤ 1 = one e.op e.reply in omega arith
    where
      one : (op : HallOperation C) (answer : HallAnswer A) → adds_key op answer + frees_key op answer ≤ 1
      one (submit key payload) done = omega arith
      one (submit key payload) _ = omega arith
      one collect (outcome key settled) = omega arith
      one collect _ = omega arith
      one take_job answer = omega arith
      one (apply key call) answer = omega arith
      one (put key settled) answer = omega arith
      one close answer = omega arith

  pub all_numbers : (items : List (LoopItem C A)) (loop : Loop) → Weaves max no_loop items loop → CollectsItsOwn (calls_in items)
      → (summed_calls adds_key (calls_in items) ≡ all_submitted loop) × (summed_calls frees_key (calls_in items) ≡ all_collected loop) × (all_submitted loop + all_collected loop ≤ length (calls_in items))
  all_numbers items loop t once =
      let m : Minds (calls_in items) loop = minds items loop t once in
      let a : summed_calls adds_key (calls_in items) ≡ all_submitted loop = m.all_added in
      let b : summed_calls frees_key (calls_in items) ≡ all_collected loop = m.all_freed in
      let l : summed_calls adds_key (calls_in items) + summed_calls frees_key (calls_in items) ≤ length (calls_in items) = one_a_call (calls_in items) in
      (a, b, omega arith)

  pub answered_is_own : (items : List (LoopItem C A)) (loop : Loop) (key : Key) (settled : Settled) → Weaves max no_loop items loop → CollectsItsOwn (calls_in items ++ seat_ask 0 collect (outcome key settled) ∷ [])
      → (key.c < loop.count) × (key.i ≡ (loop.conns key.c).collected) × ((loop.conns key.c).submitted ≡ suc key.i) × (length (loop.conns key.c).payloads ≡ suc key.i)
  answered_is_own items loop key settled t once =
      let o : (summed_calls (adds_this_key key) (calls_in items) ≡ 1) × (summed_calls (frees_this_key key) (calls_in items) ≡ 0) = once (calls_in items) [] 0 key settled refl in
      own_outcome (calls_in items) loop key
      (minds items loop t (λ front back seat k s is. once front (back ++ seat_ask 0 collect (outcome key settled) ∷ []) seat k s
      (ap (λ own. own ++ seat_ask 0 collect (outcome key settled) ∷ []) is ∙ append_assoc front (seat_ask seat collect (outcome k s) ∷ back) (seat_ask 0 collect (outcome key settled) ∷ [])))) o.0 o.1

  within_reach : (own : List (HallAsk C A)) (loop : Loop) → Minds own loop → NoneIsLeftBehind loop → (x : ℕ) → x < loop.count → (loop.conns x).submitted ≤ (loop.conns x).collected + count_if_open (loop.conns x).cause
  within_reach own loop m behind x l = go (cases_open (loop.conns x).cause)
    where
      go : ((loop.conns x).cause ≡ None) ⊎ ((loop.conns x).cause ≡ None → ⊥) → (loop.conns x).submitted ≤ (loop.conns x).collected + count_if_open (loop.conns x).cause
      go (inl e) =
          let o : count_if_open (loop.conns x).cause ≡ 1 = ap count_if_open e in
          let b : (loop.conns x).submitted ≤ length (loop.conns x).payloads = (m.stands x).second in
          let t : length (loop.conns x).payloads ≤ suc (loop.conns x).collected = (m.stands x).third in omega arith
      go (inr n) =
          let b : (loop.conns x).submitted ≤ length (loop.conns x).payloads = (m.stands x).second in
          let t : (loop.conns x).collected ≡ length (loop.conns x).payloads = behind x l n in omega arith

module _ {C A M : Type 0} where
  pub may_submit : (max : ℕ) (r : ServiceRules C A M) (opening : HallState C A M) (items : List (LoopItem C A)) (loop next : Loop) (key : Key) (payload : List ℕ) (answer : HallAnswer A) → Weaves max no_loop items loop
      → CollectsItsOwn (calls_in items) → max ≤ longest_payload → NoneIsLeftBehind loop → summed_calls refuses_job (calls_in items) ≡ 0 → LoopAsks {C = C} loop (submit key payload) answer next
      → OwnAsksAllow r opening 0 (calls_in items) (submit key payload)
  may_submit max r opening items loop next key payload answer t once within behind none asks =
      let m : Minds max (calls_in items) loop = minds max items loop t once in
      let c : ℕ = key.c in
      let n : ℕ = loop.count in
      let conns : ℕ → LoopConn = loop.conns in
      let is : key.i ≡ (conns c).submitted = asks.1 in
      let low : key.i < length (conns c).payloads = there_is (conns c).payloads key.i payload asks.2 in
      let third : length (conns c).payloads ≤ suc (conns c).collected = (m.stands c).third in
      let open_is : (conns c).cause ≡ None = ⊎_elim (λ h. h) (λ h. absurd (let all : (conns c).collected ≡ length (conns c).payloads = behind c asks.0 h in
      let first : (conns c).collected ≤ (conns c).submitted = (m.stands c).first in let g : ⊥ = omega arith in g)) (cases_open (conns c).cause) in
      let o : count_if_open (conns c).cause ≡ 1 = ap count_if_open open_is in
      let less : sum_among submitted_of conns n < sum_among (λ conn. conn.collected + count_if_open conn.cause) conns n =
      sum_below submitted_of (λ conn. conn.collected + count_if_open conn.cause) conns n c (within_reach max (calls_in items) loop m behind) asks.0 (omega arith) in
      let two : sum_among (λ conn. conn.collected + count_if_open conn.cause) conns n ≡ sum_among collected_of conns n + sum_among opens_of conns n = sum_both collected_of opens_of conns n in
      let open_all : open_among conns n ≡ sum_among opens_of conns n = open_sum conns n in
      let most : open_among conns n ≤ most_connections = m.most in
      let added : summed_calls adds_key (calls_in items) ≡ all_submitted loop = m.all_added in
      let freed : summed_calls frees_key (calls_in items) ≡ all_collected loop = m.all_freed in
      let p : length payload ≤ max = (payload_among max (conns c).payloads key.i payload (m.stands c).each asks.2).within in (
        refl,
        omega arith,
        false_from_ne_true (any_of (submits_key key) (calls_in items))
            (λ h. ⊎_elim (λ l. let g : ⊥ = omega arith in g) (λ l. let g : ⊥ = omega arith in g) (m.counts.asked key h)),
        omega arith,
      )
