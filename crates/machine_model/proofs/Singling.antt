-- Each key is submitted once, and is in the hall just as often as it was submitted and not collected; while its job waits, no seat has applied it.
use Rattle.std.proofs.Common.{◌≡◌, ℕ, ◌+◌, ◌≤◌, ◌⊎◌, Bool, true, false, ◌||◌, cond, if◌then◌else◌, List, [], ◌∷◌, ◌++◌, map, length, ◌<◌, refl, sym, ap, ◌∙◌, subst, inl, inr, ⊎_elim, arith, eqb, append_assoc, append-nil}
use Rattle.std.proofs.lemmas.Bool.{cases_eq, true≢false, false≢true, or_left, or_right, or_cases, false_from_ne_true}
use Rattle.std.proofs.lemmas.List.{map-append}
use Rattle.streams.specs.declared.outcomes.Settled.{Settled}
use Rattle.host_model.specs.declared.key.Key.{Key}
use Rattle.host_model.specs.Journal.{ServiceRules}
use Rattle.call_history.specs.History.{meaning_after, IsHistory}
use Rattle.call_history.specs.Calls.{seat_ask, calls_by, ask_of, asks_of, AllAllowed}
use Rattle.call_history.specs.Laws.{calls_by-own, calls_by-other, asks-append, IsHistory-at, IsHistory-front, AllAllowed-front}
use Rattle.host_model.proofs.Lists.{nil-cons, cons_parts}
use Rattle.machine_model.specs.HallState.{is_same, Job, JobOutcome, HallState, IsNewlyOpened, has_key, without}
use Rattle.machine_model.specs.HallRule.{HallOperation, submit, take_job, apply, put, collect, close, HallAnswer, done, job, empty, is_closed, applied, no_memory, journal_fault, is_broken, outcome, job_of, outcome_of, TakesEffect, ApplyGives, HallGives}
use Rattle.machine_model.specs.OwnCalls.{HallCall, HallAsk, submits_key, applies_key, any_of, summed_calls, holds_key, OwnAsksAllow, HallMay}
use Rattle.machine_model.specs.SingleKeys.{adds_this_key, frees_this_key}
use Rattle.machine_model.proofs.Keys.{same_key, is_same_self, has_either, has_one, has_self, job_keys, outcome_keys, with_job, with_taken, with_put, in_taken}
use Rattle.machine_model.proofs.Owning.{number_push, any_left, any_last, holds_push, Owned, after_op, owned_first}

-- how often a key stands in a list
abbrev pub one_if : Bool → ℕ
one_if b = if b then 1 else 0

abbrev times : Key → List Key → ℕ
times k [] = 0
times k (x ∷ xs) = one_if (is_same x k) + times k xs

times-push : (k : Key) (xs : List Key) (x : Key) → times k (xs ++ x ∷ []) ≡ times k xs + one_if (is_same x k)
times-push k [] x = omega arith
times-push k (y ∷ xs) x = let f : times k (xs ++ x ∷ []) ≡ times k xs + one_if (is_same x k) = times-push k xs x in omega arith

times-without : (k x : Key) (xs : List Key) → has_key x xs ≡ true → times k (without x xs) + one_if (is_same x k) ≡ times k xs
times-without k x [] h = absurd (false≢true h)
times-without k x (y ∷ xs) h = go (is_same y x) refl h (times-without k x xs)
  where
    go : (b : Bool) → is_same y x ≡ b → (b || has_key x xs) ≡ true → (has_key x xs ≡ true → times k (without x xs) + one_if (is_same x k) ≡ times k xs)
        → times k (if b then xs else y ∷ without x xs) + one_if (is_same x k) ≡ one_if (is_same y k) + times k xs
    go true s f rec = let same : one_if (is_same y k) ≡ one_if (is_same x k) = ap (λ (z : Key). one_if (is_same z k)) (same_key y x s) in omega arith
    go false s f rec = let later : times k (without x xs) + one_if (is_same x k) ≡ times k xs = rec f in omega arith

none_yet : (b : Bool) (n : ℕ) → n ≤ one_if b → b ≡ false → n ≡ 0
none_yet b n l e = let f : one_if b ≡ 0 = ap one_if e in omega arith

module _ {C A : Type 0} where
  -- some ask of a seat is some ask
  any_by : (test : HallOperation C → Bool) (seat : ℕ) (asks : List (HallAsk C A)) → any_of test (calls_by seat asks) ≡ true → any_of test asks ≡ true
  any_by test seat [] h = h
  any_by test seat (e ∷ asks) h = go (eqb e.seat seat) h (any_by test seat asks)
    where
      go : (b : Bool) → any_of test (cond b (e ∷ calls_by seat asks) (calls_by seat asks)) ≡ true → (any_of test (calls_by seat asks) ≡ true → any_of test asks ≡ true) → (test e.op || any_of test asks) ≡ true
      go true f rec = ⊎_elim (or_left (test e.op) (any_of test asks)) (λ g. or_right (test e.op) (any_of test asks) (rec g)) (or_cases (test e.op) (any_of test (calls_by seat asks)) f)
      go false f rec = or_right (test e.op) (any_of test asks) (rec f)

  -- a seat has no more of them than there are
  count_by : (count : HallOperation C → HallAnswer A → ℕ) (seat : ℕ) (asks : List (HallAsk C A)) → summed_calls count (calls_by seat asks) ≤ summed_calls count asks
  count_by count seat [] = omega arith
  count_by count seat (e ∷ asks) = go (eqb e.seat seat) (count_by count seat asks)
    where
      go : (b : Bool) → summed_calls count (calls_by seat asks) ≤ summed_calls count asks → summed_calls count (cond b (e ∷ calls_by seat asks) (calls_by seat asks)) ≤ count e.op e.reply + summed_calls count asks
      go true rec = omega arith
      go false rec = omega arith

  pub any_push : (test : HallOperation C → Bool) (asks : List (HallAsk C A)) (e : HallAsk C A) → any_of test (asks ++ e ∷ []) ≡ true → (any_of test asks ≡ true) ⊎ (test e.op ≡ true)
  any_push test [] e h = ⊎_elim (λ f. inr f) (λ f. absurd (false≢true f)) (or_cases (test e.op) false h)
  any_push test (x ∷ asks) e h =
      ⊎_elim (λ f. inl (or_left (test x.op) (any_of test asks) f)) (λ f. ⊎_elim (λ g. inl (or_right (test x.op) (any_of test asks) g)) (λ g. inr g) (any_push test asks e f))
      (or_cases (test x.op) (any_of test (asks ++ e ∷ [])) h)

  -- what seat 0 has asked before, it has asked
  pub by_first_later : (test : HallOperation C → Bool) (asks : List (HallAsk C A)) (e : HallAsk C A) → any_of test (calls_by 0 asks) ≡ true → any_of test (calls_by 0 (asks ++ e ∷ [])) ≡ true
  by_first_later test asks e h = go (cases_eq e.seat 0)
    where
      go : (e.seat ≡ 0) ⊎ (e.seat ≡ 0 → ⊥) → any_of test (calls_by 0 (asks ++ e ∷ [])) ≡ true
      go (inl is) = ap (any_of test) (calls_by-own 0 asks e is) ∙ any_left test (calls_by 0 asks) e h
      go (inr n) = ap (any_of test) (calls_by-other 0 asks e n) ∙ h

  -- what seat 0 submits, it has submitted once more; and what nobody submits leaves the number alone
  added_by_first : (k : Key) (asks : List (HallAsk C A)) (e : HallAsk C A) → (e.seat ≡ 0) ⊎ (adds_this_key k e.op e.reply ≡ 0)
      → summed_calls (adds_this_key k) (calls_by 0 (asks ++ e ∷ [])) ≡ summed_calls (adds_this_key k) (calls_by 0 asks) + adds_this_key k e.op e.reply
  added_by_first k asks e (inl is) = ap (summed_calls (adds_this_key k)) (calls_by-own 0 asks e is) ∙ number_push (adds_this_key k) (calls_by 0 asks) e
  added_by_first k asks e (inr none) = go (cases_eq e.seat 0)
    where
      go : (e.seat ≡ 0) ⊎ (e.seat ≡ 0 → ⊥) → summed_calls (adds_this_key k) (calls_by 0 (asks ++ e ∷ [])) ≡ summed_calls (adds_this_key k) (calls_by 0 asks) + adds_this_key k e.op e.reply
      go (inl is) = ap (summed_calls (adds_this_key k)) (calls_by-own 0 asks e is) ∙ number_push (adds_this_key k) (calls_by 0 asks) e
      go (inr n) = let same : summed_calls (adds_this_key k) (calls_by 0 (asks ++ e ∷ [])) ≡ summed_calls (adds_this_key k) (calls_by 0 asks) = ap (summed_calls (adds_this_key k)) (calls_by-other 0 asks e n) in omega arith

  -- a key's first Submit, or none
  abbrev Adds : Key → List (HallAsk C A) → HallAsk C A → Type 0
  Adds k asks e =
      (adds_this_key k e.op e.reply ≡ 0)
      ⊎ ((e.seat ≡ 0) × (any_of (submits_key k) (calls_by 0 asks) ≡ false) × (submits_key k e.op ≡ true) × (adds_this_key k e.op e.reply ≡ 1))

  once_more : (k : Key) (asks : List (HallAsk C A)) (e : HallAsk C A) → summed_calls (adds_this_key k) asks ≤ one_if (any_of (submits_key k) (calls_by 0 asks)) → Adds k asks e
      → summed_calls (adds_this_key k) (asks ++ e ∷ []) ≤ one_if (any_of (submits_key k) (calls_by 0 (asks ++ e ∷ [])))
  once_more k asks e once (inl none) =
      let p : summed_calls (adds_this_key k) (asks ++ e ∷ []) ≡ summed_calls (adds_this_key k) asks + adds_this_key k e.op e.reply = number_push (adds_this_key k) asks e in
      go (any_of (submits_key k) (calls_by 0 asks)) refl p
    where
      go : (b : Bool) → any_of (submits_key k) (calls_by 0 asks) ≡ b → summed_calls (adds_this_key k) (asks ++ e ∷ []) ≡ summed_calls (adds_this_key k) asks + adds_this_key k e.op e.reply
          → summed_calls (adds_this_key k) (asks ++ e ∷ []) ≤ one_if (any_of (submits_key k) (calls_by 0 (asks ++ e ∷ [])))
      go true is p =
          let later : one_if (any_of (submits_key k) (calls_by 0 (asks ++ e ∷ []))) ≡ 1 = ap one_if (by_first_later (submits_key k) asks e is) in
          let before : one_if (any_of (submits_key k) (calls_by 0 asks)) ≡ 1 = ap one_if is in omega arith
      go false is p =
          let zero_before : summed_calls (adds_this_key k) asks ≡ 0 = none_yet (any_of (submits_key k) (calls_by 0 asks)) (summed_calls (adds_this_key k) asks) once is in omega arith
  once_more k asks e once (inr t) =
      let p : summed_calls (adds_this_key k) (asks ++ e ∷ []) ≡ summed_calls (adds_this_key k) asks + adds_this_key k e.op e.reply = number_push (adds_this_key k) asks e in
      let zero_before : summed_calls (adds_this_key k) asks ≡ 0 = none_yet (any_of (submits_key k) (calls_by 0 asks)) (summed_calls (adds_this_key k) asks) once t.1 in
      let one_now : adds_this_key k e.op e.reply ≡ 1 = t.3 in
      let now : one_if (any_of (submits_key k) (calls_by 0 (asks ++ e ∷ []))) ≡ 1 =
      ap one_if (ap (any_of (submits_key k)) (calls_by-own 0 asks e t.0) ∙ any_last (submits_key k) (calls_by 0 asks) e t.2) in
      omega arith

module _ {C A M : Type 0} where
  -- how often a key is in the hall
  abbrev times_in : Key → HallState C A M → ℕ
  times_in k hall = times k (job_keys hall) + (times k hall.taken + times k (outcome_keys hall))

  -- what is so of a key after a history whose calls were allowed
  pub record Single (k : Key) (asks : List (HallAsk C A)) (hall : HallState C A M) : Type 0 where
    pub counted : times_in k hall + summed_calls (frees_this_key k) asks ≡ summed_calls (adds_this_key k) asks
    pub by_first : summed_calls (adds_this_key k) asks ≡ summed_calls (adds_this_key k) (calls_by 0 asks)
    pub once : summed_calls (adds_this_key k) asks ≤ one_if (any_of (submits_key k) (calls_by 0 asks))
    pub applied_later : any_of (applies_key k) asks ≡ true → any_of (submits_key k) (calls_by 0 asks) ≡ true
    pub unapplied : has_key k (job_keys hall) ≡ true → any_of (applies_key k) asks ≡ false

  -- one more ask keeps it
  record Moves (k : Key) (asks : List (HallAsk C A)) (old : HallState C A M) (e : HallAsk C A) (new : HallState C A M) : Type 0 where
    moved : times_in k new + frees_this_key k e.op e.reply ≡ times_in k old + adds_this_key k e.op e.reply
    adds : Adds k asks e
    applies : applies_key k e.op ≡ true → (has_key k (job_keys old) ≡ false) × (any_of (submits_key k) (calls_by 0 asks) ≡ true)
    waits : has_key k (job_keys new) ≡ true → (has_key k (job_keys old) ≡ true) ⊎ (any_of (submits_key k) (calls_by 0 asks) ≡ false)

  single_more : (k : Key) (asks : List (HallAsk C A)) (old new : HallState C A M) (e : HallAsk C A) → Single k asks old → Moves k asks old e new → Single k (asks ++ e ∷ []) new
  single_more k asks old new e s m =
      let freed : summed_calls (frees_this_key k) (asks ++ e ∷ []) ≡ summed_calls (frees_this_key k) asks + frees_this_key k e.op e.reply = number_push (frees_this_key k) asks e in
      let added : summed_calls (adds_this_key k) (asks ++ e ∷ []) ≡ summed_calls (adds_this_key k) asks + adds_this_key k e.op e.reply = number_push (adds_this_key k) asks e in
      let first : summed_calls (adds_this_key k) (calls_by 0 (asks ++ e ∷ [])) ≡ summed_calls (adds_this_key k) (calls_by 0 asks) + adds_this_key k e.op e.reply =
      added_by_first k asks e (⊎_elim (λ z. inr z) (λ t. inl t.0) m.adds) in
      let counted : times_in k old + summed_calls (frees_this_key k) asks ≡ summed_calls (adds_this_key k) asks = s.counted in
      let moved : times_in k new + frees_this_key k e.op e.reply ≡ times_in k old + adds_this_key k e.op e.reply = m.moved in
      let by_first : summed_calls (adds_this_key k) asks ≡ summed_calls (adds_this_key k) (calls_by 0 asks) = s.by_first in
      record {
        counted = omega arith;
        by_first = omega arith;
        once = once_more k asks e s.once m.adds;
        applied_later = λ h. by_first_later (submits_key k) asks e (⊎_elim s.applied_later (λ f. (m.applies f).1) (any_push (applies_key k) asks e h));
        unapplied = λ h. false_from_ne_true (any_of (applies_key k) (asks ++ e ∷ [])) (λ f. ⊎_elim (applied_before h) (applied_now h) (any_push (applies_key k) asks e f));
      }
    where
      applied_before : has_key k (job_keys new) ≡ true → any_of (applies_key k) asks ≡ true → ⊥
      applied_before h f = ⊎_elim (λ w. true≢false (sym f ∙ s.unapplied w)) (λ w. true≢false (sym (s.applied_later f) ∙ w)) (m.waits h)

      applied_now : has_key k (job_keys new) ≡ true → applies_key k e.op ≡ true → ⊥
      applied_now h f = ⊎_elim (λ w. true≢false (sym w ∙ (m.applies f).0)) (λ w. true≢false (sym (m.applies f).1 ∙ w)) (m.waits h)

  module _ (r : ServiceRules C A M) (opening old new : HallState C A M) (asks : List (HallAsk C A)) (o : Owned opening asks old) (seat : ℕ) (k : Key) where
    abbrev Next : HallOperation C → HallAnswer A → Type 0
    Next op answer = Moves k asks old (seat_ask seat op answer) new

    -- a call that moves no key
    still : (op : HallOperation C) (answer : HallAnswer A) → old.jobs ≡ new.jobs → old.taken ≡ new.taken → old.outcomes ≡ new.outcomes → adds_this_key k op answer ≡ 0 → frees_this_key k op answer ≡ 0
        → (applies_key k op ≡ true → (has_key k (job_keys old) ≡ false) × (any_of (submits_key k) (calls_by 0 asks) ≡ true)) → Next op answer
    still op answer jobs taken outs adds frees applies =
        let same : times_in k old ≡ times_in k new = (λ i. times k (map (λ (j : Job). j.key) (jobs i)) + (times k (taken i) + times k (map (λ (x : JobOutcome). x.key) (outs i)))) in
        record {
          moved = omega arith;
          adds = inl adds;
          applies = applies;
          waits = λ h. inl (ap (λ js. has_key k (map (λ (j : Job). j.key) js)) jobs ∙ h);
        }

    unchanged : (op : HallOperation C) (answer : HallAnswer A) → new ≡ old → adds_this_key k op answer ≡ 0 → frees_this_key k op answer ≡ 0 → applies_key k op ≡ false → Next op answer
    unchanged op answer e adds frees none =
        still op answer (ap (λ (h : HallState C A M). h.jobs) (sym e)) (ap (λ (h : HallState C A M). h.taken) (sym e)) (ap (λ (h : HallState C A M). h.outcomes) (sym e)) adds frees
        (λ h. absurd (true≢false (sym h ∙ none)))

    submitted : (key : Key) (payload : List ℕ) → new ≡ record old { jobs = old.jobs ++ job_of key payload ∷ [] } → seat ≡ 0 → any_of (submits_key key) (calls_by 0 asks) ≡ false → Next (submit key payload) done
    submitted key payload is zero unused =
        subst (Moves k asks old (seat_ask seat (submit key payload) done)) (sym is)
        (let p : times k (job_keys (with_job old key payload)) ≡ times k (job_keys old) + one_if (is_same key k) = ap (times k) pushed ∙ times-push k (job_keys old) key in
        record {
          moved = omega arith;
          adds = adds (is_same key k) refl;
          applies = λ h. absurd (false≢true h);
          waits = λ h. ⊎_elim (λ f. inl f) (λ f. inr (unused_too (has_one k key f))) (has_either k (job_keys old) (key ∷ []) (ap (has_key k) (sym pushed) ∙ h));
        })
      where
        pushed : job_keys (with_job old key payload) ≡ job_keys old ++ key ∷ []
        pushed = map-append (λ (j : Job). j.key) old.jobs (job_of key payload ∷ [])

        unused_too : key ≡ k → any_of (submits_key k) (calls_by 0 asks) ≡ false
        unused_too q = subst (λ x. any_of (submits_key x) (calls_by 0 asks) ≡ false) q unused

        adds : (b : Bool) → is_same key k ≡ b → Adds k asks (seat_ask seat (submit key payload) done)
        adds true s = inr (zero, unused_too (same_key key k s), s, ap one_if s)
        adds false s = inl (ap one_if s)

    taken : (key : Key) (payload : List ℕ) (later : List Job) → old.jobs ≡ job_of key payload ∷ later → new ≡ record old { jobs = later; taken = old.taken ++ key ∷ [] } → Next take_job (job key payload)
    taken key payload later first is =
        subst (Moves k asks old (seat_ask seat take_job (job key payload))) (sym is)
        (let p : times k (job_keys old) ≡ one_if (is_same key k) + times k (job_keys (with_taken old key later)) = ap (times k) keys_first in
        let q : times k (old.taken ++ key ∷ []) ≡ times k old.taken + one_if (is_same key k) = times-push k old.taken key in
        record {
          moved = omega arith;
          adds = inl refl;
          applies = λ h. absurd (false≢true h);
          waits = λ h. inl (ap (has_key k) keys_first ∙ or_right (is_same key k) (has_key k (job_keys (with_taken old key later))) h);
        })
      where
        keys_first : job_keys old ≡ key ∷ job_keys (with_taken old key later)
        keys_first = ap (map (λ (j : Job). j.key)) first

    put_out : (key : Key) (settled : Settled) → has_key key old.taken ≡ true → new ≡ record old { taken = without key old.taken; outcomes = old.outcomes ++ outcome_of key settled ∷ [] } → Next (put key settled) done
    put_out key settled there is =
        subst (Moves k asks old (seat_ask seat (put key settled) done)) (sym is)
        (let p : times k (without key old.taken) + one_if (is_same key k) ≡ times k old.taken = times-without k key old.taken there in
        let q : times k (outcome_keys (with_put old key settled)) ≡ times k (outcome_keys old) + one_if (is_same key k) = ap (times k) pushed ∙ times-push k (outcome_keys old) key in
        record {
          moved = omega arith;
          adds = inl refl;
          applies = λ h. absurd (false≢true h);
          waits = λ h. inl h;
        })
      where
        pushed : outcome_keys (with_put old key settled) ≡ outcome_keys old ++ key ∷ []
        pushed = map-append (λ (x : JobOutcome). x.key) old.outcomes (outcome_of key settled ∷ [])

    collected : (key : Key) (settled : Settled) (later : List JobOutcome) → old.outcomes ≡ outcome_of key settled ∷ later → new ≡ record old { outcomes = later } → Next collect (outcome key settled)
    collected key settled later first is =
        subst (Moves k asks old (seat_ask seat collect (outcome key settled))) (sym is)
        (let p : times k (outcome_keys old) ≡ one_if (is_same key k) + times k (map (λ (x : JobOutcome). x.key) later) = ap (λ os. times k (map (λ (x : JobOutcome). x.key) os)) first in
        record {
          moved = omega arith;
          adds = inl refl;
          applies = λ h. absurd (false≢true h);
          waits = λ h. inl h;
        })

    applies_it : (key : Key) (call : C) (answer : HallAnswer A) → holds_key key (calls_by seat asks) ≡ true → old.jobs ≡ new.jobs → old.taken ≡ new.taken → old.outcomes ≡ new.outcomes → Next (apply key call) answer
    applies_it key call answer mine jobs taken outs =
        still (apply key call) answer jobs taken outs refl refl
        (λ h. let there : (has_key key old.taken ≡ true) × (has_key key (job_keys old) ≡ false) = o.held seat key mine in
        subst (λ x. (has_key x (job_keys old) ≡ false) × (any_of (submits_key x) (calls_by 0 asks) ≡ true)) (same_key key k h) (there.1, o.known key (in_taken key old there.0)))

    after_apply : (key : Key) (call : C) (answer : HallAnswer A) (faults : ℕ) → holds_key key (calls_by seat asks) ≡ true → ApplyGives r old key call faults answer new → Next (apply key call) answer
    after_apply key call (applied reply) faults mine g =
        applies_it key call (applied reply) mine (ap (λ (h : HallState C A M). h.jobs) (sym g.1.1)) (ap (λ (h : HallState C A M). h.taken) (sym g.1.1)) (ap (λ (h : HallState C A M). h.outcomes) (sym g.1.1))
    after_apply key call no_memory faults mine g =
        ⊎_elim
        (λ (t : new ≡ record old { faults = faults }). applies_it key call no_memory mine (ap (λ (h : HallState C A M). h.jobs) (sym t)) (ap (λ (h : HallState C A M). h.taken) (sym t)) (ap (λ (h : HallState C A M). h.outcomes) (sym t)))
        (λ (t : (reply : A) × TakesEffect r old key call reply faults new). applies_it key call no_memory mine (ap (λ (h : HallState C A M). h.jobs) (sym t.1.1)) (ap (λ (h : HallState C A M). h.taken) (sym t.1.1)) (ap (λ (h : HallState C A M). h.outcomes) (sym t.1.1)))
        g.1
    after_apply key call journal_fault faults mine g =
        applies_it key call journal_fault mine (ap (λ (h : HallState C A M). h.jobs) (sym g.2)) (ap (λ (h : HallState C A M). h.taken) (sym g.2)) (ap (λ (h : HallState C A M). h.outcomes) (sym g.2))
    after_apply key call is_broken faults mine g =
        applies_it key call is_broken mine (ap (λ (h : HallState C A M). h.jobs) (sym g.1)) (ap (λ (h : HallState C A M). h.taken) (sym g.1)) (ap (λ (h : HallState C A M). h.outcomes) (sym g.1))
    after_apply key call _ faults mine g = absurd g

    moves : (op : HallOperation C) (answer : HallAnswer A) → HallGives r old op answer new → OwnAsksAllow r opening seat (calls_by seat asks) op → Next op answer
    moves (submit key payload) done g may =
        submitted key payload g.1 may.0 (subst (λ a. any_of (submits_key key) (calls_by a asks) ≡ false) may.0 may.2)
    moves (submit key payload) is_closed g may = unchanged (submit key payload) is_closed g.1 refl refl refl
    moves (submit key payload) _ g may = absurd g
    moves take_job (job key payload) g may = taken key payload g.0 g.1 g.2
    moves take_job empty g may = unchanged take_job empty g.2 refl refl refl
    moves take_job is_closed g may = unchanged take_job is_closed g.2 refl refl refl
    moves take_job _ g may = absurd g
    moves (apply key call) answer g may = after_apply key call answer g.0 may.0 g.2
    moves (put key settled) done g may = put_out key settled (o.held seat key may).0 g
    moves (put key settled) _ g may = absurd g
    moves collect (outcome key settled) g may = collected key settled g.0 g.1 g.2
    moves collect empty g may = unchanged collect empty g.2 refl refl refl
    moves collect is_closed g may = unchanged collect is_closed g.2 refl refl refl
    moves collect _ g may = absurd g
    moves close done g may =
        still close done (ap (λ (h : HallState C A M). h.jobs) (sym g)) (ap (λ (h : HallState C A M). h.taken) (sym g)) (ap (λ (h : HallState C A M). h.outcomes) (sym g)) refl refl (λ h. absurd (false≢true h))
    moves close _ g may = absurd g

  -- the last ask is that of the last call
  last_ask : (log : List (HallCall C A M)) (front : List (HallAsk C A)) (a : HallAsk C A) → asks_of log ≡ front ++ a ∷ []
      → (before : List (HallCall C A M)) × (e : HallCall C A M) × (log ≡ before ++ e ∷ []) × (asks_of before ≡ front) × (ask_of e ≡ a)
  last_ask [] front a is = absurd (none front is)
    where
      none : (front : List (HallAsk C A)) → [] ≡ front ++ a ∷ [] → ⊥
      none [] e = nil-cons a [] e
      none (x ∷ xs) e = nil-cons x (xs ++ a ∷ []) e
  last_ask (e ∷ []) [] a is = ([], e, refl, refl, (cons_parts (ask_of e) a [] [] is).0)
  last_ask (e ∷ []) (x ∷ []) a is = absurd (nil-cons a [] (cons_parts (ask_of e) x [] (a ∷ []) is).1)
  last_ask (e ∷ []) (x ∷ y ∷ xs) a is = absurd (nil-cons y (xs ++ a ∷ []) (cons_parts (ask_of e) x [] (y ∷ (xs ++ a ∷ [])) is).1)
  last_ask (e ∷ f ∷ log) [] a is = absurd (nil-cons (ask_of f) (asks_of log) (sym (cons_parts (ask_of e) a (ask_of f ∷ asks_of log) [] is).1))
  last_ask (e ∷ f ∷ log) (x ∷ xs) a is =
      let parts : (ask_of e ≡ x) × (asks_of (f ∷ log) ≡ xs ++ a ∷ []) = cons_parts (ask_of e) x (asks_of (f ∷ log)) (xs ++ a ∷ []) is in
      let t : (before : List (HallCall C A M)) × (last : HallCall C A M) × (f ∷ log ≡ before ++ last ∷ []) × (asks_of before ≡ xs) × (ask_of last ≡ a) = last_ask (f ∷ log) xs a parts.1 in
      (e ∷ t.0, t.1, ap (λ (l : List (HallCall C A M)). e ∷ l) t.2, (λ i. parts.0 i ∷ t.3 i), t.4)

  module _ (r : ServiceRules C A M) (opening : HallState C A M) where
    -- both records, after a history
    abbrev Known : List (HallAsk C A) → HallState C A M → Type 0
    Known asks hall = Owned opening asks hall × ((k : Key) → Single k asks hall)

    known_all : (front : List (HallAsk C A)) (back : List (HallCall C A M)) (hall : HallState C A M) → Known front hall → IsHistory (HallGives r) hall back
        → AllAllowed (HallMay r) opening (front ++ asks_of back) → Known (front ++ asks_of back) (meaning_after hall back)
    known_all front [] hall known history allowed = subst (λ asks. Known asks hall) (sym (append-nil front)) known
    known_all front (e ∷ back) hall known history allowed =
        let same : (front ++ ask_of e ∷ []) ++ asks_of back ≡ front ++ ask_of e ∷ asks_of back = append_assoc front (ask_of e ∷ []) (asks_of back) in
        let may : OwnAsksAllow r opening e.seat (calls_by e.seat front) e.op = (allowed front (asks_of back) (ask_of e) refl).1 in
        subst (λ asks. Known asks (meaning_after e.after back)) same
        (known_all (front ++ ask_of e ∷ []) back e.after (
          after_op r opening front hall known.0 e.seat e.after e.op e.reply history.0 may,
          λ k. single_more k front hall e.after (ask_of e) (known.1 k) (moves r opening hall e.after front known.0 e.seat k e.op e.reply history.0 may),
        )
        history.1 (subst (AllAllowed (HallMay r) opening) (sym same) allowed))

    known_first : IsNewlyOpened opening → Known [] opening
    known_first n = (
      owned_first opening n,
      λ k.
          let none : times_in k opening ≡ 0 = (λ i. times k (map (λ (j : Job). j.key) (n.jobs i)) + (times k (n.taken i) + times k (map (λ (x : JobOutcome). x.key) (n.outcomes i)))) in
          record {
            counted = omega arith;
            by_first = refl;
            once = omega arith;
            applied_later = λ h. absurd (false≢true h);
            unapplied = λ h. refl;
          },
    )

    -- what is known before the last call of a history whose calls were allowed
    before_last : (log : List (HallCall C A M)) (front : List (HallAsk C A)) (seat : ℕ) (op : HallOperation C) (answer : HallAnswer A) → IsHistory (HallGives r) opening log
        → AllAllowed (HallMay r) opening (asks_of log) → asks_of log ≡ front ++ seat_ask seat op answer ∷ []
        → (old new : HallState C A M) × Known front old × HallGives r old op answer new × IsNewlyOpened opening
    before_last log front seat op answer history allowed is =
        let t = last_ask log front (seat_ask seat op answer) is in
        let whole : asks_of log ≡ asks_of t.0 ++ ask_of t.1 ∷ [] = ap asks_of t.2 ∙ asks-append t.0 (t.1 ∷ []) in
        let parts : AllAllowed (HallMay r) opening (asks_of t.0 ++ ask_of t.1 ∷ []) = subst (AllAllowed (HallMay r) opening) whole allowed in
        let history_there : IsHistory (HallGives r) opening (t.0 ++ t.1 ∷ []) = subst (IsHistory (HallGives r) opening) t.2 history in
        let opened : IsNewlyOpened opening = (parts (asks_of t.0) [] (ask_of t.1) refl).0 in (
          meaning_after opening t.0,
          t.1.after,
          subst (λ asks. Known asks (meaning_after opening t.0)) t.3
              (known_all [] t.0 opening (known_first opened) (IsHistory-front (HallGives r) opening t.0 (t.1 ∷ []) history_there)
              (AllAllowed-front (HallMay r) opening (asks_of t.0) (ask_of t.1 ∷ []) parts)),
          subst (λ (x : HallAsk C A). HallGives r (meaning_after opening t.0) x.op x.reply t.1.after) t.4 (IsHistory-at (HallGives r) opening t.0 [] t.1 history_there),
          opened,
        )

    -- a job that Take answers may be applied
    pub may_apply : (log : List (HallCall C A M)) (front : List (HallAsk C A)) (seat : ℕ) (key : Key) (payload : List ℕ) (call : C) → IsHistory (HallGives r) opening log
        → AllAllowed (HallMay r) opening (asks_of log) → asks_of log ≡ front ++ seat_ask seat take_job (job key payload) ∷ [] → r.slot call < length opening.memories
        → HallMay r opening seat (calls_by seat (asks_of log)) (apply key call)
    may_apply log front seat key payload call history allowed is slot =
        let e : HallAsk C A = seat_ask seat take_job (job key payload) in
        let t : (old new : HallState C A M) × Known front old × HallGives r old take_job (job key payload) new × IsNewlyOpened opening = before_last log front seat take_job (job key payload) history allowed is in
        let own : calls_by seat (asks_of log) ≡ calls_by seat front ++ e ∷ [] = ap (calls_by seat) is ∙ calls_by-own seat front e refl in
        let waits : has_key key (job_keys t.0) ≡ true = ap (λ js. has_key key (map (λ (j : Job). j.key) js)) t.3.1 ∙ has_self key (map (λ (j : Job). j.key) t.3.0) in
        let unapplied : any_of (applies_key key) front ≡ false = (t.2.1 key).unapplied waits in
        subst (λ mine. HallMay r opening seat mine (apply key call)) (sym own) (
          t.4,
          (
            holds_push key false (calls_by seat front) e ∙ ap (λ b. if b then true else holds_key key (calls_by seat front)) (is_same_self key),
            false_from_ne_true (any_of (applies_key key) (calls_by seat front ++ e ∷ []))
                (λ f. ⊎_elim (λ g. true≢false (sym (any_by (applies_key key) seat front g) ∙ unapplied)) (λ g. false≢true g)
                (any_push (applies_key key) (calls_by seat front) e f)),
            slot,
          ),
        )

    -- the key of an outcome that Collect answers was submitted once, by seat 0, and not collected before
    pub collected_once : (log : List (HallCall C A M)) (front : List (HallAsk C A)) (seat : ℕ) (key : Key) (settled : Settled) → IsHistory (HallGives r) opening log
        → AllAllowed (HallMay r) opening (asks_of log) → asks_of log ≡ front ++ seat_ask seat collect (outcome key settled) ∷ []
        → (summed_calls (adds_this_key key) (calls_by 0 front) ≡ 1) × ((other : ℕ) → summed_calls (frees_this_key key) (calls_by other front) ≡ 0)
    collected_once log front seat key settled history allowed is =
        let t : (old new : HallState C A M) × Known front old × HallGives r old collect (outcome key settled) new × IsNewlyOpened opening = before_last log front seat collect (outcome key settled) history allowed is in
        let s : Single key front t.0 = t.2.1 key in
        let there : times key (outcome_keys t.0) ≡ one_if (is_same key key) + times key (map (λ (x : JobOutcome). x.key) t.3.0) = ap (λ os. times key (map (λ (x : JobOutcome). x.key) os)) t.3.1 in
        let one_there : one_if (is_same key key) ≡ 1 = ap one_if (is_same_self key) in
        let counted : times_in key t.0 + summed_calls (frees_this_key key) front ≡ summed_calls (adds_this_key key) front = s.counted in
        let by_first : summed_calls (adds_this_key key) front ≡ summed_calls (adds_this_key key) (calls_by 0 front) = s.by_first in
        let most : summed_calls (adds_this_key key) front ≤ 1 = at_most_one (any_of (submits_key key) (calls_by 0 front)) (summed_calls (adds_this_key key) front) s.once in (
          omega arith,
          λ other. let own : summed_calls (frees_this_key key) (calls_by other front) ≤ summed_calls (frees_this_key key) front = count_by (frees_this_key key) other front in omega arith,
        )
      where
        at_most_one : (b : Bool) (n : ℕ) → n ≤ one_if b → n ≤ 1
        at_most_one true n l = l
        at_most_one false n l = omega arith
