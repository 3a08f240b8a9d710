-- What each seat knows of its own calls is enough for what it asks of the hall.
use Rattle.std.proofs.Common.{◌≡◌, ℕ, suc, ◌+◌, ◌<◌, ◌≤◌, ◌⊎◌, Bool, true, false, if◌then◌else◌, Option, None, Some, List, [], ◌∷◌, ◌++◌, map, length, slice_get, slice_set, refl, sym, ap, ◌∙◌, subst, inl, inr, ⊎_elim, arith, append_assoc, append-nil, length-append}
use Rattle.std.proofs.lemmas.Bool.{cases_eq, true≢false, false≢true, or_parts, or_left, or_right, or_cases, false_from_ne_true}
use Rattle.std.proofs.lemmas.List.{length-set, map-append}
use Rattle.streams.specs.declared.outcomes.Settled.{Settled}
use Rattle.host_model.specs.declared.key.Key.{Key}
use Rattle.host_model.specs.Journal.{ServiceRules, after_call}
use Rattle.machine_model.specs.HallState.{is_same, Job, JobOutcome, HallState, IsNewlyOpened, has_key, without, keys_in}
use Rattle.machine_model.specs.HallRule.{HallOperation, submit, take_job, apply, put, collect, close, HallAnswer, done, job, empty, is_closed, applied, no_memory, journal_fault, is_broken, outcome, job_of, outcome_of, TakesEffect, ApplyGives, HallGives}
use Rattle.call_history.specs.History.{meaning_after, IsHistory}
use Rattle.call_history.specs.Calls.{seat_ask, calls_by, ask_of, asks_of, AllAllowed}
use Rattle.call_history.specs.Laws.{calls_by-own, calls_by-other}
use Rattle.machine_model.specs.OwnCalls.{HallCall, HallAsk, most_connections, HallCan, submits_key, any_of, adds_key, frees_key, summed_calls, held_after, holds_from, holds_key, OwnAsksAllow, HallMay}
use Rattle.machine_model.proofs.Keys.{same_key, is_same_self, has_left, has_right, has_either, has_one, has_self, has_without, without_other, length-without, job_keys, outcome_keys, with_job, with_taken, with_put, counts, in_jobs, in_taken, in_outcomes, where_in}

-- no key stands twice
abbrev pub Apart : List Key → Type 0
Apart [] = Unit {0}
Apart (k ∷ ks) = (has_key k ks ≡ false) × Apart ks

apart_push : (ks : List Key) (k : Key) → Apart ks → has_key k ks ≡ false → Apart (ks ++ k ∷ [])
apart_push [] k a n = (refl, tt)
apart_push (x ∷ ks) k a n =
    let parts : (is_same x k ≡ false) × (has_key k ks ≡ false) = or_parts (is_same x k) (has_key k ks) n in (
      false_from_ne_true (has_key x (ks ++ k ∷ []))
          (λ e. here (has_either x ks (k ∷ []) e) parts.0),
      apart_push ks k a.1 parts.1,
    )
  where
    here : (has_key x ks ≡ true) ⊎ (has_key x (k ∷ []) ≡ true) → is_same x k ≡ false → ⊥
    here (inl f) s = true≢false (sym f ∙ a.0)
    here (inr f) s = true≢false (sym (is_same_self x) ∙ subst (λ y. is_same x y ≡ false) (has_one x k f) s)

module _ {C A : Type 0} where
  pub number_push : (count : HallOperation C → HallAnswer A → ℕ) (own : List (HallAsk C A)) (e : HallAsk C A) → summed_calls count (own ++ e ∷ []) ≡ summed_calls count own + count e.op e.reply
  number_push count [] e = omega arith
  number_push count (x ∷ own) e =
      let f : summed_calls count (own ++ e ∷ []) ≡ summed_calls count own + count e.op e.reply = number_push count own e in omega arith

  pub any_left : (test : HallOperation C → Bool) (own : List (HallAsk C A)) (e : HallAsk C A) → any_of test own ≡ true → any_of test (own ++ e ∷ []) ≡ true
  any_left test [] e h = absurd (false≢true h)
  any_left test (x ∷ own) e h =
      ⊎_elim (or_left (test x.op) (any_of test (own ++ e ∷ []))) (λ f. or_right (test x.op) (any_of test (own ++ e ∷ [])) (any_left test own e f))
      (or_cases (test x.op) (any_of test own) h)

  pub any_last : (test : HallOperation C → Bool) (own : List (HallAsk C A)) (e : HallAsk C A) → test e.op ≡ true → any_of test (own ++ e ∷ []) ≡ true
  any_last test [] e h = or_left (test e.op) false h
  any_last test (x ∷ own) e h = or_right (test x.op) (any_of test (own ++ e ∷ [])) (any_last test own e h)

  pub holds_push : (k : Key) (b : Bool) (own : List (HallAsk C A)) (e : HallAsk C A) → holds_from k b (own ++ e ∷ []) ≡ held_after k (holds_from k b own) e.op e.reply
  holds_push k b [] e = refl
  holds_push k b (x ∷ own) e = holds_push k (held_after k b x.op x.reply) own e

module _ {C A M : Type 0} where
  -- what is so after a history whose calls were allowed
  pub record Owned (opening : HallState C A M) (log : List (HallAsk C A)) (hall : HallState C A M) : Type 0 where
    pub memories : length hall.memories ≡ length opening.memories
    pub counted : length (keys_in hall) + summed_calls frees_key (calls_by 0 log) ≤ summed_calls adds_key (calls_by 0 log)
    pub known : (k : Key) → has_key k (keys_in hall) ≡ true → any_of (submits_key k) (calls_by 0 log) ≡ true
    pub held : (a : ℕ) (k : Key) → holds_key k (calls_by a log) ≡ true → (has_key k hall.taken ≡ true) × (has_key k (job_keys hall) ≡ false)
    pub alone : (a b : ℕ) (k : Key) → holds_key k (calls_by a log) ≡ true → holds_key k (calls_by b log) ≡ true → a ≡ b
    pub apart : Apart (job_keys hall)

  module _ (opening : HallState C A M) (log : List (HallAsk C A)) (old : HallState C A M) (o : Owned opening log old) (e : HallAsk C A) where
    abbrev more : List (HallAsk C A)
    more = log ++ e ∷ []

    by_own : (a : ℕ) → e.seat ≡ a → calls_by a more ≡ calls_by a log ++ e ∷ []
    by_own a is = calls_by-own a log e is

    by_other : (a : ℕ) → (e.seat ≡ a → ⊥) → calls_by a more ≡ calls_by a log
    by_other a n = calls_by-other a log e n

    holds_own : (a : ℕ) (k : Key) → e.seat ≡ a → holds_key k (calls_by a more) ≡ held_after k (holds_key k (calls_by a log)) e.op e.reply
    holds_own a k is = ap (holds_key k) (by_own a is) ∙ holds_push k false (calls_by a log) e

    holds_other : (a : ℕ) (k : Key) → (e.seat ≡ a → ⊥) → holds_key k (calls_by a more) ≡ holds_key k (calls_by a log)
    holds_other a k n = ap (holds_key k) (by_other a n)

    -- a call that changes no seat's keys
    holds_same : ((k : Key) (b : Bool) → held_after k b e.op e.reply ≡ b) → (a : ℕ) (k : Key) → holds_key k (calls_by a more) ≡ holds_key k (calls_by a log)
    holds_same same a k = go (cases_eq e.seat a)
      where
        go : (e.seat ≡ a) ⊎ (e.seat ≡ a → ⊥) → holds_key k (calls_by a more) ≡ holds_key k (calls_by a log)
        go (inl is) = holds_own a k is ∙ same k (holds_key k (calls_by a log))
        go (inr n) = holds_other a k n

    any_later : (test : HallOperation C → Bool) → any_of test (calls_by 0 log) ≡ true → any_of test (calls_by 0 more) ≡ true
    any_later test h = go (cases_eq e.seat 0)
      where
        go : (e.seat ≡ 0) ⊎ (e.seat ≡ 0 → ⊥) → any_of test (calls_by 0 more) ≡ true
        go (inl is) = ap (any_of test) (by_own 0 is) ∙ any_left test (calls_by 0 log) e h
        go (inr n) = ap (any_of test) (by_other 0 n) ∙ h

    number_same : (count : HallOperation C → HallAnswer A → ℕ) → count e.op e.reply ≡ 0 → summed_calls count (calls_by 0 more) ≡ summed_calls count (calls_by 0 log)
    number_same count none = go (cases_eq e.seat 0)
      where
        go : (e.seat ≡ 0) ⊎ (e.seat ≡ 0 → ⊥) → summed_calls count (calls_by 0 more) ≡ summed_calls count (calls_by 0 log)
        go (inl is) =
            let f : summed_calls count (calls_by 0 log ++ e ∷ []) ≡ summed_calls count (calls_by 0 log) + count e.op e.reply = number_push count (calls_by 0 log) e in
            ap (summed_calls count) (by_own 0 is) ∙ (let g : summed_calls count (calls_by 0 log ++ e ∷ []) ≡ summed_calls count (calls_by 0 log) = omega arith in g)
        go (inr n) = ap (summed_calls count) (by_other 0 n)

    -- a call that moves no key
    quiet : (new : HallState C A M) → old.jobs ≡ new.jobs → old.taken ≡ new.taken → old.outcomes ≡ new.outcomes → length new.memories ≡ length old.memories
        → ((k : Key) (b : Bool) → held_after k b e.op e.reply ≡ b) → adds_key e.op e.reply ≡ 0 → frees_key e.op e.reply ≡ 0 → Owned opening more new
    quiet new jobs taken outs memories same adds frees =
        let keys : keys_in old ≡ keys_in new = (λ i. map (λ (j : Job). j.key) (jobs i) ++ (taken i ++ map (λ (o : JobOutcome). o.key) (outs i))) in
        let before : length (keys_in old) + summed_calls frees_key (calls_by 0 log) ≤ summed_calls adds_key (calls_by 0 log) = o.counted in
        let a : summed_calls adds_key (calls_by 0 more) ≡ summed_calls adds_key (calls_by 0 log) = number_same adds_key adds in
        let f : summed_calls frees_key (calls_by 0 more) ≡ summed_calls frees_key (calls_by 0 log) = number_same frees_key frees in
        let n : length (keys_in old) ≡ length (keys_in new) = ap length keys in
        record {
          memories = memories ∙ o.memories;
          counted = omega arith;
          known = λ k h. any_later (submits_key k) (o.known k (ap (has_key k) keys ∙ h));
          held = λ a k h.
              let t : (has_key k old.taken ≡ true) × (has_key k (job_keys old) ≡ false) = o.held a k (sym (holds_same same a k) ∙ h) in
              (ap (has_key k) (sym taken) ∙ t.0, ap (λ js. has_key k (map (λ (j : Job). j.key) js)) (sym jobs) ∙ t.1);
          alone = λ a b k h l. o.alone a b k (sym (holds_same same a k) ∙ h) (sym (holds_same same b k) ∙ l);
          apart = subst (λ js. Apart (map (λ (j : Job). j.key) js)) jobs o.apart;
        }

    -- an outcome is collected
    collected : (key : Key) (settled : Settled) (later : List JobOutcome) (new : HallState C A M) → e.op ≡ collect → e.reply ≡ outcome key settled
        → old.outcomes ≡ outcome_of key settled ∷ later → new ≡ record old { outcomes = later } → Owned opening more new
    collected key settled later new op answer first is =
        subst (Owned opening more) (sym is)
        (record {
          memories = o.memories;
          counted = count (cases_eq e.seat 0);
          known = λ k h. any_later (submits_key k) (o.known k (known k (where_in k (record old { outcomes = later }) h)));
          held = λ a k h. o.held a k (sym (holds_same same a k) ∙ h);
          alone = λ a b k h l. o.alone a b k (sym (holds_same same a k) ∙ h) (sym (holds_same same b k) ∙ l);
          apart = o.apart;
        })
      where
        same : (k : Key) (b : Bool) → held_after k b e.op e.reply ≡ b
        same k b = (λ i. held_after k b (op i) (answer i))

        known : (k : Key) → (has_key k (job_keys old) ≡ true) ⊎ ((has_key k old.taken ≡ true) ⊎ (has_key k (map (λ (x : JobOutcome). x.key) later) ≡ true)) → has_key k (keys_in old) ≡ true
        known k (inl h) = in_jobs k old h
        known k (inr (inl h)) = in_taken k old h
        known k (inr (inr h)) =
            in_outcomes k old (ap (λ os. has_key k (map (λ (x : JobOutcome). x.key) os)) first ∙ or_right (is_same key k) (has_key k (map (λ (x : JobOutcome). x.key) later)) h)

        count : (e.seat ≡ 0) ⊎ (e.seat ≡ 0 → ⊥)
            → length (keys_in (record old { outcomes = later })) + summed_calls frees_key (calls_by 0 more) ≤ summed_calls adds_key (calls_by 0 more)
        count c =
            let before : length (keys_in old) + summed_calls frees_key (calls_by 0 log) ≤ summed_calls adds_key (calls_by 0 log) = o.counted in
            let n : length (keys_in old) ≡ length (job_keys old) + (length old.taken + length (outcome_keys old)) = counts old in
            let m : length (keys_in (record old { outcomes = later })) ≡ length (job_keys old) + (length old.taken + length (map (λ (x : JobOutcome). x.key) later)) =
            counts (record old { outcomes = later }) in
            let l : length (outcome_keys old) ≡ suc (length (map (λ (x : JobOutcome). x.key) later)) = ap (λ os. length (map (λ (x : JobOutcome). x.key) os)) first in
            let a : summed_calls adds_key (calls_by 0 more) ≡ summed_calls adds_key (calls_by 0 log) = number_same adds_key (λ i. adds_key (op i) (answer i)) in
            let f : summed_calls frees_key (calls_by 0 more) ≤ summed_calls frees_key (calls_by 0 log) + 1 = freed c in
            omega arith
          where
            freed : (e.seat ≡ 0) ⊎ (e.seat ≡ 0 → ⊥) → summed_calls frees_key (calls_by 0 more) ≤ summed_calls frees_key (calls_by 0 log) + 1
            freed (inl is) =
                let p : summed_calls frees_key (calls_by 0 log ++ e ∷ []) ≡ summed_calls frees_key (calls_by 0 log) + frees_key e.op e.reply = number_push frees_key (calls_by 0 log) e in
                let q : frees_key e.op e.reply ≡ 1 = (λ i. frees_key (op i) (answer i)) in
                let r : summed_calls frees_key (calls_by 0 more) ≡ summed_calls frees_key (calls_by 0 log ++ e ∷ []) = ap (summed_calls frees_key) (by_own 0 is) in
                omega arith
            freed (inr n) =
                let r : summed_calls frees_key (calls_by 0 more) ≡ summed_calls frees_key (calls_by 0 log) = ap (summed_calls frees_key) (by_other 0 n) in
                omega arith

    -- a job is submitted
    submitted : (key : Key) (payload : List ℕ) (new : HallState C A M) → e.op ≡ submit key payload → e.reply ≡ done → e.seat ≡ 0 → any_of (submits_key key) (calls_by 0 log) ≡ false
        → new ≡ record old { jobs = old.jobs ++ job_of key payload ∷ [] } → Owned opening more new
    submitted key payload new op answer by_first unused is =
        subst (Owned opening more) (sym is)
        (record {
          memories = o.memories;
          counted = count;
          known = λ k h. known k (where_in k (with_job old key payload) h);
          held = λ a k h. held a k (o.held a k (sym (holds_same same a k) ∙ h));
          alone = λ a b k h l. o.alone a b k (sym (holds_same same a k) ∙ h) (sym (holds_same same b k) ∙ l);
          apart = subst Apart (sym pushed) (apart_push (job_keys old) key o.apart (false_from_ne_true (has_key key (job_keys old)) (λ h. fresh (in_jobs key old h))));
        })
      where
        same : (k : Key) (b : Bool) → held_after k b e.op e.reply ≡ b
        same k b = (λ i. held_after k b (op i) (answer i))

        pushed : job_keys (with_job old key payload) ≡ job_keys old ++ key ∷ []
        pushed = map-append (λ (j : Job). j.key) old.jobs (job_of key payload ∷ [])

        fresh : has_key key (keys_in old) ≡ true → ⊥
        fresh h = true≢false (sym (o.known key h) ∙ unused)

        mine : (k : Key) → key ≡ k → any_of (submits_key k) (calls_by 0 more) ≡ true
        mine k q = ap (any_of (submits_key k)) (by_own 0 by_first)
            ∙ any_last (submits_key k) (calls_by 0 log) e (ap (submits_key k) op ∙ ap (λ x. is_same x k) q ∙ is_same_self k)

        known : (k : Key) → (has_key k (job_keys (with_job old key payload)) ≡ true) ⊎ ((has_key k old.taken ≡ true) ⊎ (has_key k (outcome_keys old) ≡ true)) → any_of (submits_key k) (calls_by 0 more) ≡ true
        known k (inl h) =
            ⊎_elim (λ f. any_later (submits_key k) (o.known k (in_jobs k old f))) (λ f. mine k (has_one k key f)) (has_either k (job_keys old) (key ∷ []) (ap (has_key k) (sym pushed) ∙ h))
        known k (inr (inl h)) = any_later (submits_key k) (o.known k (in_taken k old h))
        known k (inr (inr h)) = any_later (submits_key k) (o.known k (in_outcomes k old h))

        held : (a : ℕ) (k : Key) → (has_key k old.taken ≡ true) × (has_key k (job_keys old) ≡ false) → (has_key k old.taken ≡ true) × (has_key k (job_keys (with_job old key payload)) ≡ false)
        held a k t = (
          t.0,
          false_from_ne_true (has_key k (job_keys (with_job old key payload)))
              (λ h. ⊎_elim (λ f. true≢false (sym f ∙ t.1)) (λ f. fresh (in_taken key old (ap (λ x. has_key x old.taken) (has_one k key f) ∙ t.0)))
              (has_either k (job_keys old) (key ∷ []) (ap (has_key k) (sym pushed) ∙ h))),
        )

        count : length (keys_in (with_job old key payload)) + summed_calls frees_key (calls_by 0 more) ≤ summed_calls adds_key (calls_by 0 more)
        count =
            let before : length (keys_in old) + summed_calls frees_key (calls_by 0 log) ≤ summed_calls adds_key (calls_by 0 log) = o.counted in
            let n : length (keys_in old) ≡ length (job_keys old) + (length old.taken + length (outcome_keys old)) = counts old in
            let m : length (keys_in (with_job old key payload)) ≡ length (job_keys (with_job old key payload)) + (length old.taken + length (outcome_keys old)) = counts (with_job old key payload) in
            let l : length (job_keys (with_job old key payload)) ≡ length (job_keys old) + 1 = ap length pushed ∙ length-append (job_keys old) (key ∷ []) in
            let f : summed_calls frees_key (calls_by 0 more) ≡ summed_calls frees_key (calls_by 0 log) = number_same frees_key (λ i. frees_key (op i) (answer i)) in
            let p : summed_calls adds_key (calls_by 0 log ++ e ∷ []) ≡ summed_calls adds_key (calls_by 0 log) + adds_key e.op e.reply = number_push adds_key (calls_by 0 log) e in
            let q : adds_key e.op e.reply ≡ 1 = (λ i. adds_key (op i) (answer i)) in
            let r : summed_calls adds_key (calls_by 0 more) ≡ summed_calls adds_key (calls_by 0 log ++ e ∷ []) = ap (summed_calls adds_key) (by_own 0 by_first) in
            omega arith

    -- a job is taken
    taken : (key : Key) (payload : List ℕ) (later : List Job) (new : HallState C A M) → e.op ≡ take_job → e.reply ≡ job key payload → old.jobs ≡ job_of key payload ∷ later
        → new ≡ record old { jobs = later; taken = old.taken ++ key ∷ [] } → Owned opening more new
    taken key payload later new op answer first is =
        subst (Owned opening more) (sym is)
        (record {
          memories = o.memories;
          counted = count;
          known = λ k h. any_later (submits_key k) (o.known k (known k (where_in k (with_taken old key later) h)));
          held = λ a k h. held a k (either a k h);
          alone = λ a b k h l. alone a b k (either a k h) (either b k l);
          apart = apart_now.1;
        })
      where
        keys_first : job_keys old ≡ key ∷ job_keys (with_taken old key later)
        keys_first = ap (map (λ (j : Job). j.key)) first

        apart_now : (has_key key (job_keys (with_taken old key later)) ≡ false) × Apart (job_keys (with_taken old key later))
        apart_now = subst Apart keys_first o.apart

        unheld : (a : ℕ) → holds_key key (calls_by a log) ≡ true → ⊥
        unheld a h = true≢false (sym (ap (has_key key) keys_first ∙ has_self key (job_keys (with_taken old key later))) ∙ (o.held a key h).1)

        either : (a : ℕ) (k : Key) → holds_key k (calls_by a more) ≡ true → ((key ≡ k) × (e.seat ≡ a)) ⊎ (holds_key k (calls_by a log) ≡ true)
        either a k h = go (cases_eq e.seat a)
          where
            own : e.seat ≡ a → (b : Bool) → is_same key k ≡ b → (if b then true else holds_key k (calls_by a log)) ≡ true
                → ((key ≡ k) × (e.seat ≡ a)) ⊎ (holds_key k (calls_by a log) ≡ true)
            own is true s f = inl (same_key key k s, is)
            own is false s f = inr f

            go : (e.seat ≡ a) ⊎ (e.seat ≡ a → ⊥) → ((key ≡ k) × (e.seat ≡ a)) ⊎ (holds_key k (calls_by a log) ≡ true)
            go (inl is) =
                own is (is_same key k) refl (sym (λ i. held_after k (holds_key k (calls_by a log)) (op i) (answer i)) ∙ sym (holds_own a k is) ∙ h)
            go (inr n) = inr (sym (holds_other a k n) ∙ h)

        held : (a : ℕ) (k : Key) → ((key ≡ k) × (e.seat ≡ a)) ⊎ (holds_key k (calls_by a log) ≡ true) → (has_key k (with_taken old key later).taken ≡ true) × (has_key k (job_keys (with_taken old key later)) ≡ false)
        held a k (inl t) =
            subst (λ x. (has_key x (with_taken old key later).taken ≡ true) × (has_key x (job_keys (with_taken old key later)) ≡ false)) t.0 (has_right key old.taken (key ∷ []) (has_self key []), apart_now.0)
        held a k (inr h) =
            let t : (has_key k old.taken ≡ true) × (has_key k (job_keys old) ≡ false) = o.held a k h in
            (has_left k old.taken (key ∷ []) t.0, (or_parts (is_same key k) (has_key k (job_keys (with_taken old key later))) (sym (ap (has_key k) keys_first) ∙ t.1)).1)

        alone : (a b : ℕ) (k : Key) → ((key ≡ k) × (e.seat ≡ a)) ⊎ (holds_key k (calls_by a log) ≡ true) → ((key ≡ k) × (e.seat ≡ b)) ⊎ (holds_key k (calls_by b log) ≡ true)
            → a ≡ b
        alone a b k (inl t) (inl u) = sym t.1 ∙ u.1
        alone a b k (inl t) (inr h) = absurd (unheld b (ap (λ x. holds_key x (calls_by b log)) t.0 ∙ h))
        alone a b k (inr h) (inl u) = absurd (unheld a (ap (λ x. holds_key x (calls_by a log)) u.0 ∙ h))
        alone a b k (inr h) (inr l) = o.alone a b k h l

        known : (k : Key) → (has_key k (job_keys (with_taken old key later)) ≡ true) ⊎ ((has_key k (with_taken old key later).taken ≡ true) ⊎ (has_key k (outcome_keys old) ≡ true)) → has_key k (keys_in old) ≡ true
        known k (inl h) = in_jobs k old (ap (has_key k) keys_first ∙ or_right (is_same key k) (has_key k (job_keys (with_taken old key later))) h)
        known k (inr (inl h)) =
            ⊎_elim (in_taken k old) (λ f. in_jobs k old (ap (has_key k) keys_first ∙ or_left (is_same key k) (has_key k (job_keys (with_taken old key later))) (ap (λ x. is_same x k) (has_one k key f) ∙ is_same_self k)))
            (has_either k old.taken (key ∷ []) h)
        known k (inr (inr h)) = in_outcomes k old h

        count : length (keys_in (with_taken old key later)) + summed_calls frees_key (calls_by 0 more) ≤ summed_calls adds_key (calls_by 0 more)
        count =
            let before : length (keys_in old) + summed_calls frees_key (calls_by 0 log) ≤ summed_calls adds_key (calls_by 0 log) = o.counted in
            let n : length (keys_in old) ≡ length (job_keys old) + (length old.taken + length (outcome_keys old)) = counts old in
            let m : length (keys_in (with_taken old key later)) ≡ length (job_keys (with_taken old key later)) + (length (with_taken old key later).taken + length (outcome_keys old)) = counts (with_taken old key later) in
            let l : length (job_keys old) ≡ suc (length (job_keys (with_taken old key later))) = ap length keys_first in
            let t : length (with_taken old key later).taken ≡ length old.taken + 1 = length-append old.taken (key ∷ []) in
            let a : summed_calls adds_key (calls_by 0 more) ≡ summed_calls adds_key (calls_by 0 log) = number_same adds_key (λ i. adds_key (op i) (answer i)) in
            let f : summed_calls frees_key (calls_by 0 more) ≡ summed_calls frees_key (calls_by 0 log) = number_same frees_key (λ i. frees_key (op i) (answer i)) in
            omega arith

    -- an outcome is put
    put_back : (key : Key) (settled : Settled) (new : HallState C A M) → e.op ≡ put key settled → holds_key key (calls_by e.seat log) ≡ true
        → new ≡ record old { taken = without key old.taken; outcomes = old.outcomes ++ outcome_of key settled ∷ [] } → Owned opening more new
    put_back key settled new op mine is =
        subst (Owned opening more) (sym is)
        (record {
          memories = o.memories;
          counted = count;
          known = λ k h. any_later (submits_key k) (o.known k (known k (where_in k (with_put old key settled) h)));
          held = λ a k h. held a k (kept a k h);
          alone = λ a b k h l. o.alone a b k (kept a k h).0 (kept b k l).0;
          apart = o.apart;
        })
      where
        there : has_key key old.taken ≡ true
        there = (o.held e.seat key mine).0

        pushed : outcome_keys (with_put old key settled) ≡ outcome_keys old ++ key ∷ []
        pushed = map-append (λ (x : JobOutcome). x.key) old.outcomes (outcome_of key settled ∷ [])

        kept : (a : ℕ) (k : Key) → holds_key k (calls_by a more) ≡ true → (holds_key k (calls_by a log) ≡ true) × (key ≡ k → ⊥)
        kept a k h = go (cases_eq e.seat a)
          where
            own : (b : Bool) → is_same key k ≡ b → (if b then false else holds_key k (calls_by a log)) ≡ true → (holds_key k (calls_by a log) ≡ true) × (key ≡ k → ⊥)
            own true s f = absurd (false≢true f)
            own false s f = (f, λ q. true≢false (sym (ap (λ x. is_same x k) q ∙ is_same_self k) ∙ s))

            go : (e.seat ≡ a) ⊎ (e.seat ≡ a → ⊥) → (holds_key k (calls_by a log) ≡ true) × (key ≡ k → ⊥)
            go (inl is) = own (is_same key k) refl (sym (λ i. held_after k (holds_key k (calls_by a log)) (op i) e.reply) ∙ sym (holds_own a k is) ∙ h)
            go (inr n) =
                let f : holds_key k (calls_by a log) ≡ true = sym (holds_other a k n) ∙ h in
                (f, λ q. n (o.alone e.seat a k (ap (λ x. holds_key x (calls_by e.seat log)) (sym q) ∙ mine) f))

        held : (a : ℕ) (k : Key) → (holds_key k (calls_by a log) ≡ true) × (key ≡ k → ⊥) → (has_key k (with_put old key settled).taken ≡ true) × (has_key k (job_keys old) ≡ false)
        held a k t =
            let u : (has_key k old.taken ≡ true) × (has_key k (job_keys old) ≡ false) = o.held a k t.0 in
            (without_other k key old.taken t.1 u.0, u.1)

        known : (k : Key) → (has_key k (job_keys old) ≡ true) ⊎ ((has_key k (with_put old key settled).taken ≡ true) ⊎ (has_key k (outcome_keys (with_put old key settled)) ≡ true)) → has_key k (keys_in old) ≡ true
        known k (inl h) = in_jobs k old h
        known k (inr (inl h)) = in_taken k old (has_without k key old.taken h)
        known k (inr (inr h)) =
            ⊎_elim (in_outcomes k old) (λ f. in_taken k old (ap (λ x. has_key x old.taken) (sym (has_one k key f)) ∙ there))
            (has_either k (outcome_keys old) (key ∷ []) (ap (has_key k) (sym pushed) ∙ h))

        count : length (keys_in (with_put old key settled)) + summed_calls frees_key (calls_by 0 more) ≤ summed_calls adds_key (calls_by 0 more)
        count =
            let before : length (keys_in old) + summed_calls frees_key (calls_by 0 log) ≤ summed_calls adds_key (calls_by 0 log) = o.counted in
            let n : length (keys_in old) ≡ length (job_keys old) + (length old.taken + length (outcome_keys old)) = counts old in
            let m : length (keys_in (with_put old key settled)) ≡ length (job_keys old) + (length (with_put old key settled).taken + length (outcome_keys (with_put old key settled))) = counts (with_put old key settled) in
            let l : length (outcome_keys (with_put old key settled)) ≡ length (outcome_keys old) + 1 = ap length pushed ∙ length-append (outcome_keys old) (key ∷ []) in
            let t : suc (length (with_put old key settled).taken) ≡ length old.taken = length-without key old.taken there in
            let a : summed_calls adds_key (calls_by 0 more) ≡ summed_calls adds_key (calls_by 0 log) = number_same adds_key (λ i. adds_key (op i) e.reply) in
            let f : summed_calls frees_key (calls_by 0 more) ≡ summed_calls frees_key (calls_by 0 log) = number_same frees_key (λ i. frees_key (op i) e.reply) in
            omega arith

  -- the memories once a call's service, where there is one, has answered
  abbrev pub moved : (r : ServiceRules C A M) (memories : List M) (call : C) → Option M → List M
  moved r memories call None = memories
  moved r memories call (Some m) = slice_set memories (r.slot call) (r.rule call m).1

  same_moved : (r : ServiceRules C A M) (memories : List M) (call : C) (x : Option M) → length (moved r memories call x) ≡ length memories
  same_moved r memories call None = refl
  same_moved r memories call (Some m) = length-set memories (r.slot call) (r.rule call m).1

  -- they are as many
  pub same_number : (r : ServiceRules C A M) (memories : List M) (call : C) → length (after_call r memories call) ≡ length memories
  same_number r memories call = same_moved r memories call (slice_get memories (r.slot call))

  module _ (r : ServiceRules C A M) (opening : HallState C A M) (log : List (HallAsk C A)) (old : HallState C A M) (o : Owned opening log old) (seat : ℕ) (new : HallState C A M) where
    abbrev call_of : HallOperation C → HallAnswer A → HallAsk C A
    call_of op answer = seat_ask seat op answer

    abbrev Next : HallOperation C → HallAnswer A → Type 0
    Next op answer = Owned opening (log ++ call_of op answer ∷ []) new

    -- a call that leaves the hall, or its journal, its memories and its count alone
    unchanged : (op : HallOperation C) (answer : HallAnswer A) → new ≡ old → ((k : Key) (b : Bool) → held_after k b op answer ≡ b) → adds_key op answer ≡ 0 → frees_key op answer ≡ 0 → Next op answer
    unchanged op answer e same adds frees =
        quiet opening log old o (call_of op answer) new (ap (λ (h : HallState C A M). h.jobs) (sym e)) (ap (λ (h : HallState C A M). h.taken) (sym e)) (ap (λ (h : HallState C A M). h.outcomes) (sym e))
        (ap (λ (h : HallState C A M). length h.memories) e) same adds frees

    applies : (key : Key) (call : C) (answer : HallAnswer A) (memories : List M) → length memories ≡ length old.memories → old.jobs ≡ new.jobs → old.taken ≡ new.taken → old.outcomes ≡ new.outcomes
        → new.memories ≡ memories → Next (apply key call) answer
    applies key call answer memories n jobs taken outs e =
        quiet opening log old o (call_of (apply key call) answer) new jobs taken outs (ap length e ∙ n) (λ k b. refl) refl refl

    takes_effect : (key : Key) (call : C) (reply : A) (answer : HallAnswer A) (faults : ℕ) → TakesEffect r old key call reply faults new → Next (apply key call) answer
    takes_effect key call reply answer faults t =
        applies key call answer (after_call r old.memories call) (same_number r old.memories call) (ap (λ (h : HallState C A M). h.jobs) (sym t.1))
        (ap (λ (h : HallState C A M). h.taken) (sym t.1)) (ap (λ (h : HallState C A M). h.outcomes) (sym t.1)) (ap (λ (h : HallState C A M). h.memories) t.1)

    counts_faults : (key : Key) (call : C) (answer : HallAnswer A) (faults : ℕ) → new ≡ record old { faults = faults } → Next (apply key call) answer
    counts_faults key call answer faults t =
        applies key call answer old.memories refl (ap (λ (h : HallState C A M). h.jobs) (sym t))
        (ap (λ (h : HallState C A M). h.taken) (sym t)) (ap (λ (h : HallState C A M). h.outcomes) (sym t)) (ap (λ (h : HallState C A M). h.memories) t)

    after_apply : (key : Key) (call : C) (answer : HallAnswer A) (faults : ℕ) → ApplyGives r old key call faults answer new → Next (apply key call) answer
    after_apply key call (applied reply) faults g = takes_effect key call reply (applied reply) faults g.1
    after_apply key call no_memory faults g =
        ⊎_elim (counts_faults key call no_memory faults) (λ (t : (reply : A) × TakesEffect r old key call reply faults new). takes_effect key call t.0 no_memory faults t.1) g.1
    after_apply key call journal_fault faults g =
        applies key call journal_fault (after_call r old.memories call) (same_number r old.memories call) (ap (λ (h : HallState C A M). h.jobs) (sym g.2))
        (ap (λ (h : HallState C A M). h.taken) (sym g.2)) (ap (λ (h : HallState C A M). h.outcomes) (sym g.2)) (ap (λ (h : HallState C A M). h.memories) g.2)
    after_apply key call is_broken faults g = counts_faults key call is_broken faults g.1
    after_apply key call _ faults g = absurd g

    pub after_op : (op : HallOperation C) (answer : HallAnswer A) → HallGives r old op answer new → OwnAsksAllow r opening seat (calls_by seat log) op → Next op answer
    after_op (submit key payload) done g may =
        submitted opening log old o (call_of (submit key payload) done) key payload new refl refl may.0 (subst (λ a. any_of (submits_key key) (calls_by a log) ≡ false) may.0 may.2) g.1
    after_op (submit key payload) is_closed g may = unchanged (submit key payload) is_closed g.1 (λ k b. refl) refl refl
    after_op (submit key payload) _ g may = absurd g
    after_op take_job (job key payload) g may = taken opening log old o (call_of take_job (job key payload)) key payload g.0 new refl refl g.1 g.2
    after_op take_job empty g may = unchanged take_job empty g.2 (λ k b. refl) refl refl
    after_op take_job is_closed g may = unchanged take_job is_closed g.2 (λ k b. refl) refl refl
    after_op take_job _ g may = absurd g
    after_op (apply key call) answer g may = after_apply key call answer g.0 g.2
    after_op (put key settled) done g may = put_back opening log old o (call_of (put key settled) done) key settled new refl may g
    after_op (put key settled) _ g may = absurd g
    after_op collect (outcome key settled) g may = collected opening log old o (call_of collect (outcome key settled)) key settled g.0 new refl refl g.1 g.2
    after_op collect empty g may = unchanged collect empty g.2 (λ k b. refl) refl refl
    after_op collect is_closed g may = unchanged collect is_closed g.2 (λ k b. refl) refl refl
    after_op collect _ g may = absurd g
    after_op close done g may =
        quiet opening log old o (call_of close done) new (ap (λ (h : HallState C A M). h.jobs) (sym g)) (ap (λ (h : HallState C A M). h.taken) (sym g)) (ap (λ (h : HallState C A M). h.outcomes) (sym g))
        (ap (λ (h : HallState C A M). length h.memories) g) (λ k b. refl) refl refl
    after_op close _ g may = absurd g

  pub owned_all : (r : ServiceRules C A M) (opening : HallState C A M) (front : List (HallAsk C A)) (back : List (HallCall C A M)) (hall : HallState C A M) → Owned opening front hall → IsHistory (HallGives r) hall back
      → AllAllowed (HallMay r) opening (front ++ asks_of back) → Owned opening (front ++ asks_of back) (meaning_after hall back)
  owned_all r opening front [] hall o history allowed = subst (λ log. Owned opening log hall) (sym (append-nil front)) o
  owned_all r opening front (e ∷ back) hall o history allowed =
      let same : (front ++ ask_of e ∷ []) ++ asks_of back ≡ front ++ ask_of e ∷ asks_of back = append_assoc front (ask_of e ∷ []) (asks_of back) in
      subst (λ log. Owned opening log (meaning_after e.after back)) same
      (owned_all r opening (front ++ ask_of e ∷ []) back e.after (after_op r opening front hall o e.seat e.after e.op e.reply history.0 (allowed front (asks_of back) (ask_of e) refl).1) history.1
      (subst (AllAllowed (HallMay r) opening) (sym same) allowed))

  pub owned_first : (opening : HallState C A M) → IsNewlyOpened opening → Owned opening [] opening
  owned_first opening n =
      let none : keys_in opening ≡ [] = (λ i. map (λ (j : Job). j.key) (n.jobs i) ++ (n.taken i ++ map (λ (x : JobOutcome). x.key) (n.outcomes i))) in
      let empty_now : length (keys_in opening) ≡ 0 = ap length none in
      record {
        memories = refl;
        counted = omega arith;
        known = λ k h. absurd (false≢true (sym (ap (has_key k) none) ∙ h));
        held = λ a k h. absurd (false≢true h);
        alone = λ a b k h l. absurd (false≢true h);
        apart = subst (λ js. Apart (map (λ (j : Job). j.key) js)) (sym n.jobs) tt;
      }

  pub can_do : (r : ServiceRules C A M) (opening : HallState C A M) (log : List (HallAsk C A)) (hall : HallState C A M) (seat : ℕ) (op : HallOperation C) → Owned opening log hall
      → OwnAsksAllow r opening seat (calls_by seat log) op → HallCan r hall op
  can_do r opening log hall seat (submit key payload) o may =
      let zero_is : seat ≡ 0 = may.0 in
      let n : length (keys_in hall) + summed_calls frees_key (calls_by 0 log) ≤ summed_calls adds_key (calls_by 0 log) = o.counted in
      let m : summed_calls adds_key (calls_by 0 log) < most_connections + summed_calls frees_key (calls_by 0 log) =
      subst (λ a. summed_calls adds_key (calls_by a log) < most_connections + summed_calls frees_key (calls_by a log)) zero_is may.1 in
      let fresh : any_of (submits_key key) (calls_by 0 log) ≡ false = subst (λ a. any_of (submits_key key) (calls_by a log) ≡ false) zero_is may.2 in
      (omega arith, false_from_ne_true (has_key key (keys_in hall)) (λ h. true≢false (sym (o.known key h) ∙ fresh)), may.3)
  can_do r opening log hall seat take_job o may = tt
  can_do r opening log hall seat (apply key call) o may =
      ((o.held seat key may.0).0, subst (λ n. r.slot call < n) (sym o.memories) may.2)
  can_do r opening log hall seat (put key settled) o may = (o.held seat key may).0
  can_do r opening log hall seat collect o may = tt
  can_do r opening log hall seat close o may = tt

  pub suffices : (r : ServiceRules C A M) (opening : HallState C A M) (seat : ℕ) (log : List (HallCall C A M)) (op : HallOperation C) → IsHistory (HallGives r) opening log
      → AllAllowed (HallMay r) opening (asks_of log) → HallMay r opening seat (calls_by seat (asks_of log)) op → HallCan r (meaning_after opening log) op
  suffices r opening seat log op history allowed may =
      can_do r opening (asks_of log) (meaning_after opening log) seat op (owned_all r opening [] log opening (owned_first opening may.0) history allowed) may.1
