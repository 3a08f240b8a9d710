-- Facts about keys, and about lists of keys.
use Rattle.std.proofs.Common.{◌≡◌, ℕ, suc, ◌+◌, ◌⊎◌, Bool, true, false, ◌||◌, ◌==◌, if◌then◌else◌, List, [], ◌∷◌, ◌++◌, map, length, refl, sym, ap, ◌∙◌, inl, inr, ⊎_elim, length-append, eq-eqb}
use Rattle.std.proofs.lemmas.Bool.{false≢true, and_from, and_parts, or_left, or_right, or_cases, eqb-true}
use Rattle.streams.specs.declared.outcomes.Settled.{Settled}
use Rattle.host_model.specs.declared.key.Key.{Key}
use Rattle.machine_model.specs.HallState.{key_of, is_same, Job, JobOutcome, HallState, has_key, without, keys_in}
use Rattle.machine_model.specs.HallRule.{job_of, outcome_of}

-- keys that are the same
pub same_key : (x y : Key) → is_same x y ≡ true → x ≡ y
same_key x y e =
    let parts : ((x.c == y.c) ≡ true) × ((x.i == y.i) ≡ true) = and_parts (x.c == y.c) (x.i == y.i) e in
    (λ i. key_of (eqb-true x.c y.c parts.0 i) (eqb-true x.i y.i parts.1 i))

pub is_same_self : (x : Key) → is_same x x ≡ true
is_same_self x = and_from (x.c == x.c) (x.i == x.i) (eq-eqb x.c x.c refl) (eq-eqb x.i x.i refl)

-- keys in lists
pub has_left : (k : Key) (xs ys : List Key) → has_key k xs ≡ true → has_key k (xs ++ ys) ≡ true
has_left k [] ys e = absurd (false≢true e)
has_left k (x ∷ xs) ys e =
    ⊎_elim (or_left (is_same x k) (has_key k (xs ++ ys))) (λ f. or_right (is_same x k) (has_key k (xs ++ ys)) (has_left k xs ys f)) (or_cases (is_same x k) (has_key k xs) e)

pub has_right : (k : Key) (xs ys : List Key) → has_key k ys ≡ true → has_key k (xs ++ ys) ≡ true
has_right k [] ys e = e
has_right k (x ∷ xs) ys e = or_right (is_same x k) (has_key k (xs ++ ys)) (has_right k xs ys e)

pub has_either : (k : Key) (xs ys : List Key) → has_key k (xs ++ ys) ≡ true → (has_key k xs ≡ true) ⊎ (has_key k ys ≡ true)
has_either k [] ys e = inr e
has_either k (x ∷ xs) ys e =
    ⊎_elim (λ f. inl (or_left (is_same x k) (has_key k xs) f)) (λ f. ⊎_elim (λ g. inl (or_right (is_same x k) (has_key k xs) g)) (λ g. inr g) (has_either k xs ys f))
    (or_cases (is_same x k) (has_key k (xs ++ ys)) e)

pub has_one : (k x : Key) → has_key k (x ∷ []) ≡ true → x ≡ k
has_one k x e = go (or_cases (is_same x k) false e)
  where
    go : (is_same x k ≡ true) ⊎ (false ≡ true) → x ≡ k
    go (inl f) = same_key x k f
    go (inr f) = absurd (false≢true f)

pub has_self : (k : Key) (ks : List Key) → has_key k (k ∷ ks) ≡ true
has_self k ks = or_left (is_same k k) (has_key k ks) (is_same_self k)

-- a list without a key has no more keys, has the others, and is one shorter
pub has_without : (k x : Key) (xs : List Key) → has_key k (without x xs) ≡ true → has_key k xs ≡ true
has_without k x [] e = e
has_without k x (y ∷ xs) e = go (is_same y x) e (has_without k x xs)
  where
    go : (b : Bool) → has_key k (if b then xs else y ∷ without x xs) ≡ true → (has_key k (without x xs) ≡ true → has_key k xs ≡ true) → (is_same y k || has_key k xs) ≡ true
    go true f rec = or_right (is_same y k) (has_key k xs) f
    go false f rec =
        ⊎_elim (or_left (is_same y k) (has_key k xs)) (λ g. or_right (is_same y k) (has_key k xs) (rec g)) (or_cases (is_same y k) (has_key k (without x xs)) f)

pub without_other : (k x : Key) (xs : List Key) → (x ≡ k → ⊥) → has_key k xs ≡ true → has_key k (without x xs) ≡ true
without_other k x [] n e = e
without_other k x (y ∷ xs) n e = go (is_same y x) refl (or_cases (is_same y k) (has_key k xs) e) (without_other k x xs n)
  where
    go : (b : Bool) → is_same y x ≡ b → (is_same y k ≡ true) ⊎ (has_key k xs ≡ true) → (has_key k xs ≡ true → has_key k (without x xs) ≡ true)
        → has_key k (if b then xs else y ∷ without x xs) ≡ true
    go true s (inl f) rec = absurd (n (sym (same_key y x s) ∙ same_key y k f))
    go true s (inr f) rec = f
    go false s (inl f) rec = or_left (is_same y k) (has_key k (without x xs)) f
    go false s (inr f) rec = or_right (is_same y k) (has_key k (without x xs)) (rec f)

pub length-without : (x : Key) (xs : List Key) → has_key x xs ≡ true → suc (length (without x xs)) ≡ length xs
length-without x [] e = absurd (false≢true e)
length-without x (y ∷ xs) e = go (is_same y x) e (length-without x xs)
  where
    go : (b : Bool) → (b || has_key x xs) ≡ true → (has_key x xs ≡ true → suc (length (without x xs)) ≡ length xs) → suc (length (if b then xs else y ∷ without x xs)) ≡ suc (length xs)
    go true f rec = refl
    go false f rec = ap suc (rec f)

module _ {C A M : Type 0} where
  abbrev pub job_keys : HallState C A M → List Key
  job_keys hall = map (λ (j : Job). j.key) hall.jobs

  abbrev pub outcome_keys : HallState C A M → List Key
  outcome_keys hall = map (λ (o : JobOutcome). o.key) hall.outcomes

  -- the halls after a Submit, a Take and a Put
  abbrev pub with_job : HallState C A M → Key → List ℕ → HallState C A M
  with_job old key payload = record old { jobs = old.jobs ++ job_of key payload ∷ [] }

  abbrev pub with_taken : HallState C A M → Key → List Job → HallState C A M
  with_taken old key later = record old { jobs = later; taken = old.taken ++ key ∷ [] }

  abbrev pub with_put : HallState C A M → Key → Settled → HallState C A M
  with_put old key settled = record old { taken = without key old.taken; outcomes = old.outcomes ++ outcome_of key settled ∷ [] }

  -- lengths of the keys
  pub counts : (hall : HallState C A M) → length (keys_in hall) ≡ length (job_keys hall) + (length hall.taken + length (outcome_keys hall))
  counts hall =
      length-append (job_keys hall) (hall.taken ++ outcome_keys hall) ∙ ap (λ n. length (job_keys hall) + n) (length-append hall.taken (outcome_keys hall))

  pub in_jobs : (k : Key) (hall : HallState C A M) → has_key k (job_keys hall) ≡ true → has_key k (keys_in hall) ≡ true
  in_jobs k hall e = has_left k (job_keys hall) (hall.taken ++ outcome_keys hall) e

  pub in_taken : (k : Key) (hall : HallState C A M) → has_key k hall.taken ≡ true → has_key k (keys_in hall) ≡ true
  in_taken k hall e = has_right k (job_keys hall) (hall.taken ++ outcome_keys hall) (has_left k hall.taken (outcome_keys hall) e)

  pub in_outcomes : (k : Key) (hall : HallState C A M) → has_key k (outcome_keys hall) ≡ true → has_key k (keys_in hall) ≡ true
  in_outcomes k hall e = has_right k (job_keys hall) (hall.taken ++ outcome_keys hall) (has_right k hall.taken (outcome_keys hall) e)

  pub where_in : (k : Key) (hall : HallState C A M) → has_key k (keys_in hall) ≡ true
      → (has_key k (job_keys hall) ≡ true) ⊎ ((has_key k hall.taken ≡ true) ⊎ (has_key k (outcome_keys hall) ≡ true))
  where_in k hall e = go (has_either k (job_keys hall) (hall.taken ++ outcome_keys hall) e)
    where
      go : (has_key k (job_keys hall) ≡ true) ⊎ (has_key k (hall.taken ++ outcome_keys hall) ≡ true)
          → (has_key k (job_keys hall) ≡ true) ⊎ ((has_key k hall.taken ≡ true) ⊎ (has_key k (outcome_keys hall) ≡ true))
      go (inl f) = inl f
      go (inr f) = inr (has_either k hall.taken (outcome_keys hall) f)
