-- What one loop sees of asks: each seat's are seen as one seat's, and what they come to is seen.
use Rattle.std.proofs.Common.{◌≡◌, ℕ, suc, ◌+◌, Bool, true, false, ◌==◌, ◌||◌, cond, if◌then◌else◌, List, [], ◌∷◌, ◌++◌, refl, sym, ap, ◌∙◌, subst, inl, inr, ◌⊎◌, arith, eq-eqb, ne_eqb, append_assoc}
use Rattle.std.proofs.lemmas.Bool.{cases_eq, false_from_ne_true}
use Rattle.host_model.specs.declared.key.Key.{Key}
use Rattle.host_model.specs.Journal.{JournalEntry}
use Rattle.call_history.specs.Calls.{seat_ask, calls_by, asks_of}
use Rattle.call_history.specs.Laws.{calls_by-first, calls_by-first-other}
use Rattle.machine_model.specs.HallState.{is_same, HallState}
use Rattle.machine_model.specs.HallRule.{HallOperation, submit, take_job, apply, put, collect, HallAnswer, done, job, outcome}
use Rattle.machine_model.specs.OwnCalls.{HallCall, HallAsk, submits_key, applies_key, any_of, adds_key, frees_key, summed_calls, holds_from}
use Rattle.machine_model.proofs.Keys.{same_key, is_same_self}
use Rattle.hub_model.specs.HubState.{loop_of_conn, own_key}
use Rattle.hub_model.specs.HubRule.{HubOperation, submit_from, take_one, apply_one, put_one, collect_for, close_all, HubCall, HubAsk}
use Rattle.hub_model.specs.HubMay.{submits_this, applies_this, adds_for, frees_for, hub_held_after, SubmitsItsOwn, SubmitOwn, any_ask, summed_asks, hub_holds_from}
use Rattle.hub_model.specs.Seen.{calm, own_answer, seen_part, seen_ask, seen_seat, asks_with, calls_with, seen_asks, seen_calls}
use Rattle.hub_model.proofs.Owned.{differ}

-- whichever the test says
pub both : (P : Bool → Type 0) → P true → P false → (b : Bool) → P b
both P t f true = t
both P t f false = f

module _ (n l : ℕ) where
  pub same_mine : (x y : Key) → loop_of_conn n x.c ≡ l → loop_of_conn n y.c ≡ l → is_same (own_key n x) (own_key n y) ≡ is_same x y
  same_mine x y p q = go (is_same x y) refl
    where
      go : (b : Bool) → is_same x y ≡ b → is_same (own_key n x) (own_key n y) ≡ b
      go true e = ap (λ (k : Key). is_same (own_key n k) (own_key n y)) (same_key x y e) ∙ is_same_self (own_key n y)
      go false e = differ n l x y p q e

  pub other_same : (x y : Key) → (loop_of_conn n x.c ≡ l → ⊥) → loop_of_conn n y.c ≡ l → is_same x y ≡ false
  other_same x y m q = false_from_ne_true (is_same x y) (λ e. m (ap (λ (k : Key). loop_of_conn n k.c) (same_key x y e) ∙ q))

module _ (l : ℕ) where
  pub zero_at : (y : ℕ) → y ≡ l → seen_seat l y ≡ 0
  zero_at y q = ap (λ (b : Bool). if b then 0 else suc y) (eq-eqb y l q)

  pub suc_at : (y : ℕ) → (y ≡ l → ⊥) → seen_seat l y ≡ suc y
  suc_at y m = ap (λ (b : Bool). if b then 0 else suc y) (ne_eqb y l m)

  -- no two seats are seen as one
  same_seat : (x y : ℕ) → seen_seat l x ≡ seen_seat l y → x ≡ y
  same_seat x y e = go (cases_eq x l) (cases_eq y l)
    where
      go : (x ≡ l) ⊎ (x ≡ l → ⊥) → (y ≡ l) ⊎ (y ≡ l → ⊥) → x ≡ y
      go (inl p) (inl q) = p ∙ sym q
      go (inl p) (inr m) = let both : 0 ≡ suc y = sym (zero_at x p) ∙ e ∙ suc_at y m in let f : ⊥ = omega arith in absurd f
      go (inr m) (inl q) = let both : suc x ≡ 0 = sym (suc_at x m) ∙ e ∙ zero_at y q in let f : ⊥ = omega arith in absurd f
      go (inr m) (inr k) = let both : suc x ≡ suc y = sym (suc_at x m) ∙ e ∙ suc_at y k in omega arith

module _ {C A : Type 0} where
  -- in front of others, an ask of this seat, and of another one
  pub front_own : (seat x : ℕ) (s : List (HallOperation C × HallAnswer A)) (rest : List (HallAsk C A)) → x ≡ seat → calls_by seat (asks_with x s ++ rest) ≡ asks_with x s ++ calls_by seat rest
  front_own seat x [] rest is = refl
  front_own seat x (a ∷ s) rest is = calls_by-first seat (seat_ask x a.0 a.1) rest is

  pub front_other : (seat x : ℕ) (s : List (HallOperation C × HallAnswer A)) (rest : List (HallAsk C A)) → (x ≡ seat → ⊥) → calls_by seat (asks_with x s ++ rest) ≡ calls_by seat rest
  front_other seat x [] rest m = refl
  front_other seat x (a ∷ s) rest m = calls_by-first-other seat (seat_ask x a.0 a.1) rest m

module _ {C A : Type 0} (n l : ℕ) where
  pub seen_append : (xs ys : List (HubAsk C A)) → seen_asks n l (xs ++ ys) ≡ seen_asks n l xs ++ seen_asks n l ys
  seen_append [] ys = refl
  seen_append (e ∷ xs) ys =
      ap (λ (r : List (HallAsk C A)). asks_with (seen_seat l e.seat) (seen_ask n l e.op e.reply) ++ r) (seen_append xs ys)
      ∙ sym (append_assoc (asks_with (seen_seat l e.seat) (seen_ask n l e.op e.reply)) (seen_asks n l xs) (seen_asks n l ys))

  -- a seat's calls, as they are seen
  pub by_seat : (seat : ℕ) (log : List (HubAsk C A)) → calls_by (seen_seat l seat) (seen_asks n l log) ≡ seen_asks n l (calls_by seat log)
  by_seat seat [] = refl
  by_seat seat (e ∷ log) = go (cases_eq e.seat seat) (by_seat seat log)
    where
      s : List (HallOperation C × HallAnswer A)
      s = seen_ask n l e.op e.reply

      go : (e.seat ≡ seat) ⊎ (e.seat ≡ seat → ⊥) → calls_by (seen_seat l seat) (seen_asks n l log) ≡ seen_asks n l (calls_by seat log)
          → calls_by (seen_seat l seat) (asks_with (seen_seat l e.seat) s ++ seen_asks n l log) ≡ seen_asks n l (calls_by seat (e ∷ log))
      go (inl is) rec =
          front_own (seen_seat l seat) (seen_seat l e.seat) s (seen_asks n l log) (ap (seen_seat l) is) ∙ ap (λ (r : List (HallAsk C A)). asks_with (seen_seat l e.seat) s ++ r) rec
          ∙ sym (ap (seen_asks n l) (calls_by-first seat e log is))
      go (inr m) rec =
          front_other (seen_seat l seat) (seen_seat l e.seat) s (seen_asks n l log) (λ q. m (same_seat l e.seat seat q)) ∙ rec
          ∙ sym (ap (seen_asks n l) (calls_by-first-other seat e log m))

  -- what is shown by a test, by cases
  cases_shown : (P : List (HallOperation C × HallAnswer A) → Type 0) (x y : ℕ) (a : HallOperation C × HallAnswer A) → (x ≡ y → P (a ∷ [])) → ((x ≡ y → ⊥) → P []) → P (if x == y then a ∷ [] else [])
  cases_shown P x y a own other = go (cases_eq x y)
    where
      go : (x ≡ y) ⊎ (x ≡ y → ⊥) → P (if x == y then a ∷ [] else [])
      go (inl e) = subst (λ (b : Bool). P (if b then a ∷ [] else [])) (sym (eq-eqb x y e)) (own e)
      go (inr m) = subst (λ (b : Bool). P (if b then a ∷ [] else [])) (sym (ne_eqb x y m)) (other m)

  module _ (key : Key) (p : loop_of_conn n key.c ≡ l) (x : ℕ) where
    holds_one : (b : Bool) (op : HubOperation C) (answer : HallAnswer A) (rest : List (HallAsk C A))
        → holds_from (own_key n key) b (asks_with x (seen_ask n l op answer) ++ rest) ≡ holds_from (own_key n key) (hub_held_after key b op answer) rest
    holds_one b (submit_from m k payload) answer rest =
        cases_shown (λ s. holds_from (own_key n key) b (asks_with x s ++ rest) ≡ holds_from (own_key n key) b rest) m l (submit (own_key n k) payload, answer) (λ e. refl) (λ e. refl)
    holds_one b take_one (job k payload) rest =
        cases_shown (λ s. holds_from (own_key n key) b (asks_with x s ++ rest) ≡ holds_from (own_key n key) (if is_same k key then true else b) rest) (loop_of_conn n k.c) l (take_job, job (own_key n k) payload)
        (λ e. ap (λ (t : Bool). holds_from (own_key n key) (if t then true else b) rest) (same_mine n l k key e p))
        (λ m. ap (λ (t : Bool). holds_from (own_key n key) (if t then true else b) rest) (sym (other_same n l k key m p)))
    holds_one b take_one _ rest = refl
    holds_one b (apply_one k call) answer rest =
        cases_shown (λ s. holds_from (own_key n key) b (asks_with x s ++ rest) ≡ holds_from (own_key n key) b rest) (loop_of_conn n k.c) l (apply (own_key n k) call, calm answer) (λ e. refl) (λ e. refl)
    holds_one b (put_one k settled) answer rest =
        cases_shown (λ s. holds_from (own_key n key) b (asks_with x s ++ rest) ≡ holds_from (own_key n key) (if is_same k key then false else b) rest) (loop_of_conn n k.c) l (put (own_key n k) settled, answer)
        (λ e. ap (λ (t : Bool). holds_from (own_key n key) (if t then false else b) rest) (same_mine n l k key e p))
        (λ m. ap (λ (t : Bool). holds_from (own_key n key) (if t then false else b) rest) (sym (other_same n l k key m p)))
    holds_one b (collect_for m) answer rest =
        cases_shown (λ s. holds_from (own_key n key) b (asks_with x s ++ rest) ≡ holds_from (own_key n key) b rest) m l (collect, own_answer n answer) (λ e. refl) (λ e. refl)
    holds_one b close_all answer rest = refl

    applies_one : (op : HubOperation C) (answer : HallAnswer A) (rest : List (HallAsk C A))
        → any_of (applies_key (own_key n key)) (asks_with x (seen_ask n l op answer) ++ rest) ≡ (applies_this key op || any_of (applies_key (own_key n key)) rest)
    applies_one (submit_from m k payload) answer rest =
        cases_shown (λ s. any_of (applies_key (own_key n key)) (asks_with x s ++ rest) ≡ any_of (applies_key (own_key n key)) rest) m l (submit (own_key n k) payload, answer) (λ e. refl) (λ e. refl)
    applies_one take_one (job k payload) rest =
        cases_shown (λ s. any_of (applies_key (own_key n key)) (asks_with x s ++ rest) ≡ any_of (applies_key (own_key n key)) rest) (loop_of_conn n k.c) l (take_job, job (own_key n k) payload) (λ e. refl) (λ e. refl)
    applies_one take_one _ rest = refl
    applies_one (apply_one k call) answer rest =
        cases_shown (λ s. any_of (applies_key (own_key n key)) (asks_with x s ++ rest) ≡ (is_same k key || any_of (applies_key (own_key n key)) rest)) (loop_of_conn n k.c) l
        (apply (own_key n k) call, calm answer)
        (λ e. ap (λ (t : Bool). t || any_of (applies_key (own_key n key)) rest) (same_mine n l k key e p))
        (λ m. ap (λ (t : Bool). t || any_of (applies_key (own_key n key)) rest) (sym (other_same n l k key m p)))
    applies_one (put_one k settled) answer rest =
        cases_shown (λ s. any_of (applies_key (own_key n key)) (asks_with x s ++ rest) ≡ any_of (applies_key (own_key n key)) rest) (loop_of_conn n k.c) l (put (own_key n k) settled, answer) (λ e. refl) (λ e. refl)
    applies_one (collect_for m) answer rest =
        cases_shown (λ s. any_of (applies_key (own_key n key)) (asks_with x s ++ rest) ≡ any_of (applies_key (own_key n key)) rest) m l (collect, own_answer n answer) (λ e. refl) (λ e. refl)
    applies_one close_all answer rest = refl

    submits_one : (op : HubOperation C) (answer : HallAnswer A) (rest : List (HallAsk C A)) → SubmitsItsOwn n op
        → any_of (submits_key (own_key n key)) (asks_with x (seen_ask n l op answer) ++ rest) ≡ (submits_this key op || any_of (submits_key (own_key n key)) rest)
    submits_one (submit_from m k payload) answer rest q =
        cases_shown (λ s. any_of (submits_key (own_key n key)) (asks_with x s ++ rest) ≡ (is_same k key || any_of (submits_key (own_key n key)) rest)) m l (submit (own_key n k) payload, answer)
        (λ e. ap (λ (t : Bool). t || any_of (submits_key (own_key n key)) rest) (same_mine n l k key (q ∙ e) p))
        (λ m. ap (λ (t : Bool). t || any_of (submits_key (own_key n key)) rest) (sym (other_same n l k key (λ z. m (sym q ∙ z)) p)))
    submits_one take_one (job k payload) rest q =
        cases_shown (λ s. any_of (submits_key (own_key n key)) (asks_with x s ++ rest) ≡ any_of (submits_key (own_key n key)) rest) (loop_of_conn n k.c) l (take_job, job (own_key n k) payload) (λ e. refl) (λ e. refl)
    submits_one take_one _ rest q = refl
    submits_one (apply_one k call) answer rest q =
        cases_shown (λ s. any_of (submits_key (own_key n key)) (asks_with x s ++ rest) ≡ any_of (submits_key (own_key n key)) rest) (loop_of_conn n k.c) l (apply (own_key n k) call, calm answer) (λ e. refl) (λ e. refl)
    submits_one (put_one k settled) answer rest q =
        cases_shown (λ s. any_of (submits_key (own_key n key)) (asks_with x s ++ rest) ≡ any_of (submits_key (own_key n key)) rest) (loop_of_conn n k.c) l (put (own_key n k) settled, answer) (λ e. refl) (λ e. refl)
    submits_one (collect_for m) answer rest q =
        cases_shown (λ s. any_of (submits_key (own_key n key)) (asks_with x s ++ rest) ≡ any_of (submits_key (own_key n key)) rest) m l (collect, own_answer n answer) (λ e. refl) (λ e. refl)
    submits_one close_all answer rest q = refl

  adds_one : (x : ℕ) (op : HubOperation C) (answer : HallAnswer A) (rest : List (HallAsk C A))
      → summed_calls adds_key (asks_with x (seen_ask n l op answer) ++ rest) ≡ adds_for l op answer + summed_calls adds_key rest
  adds_one x (submit_from m k payload) done rest =
      both (λ b. summed_calls adds_key (asks_with x (if b then (submit (own_key n k) payload, done) ∷ [] else []) ++ rest) ≡ (if b then 1 else 0) + summed_calls adds_key rest) refl (omega arith) (m == l)
  adds_one x (submit_from m k payload) answer rest =
      both (λ b. summed_calls adds_key (asks_with x (if b then (submit (own_key n k) payload, answer) ∷ [] else []) ++ rest) ≡ adds_for {C = C} l (submit_from m k payload) answer + summed_calls adds_key rest) refl (omega arith) (m == l)
  adds_one x take_one (job k payload) rest =
      both (λ b. summed_calls adds_key (asks_with x (if b then (take_job, job (own_key n k) payload) ∷ [] else []) ++ rest) ≡ 0 + summed_calls adds_key rest) refl (omega arith) (loop_of_conn n k.c == l)
  adds_one x take_one _ rest = omega arith
  adds_one x (apply_one k call) answer rest =
      both (λ b. summed_calls adds_key (asks_with x (if b then (apply (own_key n k) call, calm answer) ∷ [] else []) ++ rest) ≡ 0 + summed_calls adds_key rest) refl (omega arith) (loop_of_conn n k.c == l)
  adds_one x (put_one k settled) answer rest =
      both (λ b. summed_calls adds_key (asks_with x (if b then (put (own_key n k) settled, answer) ∷ [] else []) ++ rest) ≡ 0 + summed_calls adds_key rest) refl (omega arith) (loop_of_conn n k.c == l)
  adds_one x (collect_for m) answer rest =
      both (λ b. summed_calls adds_key (asks_with x (if b then (collect, own_answer n answer) ∷ [] else []) ++ rest) ≡ 0 + summed_calls adds_key rest) refl (omega arith) (m == l)
  adds_one x close_all answer rest = refl

  frees_one : (x : ℕ) (op : HubOperation C) (answer : HallAnswer A) (rest : List (HallAsk C A))
      → summed_calls frees_key (asks_with x (seen_ask n l op answer) ++ rest) ≡ frees_for l op answer + summed_calls frees_key rest
  frees_one x (submit_from m k payload) answer rest =
      both (λ b. summed_calls frees_key (asks_with x (if b then (submit (own_key n k) payload, answer) ∷ [] else []) ++ rest) ≡ 0 + summed_calls frees_key rest) refl (omega arith) (m == l)
  frees_one x take_one (job k payload) rest =
      both (λ b. summed_calls frees_key (asks_with x (if b then (take_job, job (own_key n k) payload) ∷ [] else []) ++ rest) ≡ 0 + summed_calls frees_key rest) refl (omega arith) (loop_of_conn n k.c == l)
  frees_one x take_one _ rest = omega arith
  frees_one x (apply_one k call) answer rest =
      both (λ b. summed_calls frees_key (asks_with x (if b then (apply (own_key n k) call, calm answer) ∷ [] else []) ++ rest) ≡ 0 + summed_calls frees_key rest) refl (omega arith) (loop_of_conn n k.c == l)
  frees_one x (put_one k settled) answer rest =
      both (λ b. summed_calls frees_key (asks_with x (if b then (put (own_key n k) settled, answer) ∷ [] else []) ++ rest) ≡ 0 + summed_calls frees_key rest) refl (omega arith) (loop_of_conn n k.c == l)
  frees_one x (collect_for m) (outcome k settled) rest =
      both (λ b. summed_calls frees_key (asks_with x (if b then (collect, outcome (own_key n k) settled) ∷ [] else []) ++ rest) ≡ (if b then 1 else 0) + summed_calls frees_key rest) refl (omega arith) (m == l)
  frees_one x (collect_for m) answer rest =
      both (λ b. summed_calls frees_key (asks_with x (if b then (collect, own_answer n answer) ∷ [] else []) ++ rest) ≡ frees_for {C = C} l (collect_for m) answer + summed_calls frees_key rest) refl (omega arith) (m == l)
  frees_one x close_all answer rest = refl

  pub submits_by : (seat : ℕ) (log : List (HubAsk C A)) → SubmitOwn n log → SubmitOwn n (calls_by seat log)
  submits_by seat [] o = tt
  submits_by seat (e ∷ log) o = both (λ b. SubmitOwn n (cond b (e ∷ calls_by seat log) (calls_by seat log))) (o.0, submits_by seat log o.1) (submits_by seat log o.1) (e.seat == seat)

  pub holds_seen : (key : Key) → loop_of_conn n key.c ≡ l → (b : Bool) (own : List (HubAsk C A)) → holds_from (own_key n key) b (seen_asks n l own) ≡ hub_holds_from key b own
  holds_seen key p b [] = refl
  holds_seen key p b (e ∷ own) = holds_one key p (seen_seat l e.seat) b e.op e.reply (seen_asks n l own) ∙ holds_seen key p (hub_held_after key b e.op e.reply) own

  pub applies_seen : (key : Key) → loop_of_conn n key.c ≡ l → (own : List (HubAsk C A)) → any_of (applies_key (own_key n key)) (seen_asks n l own) ≡ any_ask (applies_this key) own
  applies_seen key p [] = refl
  applies_seen key p (e ∷ own) = applies_one key p (seen_seat l e.seat) e.op e.reply (seen_asks n l own) ∙ ap (λ (t : Bool). applies_this key e.op || t) (applies_seen key p own)

  pub submits_seen : (key : Key) → loop_of_conn n key.c ≡ l → (own : List (HubAsk C A)) → SubmitOwn n own → any_of (submits_key (own_key n key)) (seen_asks n l own) ≡ any_ask (submits_this key) own
  submits_seen key p [] o = refl
  submits_seen key p (e ∷ own) o = submits_one key p (seen_seat l e.seat) e.op e.reply (seen_asks n l own) o.0 ∙ ap (λ (t : Bool). submits_this key e.op || t) (submits_seen key p own o.1)

  pub adds_seen : (own : List (HubAsk C A)) → summed_calls adds_key (seen_asks n l own) ≡ summed_asks (adds_for l) own
  adds_seen [] = refl
  adds_seen (e ∷ own) = adds_one (seen_seat l e.seat) e.op e.reply (seen_asks n l own) ∙ ap (λ (x : ℕ). adds_for l e.op e.reply + x) (adds_seen own)

  pub frees_seen : (own : List (HubAsk C A)) → summed_calls frees_key (seen_asks n l own) ≡ summed_asks (frees_for l) own
  frees_seen [] = refl
  frees_seen (e ∷ own) = frees_one (seen_seat l e.seat) e.op e.reply (seen_asks n l own) ∙ ap (λ (x : ℕ). frees_for l e.op e.reply + x) (frees_seen own)

module _ {C A : Type 0} (n l : ℕ) where
  with_asks : (seat : ℕ) (s : List (HallOperation C × HallAnswer A)) (after : HallState C A (List A)) (rest : List (HallCall C A (List A)))
      → asks_of (calls_with seat s after ++ rest) ≡ asks_with seat s ++ asks_of rest
  with_asks seat [] after rest = refl
  with_asks seat (x ∷ s) after rest = refl

module _ {C A M : Type 0} (n l : ℕ) (final : List (JournalEntry C A)) where
  -- what is seen of calls, as asks
  pub asks_seen : (log : List (HubCall C A M)) → asks_of (seen_calls n l final log) ≡ seen_asks n l (asks_of log)
  asks_seen [] = refl
  asks_seen (e ∷ log) =
      with_asks n l (seen_seat l e.seat) (seen_ask n l e.op e.reply) (seen_part n l final e.after) (seen_calls n l final log)
      ∙ ap (λ (r : List (HallAsk C A)). asks_with (seen_seat l e.seat) (seen_ask n l e.op e.reply) ++ r) (asks_seen log)

  pub submits_own : (log : List (HubCall C A M)) → SubmitOwn n (asks_of log) → SubmitOwn n log
  submits_own [] o = tt
  submits_own (e ∷ log) o = (o.0, submits_own log o.1)
