-- Facts about the elements of one connection in a list, functions that are changed at one number, and entries.
use Rattle.std.proofs.Common.{◌≡◌, ℕ, zero, suc, ◌<◌, cond, ◌==◌, if◌then◌else◌, None, Some, List, [], ◌∷◌, ◌++◌, length, filter, slice_get, refl, ap, ◌∙◌, arith, append-nil, eq-eqb, ne_eqb}
use Rattle.std.specs.List.{AllByRecursion}
use Rattle.std.proofs.lemmas.List.Elements.{filter-append}
use Rattle.host_model.specs.Journal.{JournalEntry, ServiceRules, after, after_call}
use Rattle.host_model.specs.Conversation.{answer_at}

-- a function that is changed at one number
pub put_same : {X : Type 0} (f : ℕ → X) (c : ℕ) (v : X) → (if c == c then v else f c) ≡ v
put_same f c v = ap (λ b. if b then v else f c) (eq-eqb c c refl)

pub put_other : {X : Type 0} (f : ℕ → X) (c : ℕ) (v : X) (x : ℕ) → (x ≡ c → ⊥) → (if x == c then v else f x) ≡ f x
put_other f c v x n = ap (λ b. if b then v else f x) (ne_eqb x c n)

module _ {X : Type 0} (f : X → ℕ) where
  -- the elements of number c
  abbrev pub own : ℕ → List X → List X
  own c xs = filter (λ x. f x == c) xs

  pub own_push : (c : ℕ) (xs : List X) (x : X) → f x ≡ c → own c (xs ++ x ∷ []) ≡ own c xs ++ x ∷ []
  own_push c xs x e = filter-append (λ y. f y == c) xs (x ∷ []) ∙ ap (λ b. own c xs ++ cond b (x ∷ []) []) (eq-eqb (f x) c e)

  pub own_push_other : (c : ℕ) (xs : List X) (x : X) → (f x ≡ c → ⊥) → own c (xs ++ x ∷ []) ≡ own c xs
  own_push_other c xs x n =
      filter-append (λ y. f y == c) xs (x ∷ []) ∙ ap (λ b. own c xs ++ cond b (x ∷ []) []) (ne_eqb (f x) c n) ∙ append-nil (own c xs)

  pub own_first : (c : ℕ) (x : X) (xs : List X) → f x ≡ c → own c (x ∷ xs) ≡ x ∷ own c xs
  own_first c x xs e = ap (λ b. cond b (x ∷ own c xs) (own c xs)) (eq-eqb (f x) c e)

  pub own_first_other : (c : ℕ) (x : X) (xs : List X) → (f x ≡ c → ⊥) → own c (x ∷ xs) ≡ own c xs
  own_first_other c x xs n = ap (λ b. cond b (x ∷ own c xs) (own c xs)) (ne_eqb (f x) c n)

-- the element behind a list is at the list's length
pub get_last : {X : Type 0} (xs : List X) (x : X) → slice_get (xs ++ x ∷ []) (length xs) ≡ Some x
get_last [] x = refl
get_last (y ∷ xs) x = get_last xs x

-- there is an element at each place within a list
pub get_within : {X : Type 0} (xs : List X) (n : ℕ) → n < length xs → (x : X) × (slice_get xs n ≡ Some x)
get_within [] n l = absurd (let f : ⊥ = omega arith in f)
get_within (x ∷ xs) zero l = (x, refl)
get_within (x ∷ xs) (suc n) l = get_within xs n (omega arith)

module _ {C A : Type 0} where
  -- entries of smaller numbers don't answer
  pub answer_none : (n : ℕ) (es : List (JournalEntry C A)) → AllByRecursion (λ (e : JournalEntry C A). e.key.i < n) es → answer_at es n ≡ None
  answer_none n [] a = refl
  answer_none n (e ∷ es) a =
      ap (λ b. if b then Some e.answer else answer_at es n) (ne_eqb e.key.i n (λ q. let f : e.key.i < n = a.0 in omega arith)) ∙ answer_none n es a.1

  pub answer_last : (n : ℕ) (es : List (JournalEntry C A)) (e : JournalEntry C A) → AllByRecursion (λ (e : JournalEntry C A). e.key.i < n) es → e.key.i ≡ n → answer_at (es ++ e ∷ []) n ≡ Some e.answer
  answer_last n [] e a is = ap (λ b. if b then Some e.answer else None) (eq-eqb e.key.i n is)
  answer_last n (x ∷ es) e a is =
      ap (λ b. if b then Some x.answer else answer_at (es ++ e ∷ []) n) (ne_eqb x.key.i n (λ q. let f : x.key.i < n = a.0 in omega arith)) ∙ answer_last n es e a.1 is

  -- the memories after one more call
  pub after_push : {M : Type 0} (r : ServiceRules C A M) (memories : List M) (es : List (JournalEntry C A)) (e : JournalEntry C A)
      → after r memories (es ++ e ∷ []) ≡ after_call r (after r memories es) e.call
  after_push r memories [] e = refl
  after_push r memories (x ∷ es) e = after_push r (after_call r memories x.call) es e
