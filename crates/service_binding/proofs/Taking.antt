-- The first handler of a kind, taken out.
use Rattle.std.proofs.Common.{◌≡◌, ℕ, ◌+◌, Bool, true, false, cond, List, [], ◌∷◌, ◌++◌, map, length, drop, get_or, Some, None, refl, sym, ap, ◌∙◌, subst, arith}
use Rattle.std.specs.Prelude.{filter, remove}
use Rattle.std.specs.List.{position_from}
use Rattle.std.proofs.lemmas.List.{map-append}
use Rattle.std.proofs.lemmas.List.Elements.{filter-append}
use Rattle.call_rules.specs.declared.kind.Kind.{Kind}
use Rattle.call_rules.specs.Handling.{ServiceState}
use Rattle.service_binding.specs.Handlers.{is_of_kind, same_kind}
use Rattle.service_binding.specs.Steps.{TakesFirst}
use Rattle.service_binding.proofs.SameKinds.{same_is}

-- the services of handlers that pass a test
abbrev pub passing : {A : Type 0} → (A → ServiceState) → (ServiceState → Bool) → List A → List ServiceState
passing f q hs = filter q (map f hs)

passing_append : {A : Type 0} (f : A → ServiceState) (q : ServiceState → Bool) (xs ys : List A) → passing f q (xs ++ ys) ≡ passing f q xs ++ passing f q ys
passing_append f q xs ys = ap (filter q) (map-append f xs ys) ∙ filter-append q (map f xs) (map f ys)

-- where there is none, none passes
none_case : {A : Type 0} (f : A → ServiceState) (q : ServiceState → Bool) (i : ℕ) (h : A) (hs : List A) (b : Bool) → q (f h) ≡ b
    → (position_from q (i + 1) (map f hs) ≡ None → passing f q hs ≡ []) → cond b (Some i) (position_from q (i + 1) (map f hs)) ≡ None
    → passing f q (h ∷ hs) ≡ []
none_case f q i h hs true is rest e = absurd (let g : ⊥ = cc in g)
none_case f q i h hs false is rest e = ap (λ b. cond b (f h ∷ passing f q hs) (passing f q hs)) is ∙ rest e

pub none_passes : {A : Type 0} (f : A → ServiceState) (q : ServiceState → Bool) (i : ℕ) (hs : List A) → position_from q i (map f hs) ≡ None → passing f q hs ≡ []
none_passes f q i [] e = refl
none_passes f q i (h ∷ hs) e = none_case f q i h hs (q (f h)) refl (none_passes f q (i + 1) hs) e

-- what stands before and behind the first that passes
pub record Parted {A : Type 0} (f : A → ServiceState) (q : ServiceState → Bool) (i : ℕ) (hs : List A) (place : ℕ) : Type 0 where
  pub front : List A
  pub first : A
  pub back : List A
  pub whole : hs ≡ front ++ first ∷ back
  pub before : passing f q front ≡ []
  pub passes : q (f first) ≡ true
  pub at : place ≡ i + length front

parted_on : {A : Type 0} (f : A → ServiceState) (q : ServiceState → Bool) (i : ℕ) (h : A) (hs : List A) (place : ℕ) → q (f h) ≡ false
    → Parted f q (i + 1) hs place → Parted f q i (h ∷ hs) place
parted_on f q i h hs place is p =
    record {
      front = h ∷ p.front;
      first = p.first;
      back = p.back;
      whole = ap (λ l. h ∷ l) p.whole;
      before = ap (λ b. cond b (f h ∷ passing f q p.front) (passing f q p.front)) is ∙ p.before;
      passes = p.passes;
      at = omega (arith, p.at);
    }

parted_case : {A : Type 0} (f : A → ServiceState) (q : ServiceState → Bool) (i : ℕ) (h : A) (hs : List A) (place : ℕ) (b : Bool) → q (f h) ≡ b
    → (position_from q (i + 1) (map f hs) ≡ Some place → Parted f q (i + 1) hs place)
    → cond b (Some i) (position_from q (i + 1) (map f hs)) ≡ Some place → Parted f q i (h ∷ hs) place
parted_case f q i h hs place true is rest e =
    let same : i ≡ place = cc in
    record { front = []; first = h; back = hs; whole = refl; before = refl; passes = is; at = omega (arith, same) }
parted_case f q i h hs place false is rest e = parted_on f q i h hs place is (rest e)

parted : {A : Type 0} (f : A → ServiceState) (q : ServiceState → Bool) (i : ℕ) (hs : List A) (place : ℕ) → position_from q i (map f hs) ≡ Some place → Parted f q i hs place
parted f q i [] place e = absurd (let g : ⊥ = cc in g)
parted f q i (h ∷ hs) place e = parted_case f q i h hs place (q (f h)) refl (parted f q (i + 1) hs place) e

-- what is at a place, and what is left without it
without : {A : Type 0} (front back : List A) (x : A) → remove (front ++ x ∷ back) (length front) ≡ front ++ back
without [] back x = refl
without (y ∷ front) back x = ap (λ l. y ∷ l) (without front back x)

found_at : {A : Type 0} (front back : List A) (x d : A) → get_or (front ++ x ∷ back) (length front) d ≡ x
found_at [] back x d = refl
found_at (y ∷ front) back x d = found_at front back x d

-- the first of a kind, taken out from between
module _ {A : Type 0} (f : A → ServiceState) (kind : Kind) (front back : List A) (x : A) (before : passing f (is_of_kind kind) front ≡ []) (passes : is_of_kind kind (f x) ≡ true) where
  left_over : passing f (is_of_kind kind) (front ++ back) ≡ passing f (is_of_kind kind) back
  left_over = passing_append f (is_of_kind kind) front back ∙ ap (λ l. l ++ passing f (is_of_kind kind) back) before

  first_is : passing f (is_of_kind kind) (front ++ x ∷ back) ≡ f x ∷ passing f (is_of_kind kind) (front ++ back)
  first_is =
      passing_append f (is_of_kind kind) front (x ∷ back)
      ∙ ap (λ l. l ++ passing f (is_of_kind kind) (x ∷ back)) before
      ∙ ap (λ b. cond b (f x ∷ passing f (is_of_kind kind) back) (passing f (is_of_kind kind) back)) passes
      ∙ ap (λ l. f x ∷ l) (sym left_over)

  other_case : (other : Kind) (b : Bool) → same_kind other kind ≡ b
      → passing f (is_of_kind other) (front ++ back) ≡ drop (cond b 1 0) (passing f (is_of_kind other) (front ++ x ∷ back))
  other_case other true is =
      subst (λ (k : Kind). passing f (is_of_kind k) (front ++ back) ≡ drop 1 (passing f (is_of_kind k) (front ++ x ∷ back))) (sym (same_is other kind is))
      (sym (ap (drop 1) first_is))
  other_case other false is =
      let apart : is_of_kind other (f x) ≡ false = ap (same_kind other) (sym (same_is kind (f x).kind passes)) ∙ is in
      passing_append f (is_of_kind other) front back
      ∙ ap (λ l. passing f (is_of_kind other) front ++ l) (sym (ap (λ b. cond b (f x ∷ passing f (is_of_kind other) back) (passing f (is_of_kind other) back)) apart))
      ∙ sym (passing_append f (is_of_kind other) front (x ∷ back))

  pub takes_between : TakesFirst kind (map f (front ++ x ∷ back)) (Some (f x)) (map f (front ++ back))
  takes_between = (first_is, λ other. other_case other (same_kind other kind) refl)

-- the first of a kind is taken out
pub takes_first : {A : Type 0} (f : A → ServiceState) (kind : Kind) (hs new : List A) (place : ℕ) (x : A) → position_from (is_of_kind kind) 0 (map f hs) ≡ Some place
    → x ≡ get_or hs place x → new ≡ remove hs place → TakesFirst kind (map f hs) (Some (f x)) (map f new)
takes_first f kind hs new place x is at left =
    let p = parted f (is_of_kind kind) 0 hs place is in
    let here : place ≡ length p.front = omega (arith, p.at) in
    let one : x ≡ p.first = at ∙ ap (λ l. get_or l place x) p.whole ∙ ap (λ n. get_or (p.front ++ p.first ∷ p.back) n x) here ∙ found_at p.front p.back p.first x in
    let rest : new ≡ p.front ++ p.back = left ∙ ap (λ l. remove l place) p.whole ∙ ap (λ n. remove (p.front ++ p.first ∷ p.back) n) here ∙ without p.front p.back p.first in
    let taken : TakesFirst kind (map f (p.front ++ p.first ∷ p.back)) (Some (f p.first)) (map f (p.front ++ p.back)) = takes_between f kind p.front p.back p.first p.before p.passes in
    let by_old = subst (λ l. TakesFirst kind (map f l) (Some (f p.first)) (map f (p.front ++ p.back))) (sym p.whole) taken in
    let by_one = subst (λ y. TakesFirst kind (map f hs) (Some (f y)) (map f (p.front ++ p.back))) (sym one) by_old in
    subst (λ l. TakesFirst kind (map f hs) (Some (f x)) (map f l)) (sym rest) by_one
