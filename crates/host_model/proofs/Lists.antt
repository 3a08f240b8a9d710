-- Facts about lists of any elements: what two appends that are equal say, prefixes of a list, and all but its last element.
use Rattle.std.proofs.Common.{◌≡◌, ℕ, zero, suc, ◌≤◌, ◌⊎◌, List, [], ◌∷◌, ◌++◌, length, take, refl, sym, ap, ◌∙◌, subst, inl, inr, arith, append_assoc, append-nil}
use Rattle.std.specs.List.{AllByRecursion}
use Rattle.std.proofs.lemmas.Bool.{cases_eq}
use Rattle.std.proofs.lemmas.List.{same_from_push}
use Rattle.host_model.specs.Conversation.{but_last}

-- no list that has an element is empty
pub nil-cons : {X : Type 0} (x : X) (xs : List X) → [] ≡ x ∷ xs → ⊥
nil-cons x xs e = cc

-- lists that are equal have equal first elements and equal rests
pub cons_parts : {X : Type 0} (x y : X) (xs ys : List X) → x ∷ xs ≡ y ∷ ys → (x ≡ y) × (xs ≡ ys)
cons_parts x y xs ys e = (cc, cc)

-- where the fronts are of one length, both parts are equal
pub append_parts : {X : Type 0} (xs ys ts bs : List X) → length xs ≡ length ys → xs ++ ts ≡ ys ++ bs → (xs ≡ ys) × (ts ≡ bs)
append_parts [] [] ts bs l e = (refl, e)
append_parts [] (y ∷ ys) ts bs l e = absurd (let f : ⊥ = omega arith in f)
append_parts (x ∷ xs) [] ts bs l e = absurd (let f : ⊥ = omega arith in f)
append_parts (x ∷ xs) (y ∷ ys) ts bs l e =
    let h : (x ≡ y) × (xs ++ ts ≡ ys ++ bs) = cons_parts x y (xs ++ ts) (ys ++ bs) e in
    let k : length xs ≡ length ys = omega arith in
    let r : (xs ≡ ys) × (ts ≡ bs) = append_parts xs ys ts bs k h.1 in
    (λ i. h.0 i ∷ r.0 i, r.1)

-- two lists of numbers are equal or differ
pub cases_list : (xs ys : List ℕ) → (xs ≡ ys) ⊎ (xs ≡ ys → ⊥)
cases_list [] [] = inl refl
cases_list [] (y ∷ ys) = inr (nil-cons y ys)
cases_list (x ∷ xs) [] = inr (λ e. nil-cons x xs (sym e))
cases_list (x ∷ xs) (y ∷ ys) =
    elim (cases_eq x y) [
      | inl e ↦ elim (cases_list xs ys) [ inl f ↦ inl (λ i. e i ∷ f i) | inr n ↦ inr (λ h. n (cons_parts x y xs ys h).1) ]
      | inr n ↦ inr (λ h. n (cons_parts x y xs ys h).0)
    ]

-- all but the last element that was added
pub but_last-push : {X : Type 0} (xs : List X) (x : X) → but_last (xs ++ x ∷ []) ≡ xs
but_last-push [] x = refl
but_last-push (y ∷ []) x = refl
but_last-push (y ∷ z ∷ zs) x = ap (λ r. y ∷ r) (but_last-push (z ∷ zs) x)

-- what holds of each element and of one more
pub all_push : {X : Type 0} (P : X → Type 0) (xs : List X) (x : X) → AllByRecursion P xs → P x → AllByRecursion P (xs ++ x ∷ [])
all_push P [] x a p = (p, tt)
all_push P (y ∷ ys) x a p = (a.0, all_push P ys x a.1 p)

-- what holds of the elements of both holds of those of their append
pub all-append : {X : Type 0} (P : X → Type 0) (xs ys : List X) → AllByRecursion P xs → AllByRecursion P ys → AllByRecursion P (xs ++ ys)
all-append P [] ys a b = b
all-append P (x ∷ xs) ys a b = (a.0, all-append P xs ys a.1 b)

-- and it holds of all but the last
pub all_but_last : {X : Type 0} (P : X → Type 0) (xs : List X) → AllByRecursion P xs → AllByRecursion P (but_last xs)
all_but_last P [] a = tt
all_but_last P (x ∷ []) a = tt
all_but_last P (x ∷ y ∷ ys) a = (a.0, all_but_last P (y ∷ ys) a.1)

-- P holds of each front of a list
abbrev pub Always : {X : Type 0} → (List X → Type 0) → List X → Type 0
Always {X} P xs = (front back : List X) → xs ≡ front ++ back → P front

-- a list ends, or it has a last element
pub ends : {X : Type 0} (xs : List X) → (xs ≡ []) ⊎ ((ys : List X) × (y : X) × (xs ≡ ys ++ y ∷ []))
ends [] = inl refl
ends {X} (x ∷ xs) = go (ends xs)
  where
    go : (xs ≡ []) ⊎ ((ys : List X) × (y : X) × (xs ≡ ys ++ y ∷ [])) → (x ∷ xs ≡ []) ⊎ ((ys : List X) × (y : X) × (x ∷ xs ≡ ys ++ y ∷ []))
    go (inl e) = inr ([], x, ap (λ r. x ∷ r) e)
    go (inr t) = inr (x ∷ t.0, t.1, ap (λ r. x ∷ r) t.2)

-- one more element adds one front: the whole list
pub always-push : {X : Type 0} (P : List X → Type 0) (xs : List X) (x : X) → Always P xs → P (xs ++ x ∷ []) → Always P (xs ++ x ∷ [])
always-push {X} P xs x a p front back e = go (ends back)
  where
    go : (back ≡ []) ⊎ ((ys : List X) × (y : X) × (back ≡ ys ++ y ∷ [])) → P front
    go (inl b) = subst P (e ∙ ap (λ r. front ++ r) b ∙ append-nil front) p
    go (inr t) =
        a front t.0 (same_from_push xs (front ++ t.0) x t.1 (e ∙ ap (λ r. front ++ r) t.2 ∙ sym (append_assoc front t.0 (t.1 ∷ [])))).0

-- more elements add the fronts that end among them
pub always-append : {X : Type 0} (P : List X → Type 0) (xs ys : List X) → Always P xs → ((ts bs : List X) → ys ≡ ts ++ bs → P (xs ++ ts)) → Always P (xs ++ ys)
always-append P xs [] a p = subst (Always P) (sym (append-nil xs)) a
always-append P xs (y ∷ ys) a p =
    subst (Always P) (append_assoc xs (y ∷ []) ys)
    (always-append P (xs ++ y ∷ []) ys (always-push P xs y a (p (y ∷ []) ys refl))
    (λ ts bs e. subst P (sym (append_assoc xs (y ∷ []) ts)) (p (y ∷ ts) bs (ap (λ r. y ∷ r) e))))

-- the empty list has one front
pub always_nil : {X : Type 0} (P : List X → Type 0) → P [] → Always P []
always_nil P p [] back e = p
always_nil P p (x ∷ front) back e = absurd (nil-cons x (front ++ back) e)

-- the first n of an append, where its front has no more, are the front and some behind it
pub take_behind : {X : Type 0} (n : ℕ) (xs ys : List X) → length xs ≤ n → (zs : List X) × (take n (xs ++ ys) ≡ xs ++ zs)
take_behind n [] ys l = (take n ys, refl)
take_behind zero (x ∷ xs) ys l = absurd (let f : ⊥ = omega arith in f)
take_behind (suc n) (x ∷ xs) ys l =
    let t : (zs : _) × (take n (xs ++ ys) ≡ xs ++ zs) = take_behind n xs ys (omega arith) in (t.0, ap (λ r. x ∷ r) t.1)

-- all but the last are no more than all
pub length-but_last : {X : Type 0} (xs : List X) → length (but_last xs) ≤ length xs
length-but_last [] = omega arith
length-but_last (x ∷ []) = omega arith
length-but_last (x ∷ y ∷ ys) = let h : length (but_last (y ∷ ys)) ≤ length (y ∷ ys) = length-but_last (y ∷ ys) in omega arith

-- the front of an empty append is empty
pub front_nil : {X : Type 0} (xs ys : List X) → xs ++ ys ≡ [] → xs ≡ []
front_nil [] ys e = refl
front_nil (x ∷ xs) ys e = absurd (nil-cons x (xs ++ ys) (sym e))
