-- Where a loop over a list stands at its end.
use Rattle.std.proofs.Common.{◌≡◌, ℕ, ◌+◌, ◌-◌, ◌≤◌, ◌<◌, true, false, true≢false, List, [], ◌∷◌, ◌++◌, length, map, take, drop, get_or, Result, Ok, Err, min, max, Ordering, Less, Equal, Greater, nat_cmp, arith, refl, sym, ap, ap₂, subst, ◌∙◌, length-drop}
use Rattle.std.proofs.lemmas.Bool.Decides.{nat_tests}
use Rattle.std.proofs.lemmas.List.{at_drop_all, drop_more, take_more, map-append}
use Rattle.std.specs.Prelude.{◌↔◌, IsTrue, IfOk, IsErr, MatchResult}
use Rattle.std.specs.Ordering.{is_ne, ordering_then}

-- a sum that is kept below a limit, when nothing is left
pub summed : {A : Type 0} (F : List A → ℕ) (xs : List A) (i n whole limit : ℕ) → F [] ≡ 0 → length xs ≤ i
    → (n ≤ limit) × (min (n + F (drop i xs)) limit ≡ min whole limit) → n ≡ min whole limit
summed F xs i n whole limit none end kept = omega (arith, none, at_drop_all F xs i end, kept.0, kept.1)

-- the same of a maximum
pub topped : {A : Type 0} (F : List A → ℕ) (xs : List A) (i n whole limit : ℕ) → F [] ≡ 0 → length xs ≤ i
    → (n ≤ limit) × (min (max n (F (drop i xs))) limit ≡ min whole limit) → n ≡ min whole limit
topped F xs i n whole limit none end kept = omega (arith, none, at_drop_all F xs i end, kept.0, kept.1)

-- G answers by the lengths where one of two lists is at its end
pub record IsByLength {A : Type 0} (G : List A → List A → Ordering) : Type 0 where
  pub both : G [] [] ≡ Equal
  pub first : (y : A) (ys : List A) → G [] (y ∷ ys) ≡ Less
  pub second : (x : A) (xs : List A) → G (x ∷ xs) [] ≡ Greater

by_length : {A : Type 0} (G : List A → List A → Ordering) → IsByLength G → (us vs : List A) (i m n : ℕ)
    → length us ≡ m - i → length vs ≡ n - i → i ≤ m → i ≤ n → min m n ≤ i → G us vs ≡ nat_cmp m n
by_length G is [] [] i m n p q a b end = is.both ∙ grind (arith, nat_tests)
by_length G is [] (y ∷ ys) i m n p q a b end = is.first y ys ∙ grind (arith, nat_tests)
by_length G is (x ∷ xs) [] i m n p q a b end = is.second x xs ∙ grind (arith, nat_tests)
by_length G is (x ∷ xs) (y ∷ ys) i m n p q a b end = absurd (omega arith)

-- two lists that were alike as far as the shorter goes
pub levelled : {A : Type 0} (G : List A → List A → Ordering) → IsByLength G → (xs ys : List A) (i m n : ℕ)
    → length xs ≡ m → length ys ≡ n → i ≤ min m n → min m n ≤ i → G (drop i xs) (drop i ys) ≡ nat_cmp m n
levelled G is xs ys i m n p q low high =
    by_length G is (drop i xs) (drop i ys) i m n (omega (arith, length-drop i xs)) (omega (arith, length-drop i ys)) (omega arith) (omega arith) high

-- one item further, where the greatest so far is kept below a limit
pub topped_on : {A : Type 0} (F : List A → ℕ) (xs : List A) (i : ℕ) (x : A) (n next mine most whole limit : ℕ) → i < length xs → x ≡ get_or xs i x
    → F (x ∷ drop (i + 1) xs) ≡ max mine (F (drop (i + 1) xs)) → most ≡ min mine limit → next ≡ max most n
    → (n ≤ limit) × (min (max n (F (drop i xs))) limit ≡ min whole limit)
    → (next ≤ limit) × (min (max next (F (drop (i + 1) xs))) limit ≡ min whole limit)
topped_on F xs i x n next mine most whole limit low here step is now kept =
    let front : F (drop i xs) ≡ max mine (F (drop (i + 1) xs)) = ap F (drop_more xs i x low ∙ ap (λ y. y ∷ drop (i + 1) xs) (sym here)) ∙ step in
    (omega (arith, is, now, kept.0), omega (arith, front, is, now, kept.0, kept.1))

-- the same of a sum
pub summed_on : {A : Type 0} (F : List A → ℕ) (xs : List A) (i : ℕ) (x : A) (n next mine most whole limit : ℕ) → i < length xs → x ≡ get_or xs i x
    → F (x ∷ drop (i + 1) xs) ≡ mine + F (drop (i + 1) xs) → most ≡ min mine limit → next ≡ min (n + most) limit
    → (n ≤ limit) × (min (n + F (drop i xs)) limit ≡ min whole limit)
    → (next ≤ limit) × (min (next + F (drop (i + 1) xs)) limit ≡ min whole limit)
summed_on F xs i x n next mine most whole limit low here step is now kept =
    let front : F (drop i xs) ≡ mine + F (drop (i + 1) xs) = ap F (drop_more xs i x low ∙ ap (λ y. y ∷ drop (i + 1) xs) (sym here)) ∙ step in
    (omega (arith, is, now, kept.0), omega (arith, front, is, now, kept.0, kept.1))

-- F holds of a list where Q holds of each item
pub record IsOfEach {A : Type 0} (Q : A → Type 0) (F : List A → Type 0) : Type 0 where
  pub none : F []
  pub more : (x : A) (xs : List A) → Q x → F xs → F (x ∷ xs)
  pub head : (x : A) (xs : List A) → F (x ∷ xs) → Q x
  pub tail : (x : A) (xs : List A) → F (x ∷ xs) → F xs

module _ {A : Type 0} {Q : A → Type 0} {F : List A → Type 0} (is : IsOfEach Q F) (W : Type 0) where
  in_front : (xs : List A) (i : ℕ) (x : A) → i < length xs → x ≡ get_or xs i x → drop i xs ≡ x ∷ drop (i + 1) xs
  in_front xs i x low here = drop_more xs i x low ∙ ap (λ y. y ∷ drop (i + 1) xs) (sym here)

  -- one item further
  pub passed : (xs : List A) (i : ℕ) (x : A) → i < length xs → x ≡ get_or xs i x → Q x → F (drop i xs) ↔ W → F (drop (i + 1) xs) ↔ W
  passed xs i x low here q kept =
      let all : drop i xs ≡ x ∷ drop (i + 1) xs = in_front xs i x low here in (
        λ rest. kept.0 (subst F (sym all) (is.more x (drop (i + 1) xs) q rest)),
        λ w. is.tail x (drop (i + 1) xs) (subst F all (kept.1 w)),
      )

  -- an item of which Q doesn't hold
  pub stopped : (xs : List A) (i : ℕ) (x : A) → i < length xs → x ≡ get_or xs i x → (Q x → false ≡ true) → F (drop i xs) ↔ W → IsTrue false ↔ W
  stopped xs i x low here not kept = (
    λ no. absurd (true≢false (sym no)),
    λ w. not (is.head x (drop (i + 1) xs) (subst F (in_front xs i x low here) (kept.1 w))),
  )

  -- no item is left
  pub all_passed : (xs : List A) (i : ℕ) → length xs ≤ i → F (drop i xs) ↔ W → IsTrue true ↔ W
  all_passed xs i end kept = (λ _. kept.0 (subst F (sym (at_drop_all (λ ys. ys) xs i end)) is.none), λ _. refl)

-- where an ordering doesn't decide it is equality
undecided : (o : Ordering) → false ≡ is_ne o → o ≡ Equal
undecided Less e = absurd (true≢false (sym e))
undecided Equal e = refl
undecided Greater e = absurd (true≢false (sym e))

-- the first of three orderings that decides, however they are grouped
pub then_grouped : (a b c : Ordering) → ordering_then a (ordering_then b c) ≡ ordering_then (ordering_then a b) c
then_grouped Less b c = refl
then_grouped Equal b c = refl
then_grouped Greater b c = refl

-- G orders lists item by item, and two items are alike
pub alike : {A : Type 0} (C : A → A → Ordering) (G : List A → List A → Ordering)
    → ((x y : A) (xs ys : List A) → G (x ∷ xs) (y ∷ ys) ≡ ordering_then (C x y) (G xs ys))
    → (xs ys : List A) (i : ℕ) (x y : A) (o whole : Ordering) → i < length xs → i < length ys → x ≡ get_or xs i x → y ≡ get_or ys i y
    → o ≡ C x y → false ≡ is_ne o → G (drop i xs) (drop i ys) ≡ whole → G (drop (i + 1) xs) (drop (i + 1) ys) ≡ whole
alike C G step xs ys i x y o whole low below here there is same kept =
    let front : drop i xs ≡ x ∷ drop (i + 1) xs = drop_more xs i x low ∙ ap (λ z. z ∷ drop (i + 1) xs) (sym here) in
    let other : drop i ys ≡ y ∷ drop (i + 1) ys = drop_more ys i y below ∙ ap (λ z. z ∷ drop (i + 1) ys) (sym there) in
    let rest = G (drop (i + 1) xs) (drop (i + 1) ys) in
    let all : G (drop i xs) (drop i ys) ≡ ordering_then (C x y) rest = ap₂ G front other ∙ step x y (drop (i + 1) xs) (drop (i + 1) ys) in
    let equal : C x y ≡ Equal = sym is ∙ undecided o same in
    sym (all ∙ ap (λ z. ordering_then z rest) equal) ∙ kept

-- an ordering that isn't equality decides
first_decides : (o other : Ordering) → true ≡ is_ne o → ordering_then o other ≡ o
first_decides Less other e = refl
first_decides Equal other e = absurd (true≢false e)
first_decides Greater other e = refl

-- G orders lists item by item, and two items decide
pub decided : {A : Type 0} (C : A → A → Ordering) (G : List A → List A → Ordering)
    → ((x y : A) (xs ys : List A) → G (x ∷ xs) (y ∷ ys) ≡ ordering_then (C x y) (G xs ys))
    → (xs ys : List A) (i : ℕ) (x y : A) (o whole : Ordering) → i < length xs → i < length ys → x ≡ get_or xs i x → y ≡ get_or ys i y
    → o ≡ C x y → true ≡ is_ne o → G (drop i xs) (drop i ys) ≡ whole → o ≡ whole
decided C G step xs ys i x y o whole low below here there is apart kept =
    let front : drop i xs ≡ x ∷ drop (i + 1) xs = drop_more xs i x low ∙ ap (λ z. z ∷ drop (i + 1) xs) (sym here) in
    let other : drop i ys ≡ y ∷ drop (i + 1) ys = drop_more ys i y below ∙ ap (λ z. z ∷ drop (i + 1) ys) (sym there) in
    let rest = G (drop (i + 1) xs) (drop (i + 1) ys) in
    let all : G (drop i xs) (drop i ys) ≡ ordering_then (C x y) rest = ap₂ G front other ∙ step x y (drop (i + 1) xs) (drop (i + 1) ys) in
    sym (all ∙ ap (λ z. ordering_then z rest) (sym is) ∙ first_decides o rest apart) ∙ kept

-- one more copy, or what it is part of, behind those of the front
pub copied : {A E Y B T : Type 0} (view : A → B) (tree : Y → T) (part : Y → A) (v : Y) (xs : List A) (i : ℕ) (x : A) (old new : List A) (made : Result Y E)
    → i < length xs → x ≡ get_or xs i x → ((y : Y) → tree y ≡ tree v → view (part y) ≡ view x)
    → IfOk made (λ y. tree y ≡ tree v) → MatchResult made (λ y. new ≡ old ++ part y ∷ []) (λ _. false ≡ true)
    → map view old ≡ map view (take i xs) → map view new ≡ map view (take (i + 1) xs)
copied view tree part v xs i x old new (Ok y) low here alike same put kept =
    ap (map view) put ∙ map-append view old (part y ∷ []) ∙ (λ k. kept k ++ alike y same k ∷ []) ∙ sym (map-append view (take i xs) (x ∷ []))
    ∙ ap (map view) (sym (take_more xs i x low ∙ ap (λ z. take i xs ++ z ∷ []) (sym here)))
copied view tree part v xs i x old new (Err e) low here alike same put kept = absurd (true≢false (sym put))

-- nothing was made, so nothing has to hold of it
pub none_made : {Y E : Type 0} (P : Y → Type 0) (made : Result Y E) → IsErr made → IfOk made P
none_made P (Ok y) failed = absurd (true≢false (sym failed))
none_made P (Err e) failed = tt
