-- What is summed up group by group is the sum of all.
use Rattle.std.proofs.Common.{◌≡◌, ℕ, ℤ, pos, zero, suc, ◌+◌, ◌+ℤ◌, ◌<◌, ◌≤◌, ◌==◌, Bool, true, false, cond, List, [], ◌∷◌, refl, sym, ap, ◌∙◌, arith}
use Rattle.std.proofs.lemmas.Int.{ints}
use Rattle.std.specs.List.{filter, sum_by, AllByRecursion}
use Rattle.std.proofs.lemmas.List.Sums.{sum_by-cons}
use Rattle.std.proofs.lemmas.Bool.{eqb-true, eqb-false}
use Rattle.script_model.specs.ScriptLines.{count_up}
use Rattle.workload.specs.SummaryText.{sum_over}

sum_same : {X : Type 0} (f g : X → ℤ) → ((x : X) → f x ≡ g x) → (xs : List X) → sum_over f xs ≡ sum_over g xs
sum_same f g same [] = refl
sum_same f g same (x ∷ xs) = ap (λ z. z +ℤ sum_over f xs) (same x) ∙ ap (λ z. g x +ℤ z) (sum_same f g same xs)

sum_split : {X : Type 0} (f g : X → ℤ) (xs : List X) → sum_over (λ x. f x +ℤ g x) xs ≡ sum_over f xs +ℤ sum_over g xs
sum_split f g [] = refl
sum_split f g (x ∷ xs) = omega (arith, ints, sum_split f g xs)

sum_of_none : {X : Type 0} (xs : List X) → sum_over (λ x. pos 0) xs ≡ pos 0
sum_of_none [] = refl
sum_of_none (x ∷ xs) = omega (arith, ints, sum_of_none xs)

-- what is summed up where a number is this one
abbrev where_it_is : ℕ → ℤ → ℕ → ℤ
where_it_is r v c = cond (r == c) v (pos 0)

nowhere : (r : ℕ) (v : ℤ) (n from : ℕ) → r < from → sum_over (where_it_is r v) (count_up from n) ≡ pos 0
nowhere r v zero from below = refl
nowhere r v (suc n) from below = here_not (r == from) refl (nowhere r v n (suc from) (omega arith))
  where
    here_not : (here : Bool) → (r == from) ≡ here → sum_over (where_it_is r v) (count_up (suc from) n) ≡ pos 0
        → cond here v (pos 0) +ℤ sum_over (where_it_is r v) (count_up (suc from) n) ≡ pos 0
    here_not true is more = let same : r ≡ from = eqb-true r from is in absurd (omega (arith, same))
    here_not false is more = omega (arith, ints)

once : (r : ℕ) (v : ℤ) (n from : ℕ) → from ≤ r → r < from + n → sum_over (where_it_is r v) (count_up from n) ≡ v
once r v zero from above below = absurd (omega arith)
once r v (suc n) from above below = here_or_behind (r == from) refl (λ later. once r v n (suc from) later (omega arith))
  where
    here_or_behind : (here : Bool) → (r == from) ≡ here → (suc from ≤ r → sum_over (where_it_is r v) (count_up (suc from) n) ≡ v)
        → cond here v (pos 0) +ℤ sum_over (where_it_is r v) (count_up (suc from) n) ≡ v
    here_or_behind true is more =
        let same : r ≡ from = eqb-true r from is in
        let none = nowhere r v n (suc from) (omega (arith, same)) in
        omega (arith, ints, none)
    here_or_behind false is more =
        let other : r ≡ from → ⊥ = eqb-false r from is in
        let rest = more (omega (arith, other)) in
        omega (arith, ints, rest)

module _ {X : Type 0} (key : X → ℕ) (f : X → ℤ) where
  -- the items with this key
  abbrev with_key : List X → ℕ → List X
  with_key xs c = filter (λ x. key x == c) xs

  one_more : (x : X) (xs : List X) (here : Bool) → sum_over f (cond here (x ∷ xs) xs) ≡ cond here (f x) (pos 0) +ℤ sum_over f xs
  one_more x xs true = refl
  one_more x xs false = omega (arith, ints)

  pub grouped : (n : ℕ) (xs : List X) → AllByRecursion (λ x. key x < n) xs
      → sum_over (λ c. sum_over f (filter (λ x. key x == c) xs)) (count_up 0 n) ≡ sum_over f xs
  grouped n [] all = sum_of_none (count_up 0 n)
  grouped n (x ∷ xs) all =
      sum_same (λ c. sum_over f (with_key (x ∷ xs) c)) (λ c. where_it_is (key x) (f x) c +ℤ sum_over f (with_key xs c))
      (λ c. one_more x (with_key xs c) (key x == c)) (count_up 0 n)
      ∙ sum_split (where_it_is (key x) (f x)) (λ c. sum_over f (with_key xs c)) (count_up 0 n)
      ∙ ap (λ z. z +ℤ sum_over (λ c. sum_over f (with_key xs c)) (count_up 0 n)) (once (key x) (f x) n 0 (omega arith) (omega (arith, all.0)))
      ∙ ap (λ z. f x +ℤ z) (grouped n xs all.1)

pos_sum : {X : Type 0} (f : X → ℕ) (xs : List X) → pos (sum_by f xs) ≡ sum_over (λ x. pos (f x)) xs
pos_sum f [] = refl
pos_sum f (x ∷ xs) = ap pos (sum_by-cons f x xs) ∙ omega (arith, ints, pos_sum f xs)

pub grouped_counts : {X : Type 0} (key : X → ℕ) (f : X → ℕ) (n : ℕ) (xs : List X) → AllByRecursion (λ x. key x < n) xs
    → sum_by (λ c. sum_by f (filter (λ x. key x == c) xs)) (count_up 0 n) ≡ sum_by f xs
grouped_counts key f n xs all =
    let each : pos (sum_by (λ c. sum_by f (filter (λ x. key x == c) xs)) (count_up 0 n)) ≡ pos (sum_by f xs) =
    pos_sum (λ c. sum_by f (filter (λ x. key x == c) xs)) (count_up 0 n)
    ∙ sum_same (λ c. pos (sum_by f (filter (λ x. key x == c) xs))) (λ c. sum_over (λ x. pos (f x)) (filter (λ x. key x == c) xs))
    (λ c. pos_sum f (filter (λ x. key x == c) xs)) (count_up 0 n)
    ∙ grouped key (λ x. pos (f x)) n xs all
    ∙ sym (pos_sum f xs) in
    cc

pub always : {X : Type 0} (P : X → Type 0) → ((x : X) → P x) → (xs : List X) → AllByRecursion P xs
always P each [] = tt
always P each (x ∷ xs) = (each x, always P each xs)
