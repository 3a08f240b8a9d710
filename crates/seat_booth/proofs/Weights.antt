-- Sums over lists that change at one place, and the weights of numbers.
use Rattle.std.proofs.Common.{◌≡◌, ℕ, zero, suc, ◌+◌, ◌<◌, ◌≤◌, ◌≢◌, cond, eqb, List, [], ◌∷◌, ◌++◌, length, set, sym, refl, ap, eq-eqb, ne_eqb, arith}
use Rattle.std.specs.List.{AllByRecursion}
use mathlib.Core.Logic.{dite}
use mathlib.Core.Option.{some, some-injective, some-ne-none}
use native.Mathlib.Decide.{ℕ_discrete}
use lib.ListN.{get_elem?}
use Rattle.seat_booth.specs.Weight.{total, below}
use Rattle.seat_booth.specs.Tickets.{weight_of_one}

module _ {X : Type 0} where
  pub total-append : (g : X → ℕ) (l m : List X) → total g (l ++ m) ≡ total g l + total g m
  total-append g [] m = omega arith
  total-append g (x ∷ xs) m = omega (arith, total-append g xs m)

  pub total-set : (g : X → ℕ) (l : List X) (j : ℕ) (v w : X) → get_elem? l j ≡ some v → total g (set l j w) + g v ≡ total g l + g w
  total-set g [] j v w e = absurd (some-ne-none v (sym e))
  total-set g (x ∷ xs) zero v w e = omega (arith, ap g (some-injective x v e))
  total-set g (x ∷ xs) (suc j) v w e = omega (arith, total-set g xs j v w e)

  pub term_le : (g : X → ℕ) (l : List X) (j : ℕ) (v : X) → get_elem? l j ≡ some v → g v ≤ total g l
  term_le g [] j v e = absurd (some-ne-none v (sym e))
  term_le g (x ∷ xs) zero v e = omega (arith, ap g (some-injective x v e))
  term_le g (x ∷ xs) (suc j) v e = omega (arith, term_le g xs j v e)

  pub terms_le : (g : X → ℕ) (l : List X) (j k : ℕ) (v u : X) → k ≢ j → get_elem? l j ≡ some v → get_elem? l k ≡ some u → g v + g u ≤ total g l
  terms_le g [] j k v u n e d = absurd (some-ne-none v (sym e))
  terms_le g (x ∷ xs) zero zero v u n e d = absurd (n refl)
  terms_le g (x ∷ xs) zero (suc k) v u n e d = omega (arith, ap g (some-injective x v e), term_le g xs k u d)
  terms_le g (x ∷ xs) (suc j) zero v u n e d = omega (arith, ap g (some-injective x u d), term_le g xs j v e)
  terms_le g (x ∷ xs) (suc j) (suc k) v u n e d = omega (arith, terms_le g xs j k v u (λ h. n (ap suc h)) e d)

  pub total-plus : (g h : X → ℕ) (l : List X) → total (λ x. g x + h x) l ≡ total g l + total h l
  total-plus g h [] = omega arith
  total-plus g h (x ∷ xs) = omega (arith, total-plus g h xs)

  -- where each term of one sum is at most its term of the other
  pub total_le : (g h : X → ℕ) (l : List X) → ((j : ℕ) (v : X) → get_elem? l j ≡ some v → g v ≤ h v) → total g l ≤ total h l
  total_le g h [] each = omega arith
  total_le g h (x ∷ xs) each = let here = each 0 x refl in omega (arith, total_le g h xs (λ j v e. each (suc j) v e))

  -- one term and all others are the whole
  pub total_rest : (g : X → ℕ) (l : List X) (j : ℕ) (v z : X) → g z ≡ 0 → get_elem? l j ≡ some v → total g (set l j z) + g v ≡ total g l
  total_rest g l j v z none e = omega (arith, total-set g l j v z e, none)

pub below-suc : (f : ℕ → ℕ) (n : ℕ) → below f (n + 1) ≡ below f n + f n
below-suc f n = let e : n + 1 ≡ suc n = omega arith in ap (below f) e

pub below-one : (n : ℕ) → below weight_of_one n ≡ n
below-one zero = refl
below-one (suc n) = omega (arith, below-one n)

pub total-one : {X : Type 0} (l : List X) → total (λ _. 1) l ≡ length l
total-one [] = refl
total-one (x ∷ xs) = omega (arith, total-one xs)

abbrev pub only : ℕ → ℕ → ℕ
only k x = cond (eqb x k) 1 0

-- every number but k
abbrev pub but : ℕ → ℕ → ℕ
but k x = cond (eqb x k) 0 1

pub only-same : (k x : ℕ) → x ≡ k → only k x ≡ 1
only-same k x e = ap (λ b. cond b 1 0) (eq-eqb x k e)

pub only-other : (k x : ℕ) → x ≢ k → only k x ≡ 0
only-other k x n = ap (λ b. cond b 1 0) (ne_eqb x k n)

pub but-same : (k x : ℕ) → x ≡ k → but k x ≡ 0
but-same k x e = ap (λ b. cond b 0 1) (eq-eqb x k e)

pub but-other : (k x : ℕ) → x ≢ k → but k x ≡ 1
but-other k x n = ap (λ b. cond b 0 1) (ne_eqb x k n)

-- a number below n has the weight 1 there, and another 0
pub below-only : (k n : ℕ) → (below (only k) n ≤ 1) × (n ≤ k → below (only k) n ≡ 0) × (k < n → below (only k) n ≡ 1)
below-only k zero = (omega arith, (λ _. refl), λ h. absurd (omega arith))
below-only k (suc n) =
    let before = below-only k n in
    dite (ℕ_discrete n k)
    (λ e. let none-yet = before.1 (omega arith) in let here = only-same k n e in (omega arith, (λ h. absurd (omega arith)), λ _. omega arith))
    (λ ne. let none-here = only-other k n ne in (omega (arith, before.0), (λ h. omega (arith, before.1 (omega arith))), λ h. omega (arith, before.2 (omega arith))))

-- no number of the list is k
pub none_of : {X : Type 0} (g : X → ℕ) (k : ℕ) (l : List X) → total (λ x. only k (g x)) l ≡ 0 → AllByRecursion (λ x. g x ≢ k) l
none_of g k [] h = tt
none_of g k (x ∷ xs) h = ((λ e. let one-here = only-same k (g x) e in omega arith), none_of g k xs (omega arith))

pub each_of : {X : Type 0} (P Q : X → Type 0) (l : List X) → ((x : X) → P x → Q x) → AllByRecursion P l → AllByRecursion Q l
each_of P Q [] f h = tt
each_of P Q (x ∷ xs) f h = (f x h.0, each_of P Q xs f h.1)

pub each_both : {X : Type 0} (P Q R : X → Type 0) (l : List X) → ((x : X) → P x → Q x → R x) → AllByRecursion P l → AllByRecursion Q l → AllByRecursion R l
each_both P Q R [] f h k = tt
each_both P Q R (x ∷ xs) f h k = (f x h.0 k.0, each_both P Q R xs f h.1 k.1)

pub each_append : {X : Type 0} (P : X → Type 0) (l m : List X) → AllByRecursion P l → AllByRecursion P m → AllByRecursion P (l ++ m)
each_append P [] m h k = k
each_append P (x ∷ xs) m h k = (h.0, each_append P xs m h.1 k)
