-- What holds of each item of a list, also of those that are put in order.
use Rattle.std.proofs.Common.{ℕ, zero, suc, ◌≤◌, ◌<◌, List, [], ◌∷◌, length, get_or, Ordering, Less, Equal, Greater, arith}
use Rattle.std.specs.Prelude.{⊤, All}
use Rattle.struct_skew.specs.Latest.{by_order, with_earlier, latest_of_each}

-- a fact of each item
abbrev pub Each : {A : Type 0} → (A → Type 0) → List A → Type 0
Each P [] = ⊤
Each P (x ∷ xs) = P x × Each P xs

pub from_all : {A : Type 0} (P : A → Type 0) (xs : List A) → All P xs → Each P xs
from_all P [] all = tt
from_all P (x ∷ xs) all = (all zero x (omega arith), from_all P xs (λ k d low. all (suc k) d (omega arith)))

pub to_all : {A : Type 0} (P : A → Type 0) (xs : List A) → Each P xs → (k : ℕ) (d : A) → k < length xs → P (get_or xs k d)
to_all P [] each k d low = absurd (omega arith)
to_all P (x ∷ xs) each zero d low = each.0
to_all P (x ∷ xs) each (suc k) d low = to_all P xs each.1 k d (omega arith)

pub Each-then : {A : Type 0} (P Q : A → Type 0) → ((x : A) → P x → Q x) → (xs : List A) → Each P xs → Each Q xs
Each-then P Q f [] each = tt
Each-then P Q f (x ∷ xs) each = (f x each.0, Each-then P Q f xs each.1)

module _ {A : Type 0} (P : A → Type 0) (cmp : A → A → Ordering) where
  Each-by : (o : Ordering) (less equal greater : List A) → Each P less → Each P equal → Each P greater → Each P (by_order o less equal greater)
  Each-by Less less equal greater a b c = a
  Each-by Equal less equal greater a b c = b
  Each-by Greater less equal greater a b c = c

  Each-earlier : (x : A) (ys : List A) → P x → Each P ys → Each P (with_earlier cmp x ys)
  Each-earlier x [] p each = (p, tt)
  Each-earlier x (y ∷ ys) p each =
      Each-by (cmp x y) (x ∷ (y ∷ ys)) (y ∷ ys) (y ∷ with_earlier cmp x ys) (p, each) each (each.0, Each-earlier x ys p each.1)

  -- what holds of each holds of those that are left
  pub Each-latest : (xs : List A) → Each P xs → Each P (latest_of_each cmp xs)
  Each-latest [] each = tt
  Each-latest (x ∷ xs) each = Each-earlier x (latest_of_each cmp xs) each.0 (Each-latest xs each.1)

module _ {A : Type 0} (cmp : A → A → Ordering) where
  length-by : (o : Ordering) (n : ℕ) (less equal greater : List A) → length less ≤ n → length equal ≤ n → length greater ≤ n → length (by_order o less equal greater) ≤ n
  length-by Less n less equal greater a b c = a
  length-by Equal n less equal greater a b c = b
  length-by Greater n less equal greater a b c = c

  length-earlier : (x : A) (ys : List A) → length (with_earlier cmp x ys) ≤ suc (length ys)
  length-earlier x [] = omega arith
  length-earlier x (y ∷ ys) =
      length-by (cmp x y) (suc (length (y ∷ ys))) (x ∷ (y ∷ ys)) (y ∷ ys) (y ∷ with_earlier cmp x ys) (omega arith) (omega arith) (omega (arith, length-earlier x ys))

  -- no more are left than there were
  pub length-latest : (xs : List A) → length (latest_of_each cmp xs) ≤ length xs
  length-latest [] = omega arith
  length-latest (x ∷ xs) = omega (arith, length-earlier x (latest_of_each cmp xs), length-latest xs)
