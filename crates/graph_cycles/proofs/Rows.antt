-- What holds of each row of a graph.
use Rattle.std.proofs.Common.{ℕ, zero, suc, ◌<◌, List, [], ◌∷◌, length, map, slice_index_or, arith}

-- what holds of the rows that there are, and of an empty row, holds of the row of each node
pub of_each_row : {X : Type 0} (f : X → List ℕ) (P : ℕ → List ℕ → Type 0) → ((a : ℕ) → P a []) → (xs : List X)
    → ((k : ℕ) (d : X) → k < length xs → P k (f (slice_index_or xs k d))) → (a : ℕ) → P a (slice_index_or (map f xs) a [])
of_each_row f P nil [] h a = nil a
of_each_row f P nil (x ∷ xs) h zero = h zero x (omega arith)
of_each_row f P nil (x ∷ xs) h (suc a) =
    of_each_row f (λ n. P (suc n)) (λ n. nil (suc n)) xs (λ k d l. h (suc k) d (omega arith)) a

-- the same of the rows of the first nodes
pub of_first_rows : {X : Type 0} (f : X → List ℕ) (P : ℕ → List ℕ → Type 0) → ((a : ℕ) → P a []) → (xs : List X) (count : ℕ)
    → ((k : ℕ) (d : X) → k < length xs → k < count → P k (f (slice_index_or xs k d))) → (a : ℕ) → a < count → P a (slice_index_or (map f xs) a [])
of_first_rows f P nil xs count h a within = of_each_row f (λ n row. n < count → P n row) (λ n l. nil n) xs h a within
