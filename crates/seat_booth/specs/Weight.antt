-- Lists of numbers are compared by weight: two lists with the same weight under every f have the same numbers, as many times each.
use Rattle.std.specs.Prelude.{ℕ, zero, suc, ◌+◌, List, [], ◌∷◌}

-- the weight of a list
abbrev pub total : {X : Type 0} → (X → ℕ) → List X → ℕ
total f [] = 0
total f (x ∷ xs) = f x + total f xs

-- the weight of the numbers below n
abbrev pub below : (ℕ → ℕ) → ℕ → ℕ
below f zero = 0
below f (suc n) = below f n + f n
