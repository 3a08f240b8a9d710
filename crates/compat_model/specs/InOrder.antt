-- What is found in lists, item by item in order.
use Rattle.std.specs.Prelude.{ℕ, ◌+◌, List, [], ◌∷◌, ◌++◌, Option, None}
use Rattle.std.specs.Option.{option_or}

-- the first answer that an item has
abbrev pub first_answer : {A B : Type 0} → (A → Option B) → List A → Option B
first_answer f [] = None
first_answer f (x ∷ xs) = option_or (f x) (first_answer f xs)

-- the same where an item's place counts, from a place on
abbrev pub first_answer_from : {A B : Type 0} → (ℕ → A → Option B) → ℕ → List A → Option B
first_answer_from f i [] = None
first_answer_from f i (x ∷ xs) = option_or (f i x) (first_answer_from f (i + 1) xs)

-- what each item gives, by its place
abbrev pub gathered_from : {A B : Type 0} → (ℕ → A → List B) → ℕ → List A → List B
gathered_from f i [] = []
gathered_from f i (x ∷ xs) = f i x ++ gathered_from f (i + 1) xs
