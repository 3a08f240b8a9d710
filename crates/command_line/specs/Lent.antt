-- Words that are lent, as plain data.
use Rattle.std.specs.Prelude.{ℕ, List, map}
use Rattle.std.specs.Borrow.{Bor}

-- the words
abbrev pub lent_words : List (Bor (List ℕ)) → List (List ℕ)
lent_words lent = map (λ (word : Bor (List ℕ)). word.now) lent
