-- A word at its first `=`.
use Rattle.std.specs.Prelude.{ℕ, ◌+◌, ◌==◌, Bool, List, take, drop, Option, option_map, position}

-- what parts a word: `=` (61)
abbrev pub is_equals : ℕ → Bool
is_equals b = b == 61

-- the parts before and behind the first `=` of a word; none where it has no `=`
abbrev pub at_equals : List ℕ → Option (List ℕ × List ℕ)
at_equals word = option_map (λ (at : ℕ). (take at word, drop (at + 1) word)) (position is_equals word)
