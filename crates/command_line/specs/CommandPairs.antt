-- The pairs of a command, a word each.
use Rattle.std.specs.Prelude.{ℕ, nat_le, ◌&&◌, List, [], ◌∷◌, length, Option, None, Some, option_map, option_and_then, if◌then◌else◌}
use Rattle.service_binding.specs.Pairs.{NamedKind, pair_of_word}

-- the pairs that words are, one each
abbrev pub pairs_of_words : List (List ℕ) → Option (List NamedKind)
pairs_of_words [] = Some []
pairs_of_words (word ∷ words) =
    option_and_then (λ (pair : NamedKind). option_map (λ (pairs : List NamedKind). pair ∷ pairs) (pairs_of_words words)) (pair_of_word word)

-- the most pairs of a command
abbrev pub most_pairs : ℕ
most_pairs = 16

-- the pairs of a command: there are 1 to 16
abbrev pub command_pairs : List (List ℕ) → Option (List NamedKind)
command_pairs words = if nat_le 1 (length words) && nat_le (length words) most_pairs then pairs_of_words words else None
