-- How flags are handed to clap, which knows options with values alone: a flag `--name` goes there as `--name=`. No part of what is promised.
use Rattle.std.specs.Prelude.{ℕ, List, [], ◌∷◌, ◌++◌, Option, None, Some, option_map, option_and_then, if◌then◌else◌}
use Rattle.service_binding.specs.Equals.{at_equals}
use Rattle.command_line.specs.Options.{behind_dashes, has_option}

-- the word of a flag
abbrev pub flag_word : List ℕ → List ℕ
flag_word name = 45 ∷ 45 ∷ name

-- a word by its parts before and behind the first `=`, if it has one; none where it is a flag with a value
abbrev pub flagless_at : (flag_words : List (List ℕ)) → List ℕ → Option (List ℕ × List ℕ) → Option (List ℕ)
flagless_at flag_words word (Some parts) = if has_option flag_words parts.0 then None else Some word
flagless_at flag_words word None = if has_option flag_words word then Some (word ++ 61 ∷ []) else Some word

-- the same, by what stands behind `--` at its front, if it has these
abbrev pub flagless_by : (flag_words : List (List ℕ)) → List ℕ → Option (List ℕ) → Option (List ℕ)
flagless_by flag_words word None = Some word
flagless_by flag_words word (Some text) = flagless_at flag_words word (at_equals word)

abbrev pub flagless_word : (flag_words : List (List ℕ)) → List ℕ → Option (List ℕ)
flagless_word flag_words word = flagless_by flag_words word (behind_dashes word)

-- the same of all words
abbrev pub flagless_words : (flag_words : List (List ℕ)) → List (List ℕ) → Option (List (List ℕ))
flagless_words flag_words [] = Some []
flagless_words flag_words (word ∷ words) =
    option_and_then (λ (first : List ℕ). option_map (λ (rest : List (List ℕ)). first ∷ rest) (flagless_words flag_words words)) (flagless_word flag_words word)
