-- Flags among the words behind a command: each a word `--name`, anywhere among options and other words.
use Rattle.std.specs.Prelude.{ℕ, List, [], ◌∷◌, ◌++◌, Option, None, Some, option_map, option_and_then, if◌then◌else◌}
use Rattle.command_line.specs.Options.{NamedWords, Sayings, is_dashed, behind_dashes, option_name, option_value, words_beside, has_option, option_with_value, no_option_waits, named_option, at_the_end}

-- a flag behind the words so far: it has no value in its word, and stands once at most
abbrev pub flag_met : NamedWords → List ℕ → Option (List ℕ) → Option (NamedWords × Option (List ℕ))
flag_met pairs name (Some value) = None
flag_met pairs name None = option_map no_option_waits (option_with_value pairs name [])

-- a flag, or an option that the command has
abbrev pub flag_or_option : (names flags : List (List ℕ)) → NamedWords → List ℕ → Option (List ℕ) → Option (NamedWords × Option (List ℕ))
flag_or_option names flags pairs name value = if has_option flags name then flag_met pairs name value else named_option names pairs name value

-- a word with `-` in front, where no option waits for its value
abbrev pub dashed_word_with : (names flags : List (List ℕ)) → NamedWords → List ℕ → Option (NamedWords × Option (List ℕ))
dashed_word_with names flags pairs word =
    option_and_then (λ (text : List ℕ). flag_or_option names flags pairs (option_name text) (option_value text)) (behind_dashes word)

-- One more word behind those so far, by the option that waits for its value, if one does. A flag is no option's value.
abbrev pub word_behind_with : (names flags : List (List ℕ)) → NamedWords → Option (List ℕ) → List ℕ → Option (NamedWords × Option (List ℕ))
word_behind_with names flags pairs (Some name) word = if is_dashed word then None else option_map no_option_waits (option_with_value pairs name word)
word_behind_with names flags pairs None word = if is_dashed word then dashed_word_with names flags pairs word else Some (no_option_waits (pairs ++ ([], word) ∷ []))

-- The words left, behind those so far, for a command that has options of these names, and these flags.
abbrev pub words_left_with : (names flags : List (List ℕ)) → NamedWords → Option (List ℕ) → List (List ℕ) → Option NamedWords
words_left_with names flags pairs waiting [] = at_the_end pairs waiting
words_left_with names flags pairs waiting (word ∷ words) =
    option_and_then (λ (next : NamedWords × Option (List ℕ)). words_left_with names flags next.0 next.1 words) (word_behind_with names flags pairs waiting word)

-- What the words behind a command say, if it has options of these names, and these flags; a flag that stands there has an empty word beside its name.
abbrev pub said_behind_with : (names flags : List (List ℕ)) → List (List ℕ) → Option Sayings
said_behind_with names flags words = option_map words_beside (words_left_with names flags [] None words)
