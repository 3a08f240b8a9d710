-- The words behind a command: options, as two words `--name value` or as one word `--name=value`, anywhere among words that are no options.
use Rattle.std.specs.Prelude.{ℕ, ◌==◌, ◌&&◌, ◌++◌, Bool, false, List, [], ◌∷◌, Option, None, Some, option_map, option_and_then, if◌then◌else◌}
use Rattle.std.specs.List.{list_any, before_first, after_first}
use Rattle.std.specs.Str.{bytes_eq}
use Rattle.service_binding.specs.Equals.{is_equals}

-- a word begins with `-` (45)
abbrev pub is_dashed : List ℕ → Bool
is_dashed [] = false
is_dashed (b ∷ _) = b == 45

-- what stands behind the `--` at a word's front
abbrev pub behind_dashes : List ℕ → Option (List ℕ)
behind_dashes (a ∷ b ∷ rest) = if a == 45 && b == 45 then Some rest else None
behind_dashes _ = None

-- an option's name: what stands before the first `=`
abbrev pub option_name : List ℕ → List ℕ
option_name text = before_first is_equals text

-- an option's value in the same word: what stands behind the first `=`, if there is one
abbrev pub option_value : List ℕ → Option (List ℕ)
option_value text = if list_any is_equals text then Some (after_first is_equals text) else None

-- Words in order, each beside the name of the option whose value it is. The name of a word that is no option's value is empty.
abbrev pub NamedWords : Type 0
NamedWords = List (List ℕ × List ℕ)

-- the words beside a name
abbrev pub words_beside : NamedWords → List ℕ → List (List ℕ)
words_beside [] name = []
words_beside (pair ∷ pairs) name = if bytes_eq pair.0 name then pair.1 ∷ words_beside pairs name else words_beside pairs name

-- whether a name is among names
abbrev pub has_option : List (List ℕ) → List ℕ → Bool
has_option names name = list_any (λ (other : List ℕ). bytes_eq other name) names

-- whether an option has a value
abbrev pub has_value : NamedWords → List ℕ → Bool
has_value pairs name = list_any (λ (pair : List ℕ × List ℕ). bytes_eq pair.0 name) pairs

-- an option with its value, behind the words so far; each option stands once at most
abbrev pub option_with_value : NamedWords → List ℕ → List ℕ → Option NamedWords
option_with_value pairs name value = if has_value pairs name then None else Some (pairs ++ (name, value) ∷ [])

-- what follows is read with these words so far, and no option waits for its value
abbrev pub no_option_waits : NamedWords → NamedWords × Option (List ℕ)
no_option_waits pairs = (pairs, None)

-- an option behind the words so far, with its value or waiting for it
abbrev pub option_met : NamedWords → List ℕ → Option (List ℕ) → Option (NamedWords × Option (List ℕ))
option_met pairs name (Some value) = option_map no_option_waits (option_with_value pairs name value)
option_met pairs name None = Some (pairs, Some name)

-- an option, where the command has one of this name
abbrev pub named_option : List (List ℕ) → NamedWords → List ℕ → Option (List ℕ) → Option (NamedWords × Option (List ℕ))
named_option names pairs name value = if has_option names name then option_met pairs name value else None

-- a word with `-` in front, where no option waits for its value
abbrev pub dashed_word : List (List ℕ) → NamedWords → List ℕ → Option (NamedWords × Option (List ℕ))
dashed_word names pairs word = option_and_then (λ (text : List ℕ). named_option names pairs (option_name text) (option_value text)) (behind_dashes word)

-- One more word behind those so far, by the option that waits for its value, if one does. A value of an option, as a word of its own, doesn't begin
-- with `-`.
abbrev pub word_behind : List (List ℕ) → NamedWords → Option (List ℕ) → List ℕ → Option (NamedWords × Option (List ℕ))
word_behind names pairs (Some name) word = if is_dashed word then None else option_map no_option_waits (option_with_value pairs name word)
word_behind names pairs None word = if is_dashed word then dashed_word names pairs word else Some (no_option_waits (pairs ++ ([], word) ∷ []))

-- where no word is left, no option may wait for its value
abbrev pub at_the_end : NamedWords → Option (List ℕ) → Option NamedWords
at_the_end pairs None = Some pairs
at_the_end pairs (Some name) = None

-- The words left, behind those so far, for a command that has options of these names.
abbrev pub words_left : List (List ℕ) → NamedWords → Option (List ℕ) → List (List ℕ) → Option NamedWords
words_left names pairs waiting [] = at_the_end pairs waiting
words_left names pairs waiting (word ∷ words) =
    option_and_then (λ (next : NamedWords × Option (List ℕ)). words_left names next.0 next.1 words) (word_behind names pairs waiting word)

-- What is said by words: under an option's name its value, and under the empty name the words that are no options.
abbrev pub Sayings : Type 0
Sayings = List ℕ → List (List ℕ)

-- What the words behind a command say, if it has options of these names; nothing where another word begins with `-`, an option stands twice, or one has no value.
abbrev pub said_behind : List (List ℕ) → List (List ℕ) → Option Sayings
said_behind names words = option_map words_beside (words_left names [] None words)
