-- A script's text as lines, and a line as the parts around a space.
use Rattle.std.specs.Prelude.{ℕ, ◌==◌, Bool, true, List, [], ◌∷◌, Option, None, Some, if◌then◌else◌}
use Rattle.std.specs.Option.{option_map}
pub use Rattle.limits.specs.Limits.{longest_script}

-- the byte between two words
abbrev pub space_byte : ℕ
space_byte = 32

-- a byte is a space
abbrev pub is_space : ℕ → Bool
is_space b = b == space_byte

-- the byte that ends a line
abbrev pub is_line_end : ℕ → Bool
is_line_end b = b == 10

-- two parts of a text: what stands before some byte, and what stands behind it
abbrev pub TextParts : Type 0
TextParts = List ℕ × List ℕ

-- a byte more in front
abbrev pub led_parts : ℕ → TextParts → TextParts
led_parts x parts = (x ∷ parts.0, parts.1)

-- the parts where that byte stands first
abbrev pub at_front : List ℕ → Option TextParts
at_front text = Some ([], text)

-- the parts around the first byte that passes a test, where there is one
abbrev pub parts_around : (ℕ → Bool) → List ℕ → Option TextParts
parts_around test [] = None
parts_around test (x ∷ text) = if test x then at_front text else option_map (led_parts x) (parts_around test text)

-- these parts
abbrev pub some_parts : List ℕ → List ℕ → Option TextParts
some_parts before behind = Some (before, behind)

-- the lines with this byte in front of the first one
abbrev pub led_by : ℕ → List (List ℕ) → List (List ℕ)
led_by b [] = (b ∷ []) ∷ []
led_by b (line ∷ lines) = (b ∷ line) ∷ lines

-- the lines of a text, each ended by a newline, which behind the last one may be missing
abbrev pub text_lines : List ℕ → List (List ℕ)
text_lines [] = []
text_lines (b ∷ text) = if is_line_end b then [] ∷ text_lines text else led_by b (text_lines text)

-- empty lines and those that begin with `#` say nothing
abbrev pub is_passed_over : List ℕ → Bool
is_passed_over [] = true
is_passed_over (b ∷ line) = b == 35
