-- What a line says, by its words, which are parted by one space.
use Rattle.std.specs.Prelude.{ℕ, zero, suc, ◌^◌, ◌&&◌, nat_lt, List, [], ◌∷◌, codes, Option, None, Some, if◌then◌else◌, option_and_then}
use Rattle.std.specs.Option.{option_map}
use Rattle.std.specs.Str.{bytes_eq}
use Rattle.std.specs.Str.Parse.{digits_value}
use Rattle.text_out.specs.Decimal.{natural_of}
use Rattle.text_out.specs.Hex.{unhex_of}
use Rattle.script_model.specs.ScriptLines.{PlanLine, opening, piece, input_end, input_fault, resting, turn_of_conn, turn_of_worker, turn_of_outcome, PlanRule, takes_most, blocks, fails}
use Rattle.script_text.specs.TextLines.{TextParts, parts_around, is_space}

-- a line of the run, or one more rule of a connection
pub data SaidLine : Type 0 where
  runs : (line : PlanLine) → SaidLine
  rules_so : (c : ℕ) (rule : PlanRule) → SaidLine

-- the number of 32 bits that a text is the decimal of
abbrev pub decimal_read : List ℕ → Option ℕ
decimal_read text = if nat_lt (digits_value 10 text) (2 ^ 32) && bytes_eq text (natural_of (digits_value 10 text)) then Some (digits_value 10 text) else None

-- the bytes that one or more pairs of hexadecimal digits spell
abbrev pub spelled_bytes : List ℕ → Option (List ℕ)
spelled_bytes [] = None
spelled_bytes (digit ∷ digits) = unhex_of (digit ∷ digits)

-- the line of a piece
abbrev pub piece_on : ℕ → List ℕ → SaidLine
piece_on c bytes = runs (piece c bytes)

-- the rule that a write takes so many bytes at most, one at least
abbrev pub takes_some : ℕ → ℕ → Option SaidLine
takes_some c zero = None
takes_some c (suc n) = Some (rules_so c (takes_most (suc n)))

-- a line of one word
abbrev pub word_alone : List ℕ → Option SaidLine
word_alone word =
    if bytes_eq word (codes "open") then Some (runs opening)
    else if bytes_eq word (codes "rest") then Some (runs resting)
    else if bytes_eq word (codes "collect") then Some (runs turn_of_outcome)
    else None

-- a word and a number
abbrev pub word_of_number : List ℕ → ℕ → Option SaidLine
word_of_number word n =
    if bytes_eq word (codes "end") then Some (runs (input_end n))
    else if bytes_eq word (codes "readfail") then Some (runs (input_fault n))
    else if bytes_eq word (codes "block") then Some (rules_so n blocks)
    else if bytes_eq word (codes "writefail") then Some (rules_so n fails)
    else if bytes_eq word (codes "loop") then Some (runs (turn_of_conn n))
    else if bytes_eq word (codes "work") then Some (runs (turn_of_worker n))
    else None

-- a word and a number, with something behind them
abbrev pub word_with_more : List ℕ → List ℕ → ℕ → Option SaidLine
word_with_more word last c =
    if bytes_eq word (codes "data") then option_map (piece_on c) (spelled_bytes last)
    else if bytes_eq word (codes "write") then option_and_then (takes_some c) (decimal_read last)
    else None

-- what stands behind a line's first word: a number, or a number and something more
abbrev pub words_behind : List ℕ → List ℕ → Option TextParts → Option SaidLine
words_behind word rest None = option_and_then (word_of_number word) (decimal_read rest)
words_behind word rest (Some parts) = option_and_then (word_with_more word parts.1) (decimal_read parts.0)

-- a line of one word, or of more
abbrev pub words_of_line : List ℕ → Option TextParts → Option SaidLine
words_of_line line None = word_alone line
words_of_line line (Some parts) = words_behind parts.0 parts.1 (parts_around is_space parts.1)

-- what a line says, or nothing where it has none of the forms
abbrev pub said_of : List ℕ → Option SaidLine
said_of line = words_of_line line (parts_around is_space line)
