-- What a call of a reader reads.
use Rattle.std.specs.Prelude.{◌≡◌, ℕ, ◌+◌, ◌-◌, ◌==◌, Bool, true, false, List, [], ◌∷◌, take, drop, FitsSigned, Result, MatchResult, if◌then◌else◌}
use Rattle.std.specs.Int.{w64}
use Rattle.idl_token.specs.Bytes as byte
use Rattle.idl_token.specs.Limits.{longest_idl_text}
use Rattle.idl_token.specs.declared.Place.{Place}
use Rattle.idl_parser.specs.declared.reader.Stop.{Stop}
use Rattle.idl_parser.specs.declared.reader.Stop.TheVariants.{NoMemory, Stuck, Deep}
use Rattle.idl_parser.specs.declared.symbol.Symbol.{Symbol}
use Rattle.idl_token.specs.declared.terminal.Terminal.TheVariants as word
use Rattle.idl_token.specs.Terminals.{same}
use Rattle.idl_parser.specs.Leaves.{int_number}
use Rattle.idl_parser.specs.Phrases.{Lexeme, Node, Phrase}
use Rattle.idl_parser.specs.Reading.{ParseResult, done, failed, read}

-- no text has more symbols than bytes
unfoldable pub most : ℕ
most = longest_idl_text

-- a symbol in memory as the grammar sees it
abbrev pub lexeme_of : List ℕ → Symbol → Lexeme
lexeme_of text s = record { what = s.what; bytes = take (s.to - s.from) (drop s.from text); place = s.place }

-- the number of an integer has a place in 64 bits
abbrev pub IntFits : Lexeme → Type 0
IntFits t = same t.what word.Int ≡ true → FitsSigned w64 (int_number t.bytes)

-- the same of all symbols
abbrev pub IntsFit : List Lexeme → Type 0
IntsFit [] = Unit {0}
IntsFit (t ∷ ts) = IntFits t × IntsFit ts

-- the reading failed there; want of memory tells nothing
abbrev pub StopsAt : Stop → ParseResult → List Lexeme → Type 0
StopsAt NoMemory o rest = Unit {0}
StopsAt Stuck o rest = o ≡ failed false rest
StopsAt Deep o rest = o ≡ failed true rest

-- a call read such a phrase with this tree and left the rest, or failed as the phrase does there
abbrev pub Parses : {A : Type 0} → Phrase → (A → Node) → List Lexeme → List Lexeme → Result A Stop → Type 0
Parses p tree old new result =
    MatchResult result (λ x. read most p old ≡ done (tree x) new) (λ e. StopsAt e (read most p old) new)

-- no symbol is left
abbrev pub is_none_left : List Lexeme → Bool
is_none_left [] = true
is_none_left (t ∷ rest) = false

-- the reading ended at a level too many
abbrev pub is_deep : Stop → Bool
is_deep NoMemory = false
is_deep Stuck = false
is_deep Deep = true

-- the place behind a byte
abbrev pub place_behind_byte : Place → ℕ → Place
place_behind_byte at b = if b == byte.newline then record { line = at.line + 1; column = 1 } else record { line = at.line; column = at.column + 1 }

-- the place behind some bytes
abbrev pub place_behind : Place → List ℕ → Place
place_behind at [] = at
place_behind at (b ∷ bytes) = place_behind (place_behind_byte at b) bytes

-- the first place of a text
abbrev pub start : Place
start = record { line = 1; column = 1 }
