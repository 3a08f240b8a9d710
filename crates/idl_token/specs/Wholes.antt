-- What a text is as a whole: a token, a token with a flaw, or none.
use Rattle.std.specs.Prelude.{ℕ, ◌==◌, Bool, List, length, slice_index, codes, Option, Some, None, if◌then◌else◌, ◌&&◌}
use Rattle.std.specs.List.{list_any}
use Rattle.idl_token.specs.Bytes as byte
use Rattle.idl_token.specs.Words.{is_word, kind_of_word}
use Rattle.idl_token.specs.Numbers.{is_int, is_double, is_big_int, is_big_double}
use Rattle.idl_token.specs.Literals.{is_literal, bad_escape_in}
use Rattle.idl_token.specs.declared.TokenKind.{TokenKind}
use Rattle.idl_token.specs.declared.TokenKind.TheVariants.{Int, Double, Literal, Sign, Refused}
use Rattle.idl_token.specs.declared.LexKind.{LexKind}
use Rattle.idl_token.specs.declared.LexKind.TheVariants.{BadEscape, BigNumber}

-- no token; a token of this kind; a token with a fault at a byte of it
pub data Whole : Type 0 where
  other : Whole
  sound : TokenKind → Whole
  flawed : LexKind → ℕ → Whole

-- the signs of the grammar, and `&`
unfoldable pub signs : List ℕ
signs = codes "{}()[]<>,;:=*&"

-- one such byte
abbrev pub is_sign : List ℕ → Bool
is_sign text = list_any (λ sign. sign == slice_index text 0) signs && length text == 1

-- `&` is left out by name
abbrev pub kind_of_sign : List ℕ → TokenKind
kind_of_sign text = if slice_index text 0 == byte.ampersand then Refused else Sign

-- a number, or one that is too big
abbrev pub number_whole : TokenKind → Bool → Whole
number_whole kind big = if big then flawed BigNumber 0 else sound kind

-- a literal, or one with a bad escape
abbrev pub literal_whole : Option ℕ → Whole
literal_whole None = sound Literal
literal_whole (Some place) = flawed BadEscape place

-- what a text is as a whole, by the first shape that it has
abbrev pub whole_of : List ℕ → Whole
whole_of text =
    if is_word text then sound (kind_of_word text)
    else if is_int text then number_whole Int (is_big_int text)
    else if is_double text then number_whole Double (is_big_double text)
    else if is_literal text then literal_whole (bad_escape_in text)
    else if is_sign text then sound (kind_of_sign text)
    else other
