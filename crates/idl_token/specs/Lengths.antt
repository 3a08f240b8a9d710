-- The lengths of the longest shapes in front of a text, 0 where there is none.
use Rattle.std.specs.Prelude.{ℕ, ◌+◌, ◌-◌, ◌==◌, ◌&&◌, not, nat_lt, Bool, false, max, List, [], ◌∷◌, take, drop, slice_index, Option, Some, None, if◌then◌else◌}
use Rattle.std.specs.List.{prefix_len, list_any}
use Rattle.std.specs.Char.{is_ascii_hexdigit}
use Rattle.idl_token.specs.Bytes as byte
use Rattle.idl_token.specs.Classes.{is_word_start, is_word_byte, is_quote, is_exponent_mark, is_escape}
use Rattle.idl_token.specs.Numbers.{sign_in, behind_sign, digits_in, behind_digits, is_big_int, is_big_double}
use Rattle.idl_token.specs.Words.{kind_of_word}
use Rattle.idl_token.specs.Blanks.{blank_in}
use Rattle.idl_token.specs.Wholes.{signs, kind_of_sign}
use Rattle.idl_token.specs.Pieces.{opening_fault}
use Rattle.idl_token.specs.declared.pieces.Piece.{Piece}
use Rattle.idl_token.specs.declared.pieces.Piece.TheVariants.{Blank, Token, Fault}
use Rattle.idl_token.specs.declared.TokenKind.{TokenKind}
use Rattle.idl_token.specs.declared.TokenKind.TheVariants.{Int, Double, Literal}
use Rattle.idl_token.specs.declared.LexKind.TheVariants.{BadEscape, BigNumber}

-- `many` bytes behind `before`, or nothing where there are none
abbrev pub with_front : ℕ → ℕ → ℕ
with_front before many = if nat_lt 0 many then before + many else 0

-- the longest word
unfoldable pub word_len : List ℕ → ℕ
word_len text = if is_word_start (slice_index text 0) then prefix_len is_word_byte text else 0

-- the longest sign and digits
abbrev pub decimal_len : List ℕ → ℕ
decimal_len text = with_front (sign_in text) (digits_in (behind_sign text))

-- the longest `0x` and hexadecimal digits
abbrev pub hexadecimal_len : List ℕ → ℕ
hexadecimal_len text =
    if slice_index text 0 == byte.digit_0 && slice_index text 1 == byte.lower_x then with_front 2 (prefix_len is_ascii_hexdigit (drop 2 text)) else 0

-- the longest exponent
abbrev pub exponent_len : List ℕ → ℕ
exponent_len text = if is_exponent_mark (slice_index text 0) then with_front 1 (decimal_len (drop 1 text)) else 0

-- the longest fraction
abbrev pub fraction_len : List ℕ → ℕ
fraction_len text =
    if slice_index text 0 == byte.dot && nat_lt 0 (digits_in (drop 1 text))
    then 1 + digits_in (drop 1 text) + exponent_len (behind_digits (drop 1 text)) else 0

-- the longest double without a sign
unfoldable pub unsigned_double_len : List ℕ → ℕ
unsigned_double_len text =
    with_front (digits_in text)
    (max (if nat_lt 0 (digits_in text) then exponent_len (behind_digits text) else 0) (fraction_len (behind_digits text)))

-- the longest double
unfoldable pub double_len : List ℕ → ℕ
double_len text = with_front (sign_in text) (unsigned_double_len (behind_sign text))

-- the place behind the closing mark, of text from a place on
abbrev pub closed_from : ℕ → ℕ → Bool → List ℕ → ℕ
closed_from at quote taken [] = 0
closed_from at quote taken (b ∷ text) =
    if not taken && b == quote then at + 1
    else closed_from (at + 1) quote (not taken && b == byte.backslash) text

-- the literal in front, from mark to mark
unfoldable pub literal_len : List ℕ → ℕ
literal_len text = if is_quote (slice_index text 0) then closed_from 1 (slice_index text 0) false (drop 1 text) else 0

-- a sign of the grammar
unfoldable pub sign_len : List ℕ → ℕ
sign_len text = if list_any (λ sign. sign == slice_index text 0) signs then 1 else 0

-- the place behind the first `*/`, of text from a place on
abbrev pub comment_from : ℕ → List ℕ → Option ℕ
comment_from at [] = None
comment_from at (b ∷ text) = if b == byte.star && slice_index text 0 == byte.slash then Some (at + 2) else comment_from (at + 1) text

-- the place of the first backslash whose byte behind makes no escape, of text from a place on
abbrev pub bad_escape_from : ℕ → Bool → List ℕ → Option ℕ
bad_escape_from at taken [] = None
bad_escape_from at taken (b ∷ text) =
    if taken && not (is_escape b) then Some (at - 1)
    else bad_escape_from (at + 1) (not taken && b == byte.backslash) text

-- the longest integer
unfoldable pub int_len : List ℕ → ℕ
int_len text = max (decimal_len text) (hexadecimal_len text)

-- the longest of all
unfoldable pub token_len : List ℕ → ℕ
token_len text = max (max (max (max (word_len text) (int_len text)) (double_len text)) (literal_len text)) (sign_len text)

-- a number of so many bytes, or its fault
abbrev pub number_piece : TokenKind → Bool → ℕ → Piece
number_piece kind big size = if big then Fault BigNumber 0 else Token kind size

-- a literal of so many bytes, or its bad escape
abbrev pub literal_piece : Option ℕ → ℕ → Piece
literal_piece None size = Token Literal size
literal_piece (Some place) size = Fault BadEscape place

-- the token of the first so many bytes, by the shape that reaches as far
unfoldable pub token_piece : List ℕ → ℕ → Piece
token_piece text size =
    if word_len text == size then Token (kind_of_word (take size text)) size
    else if int_len text == size then number_piece Int (is_big_int (take size text)) size
    else if double_len text == size then number_piece Double (is_big_double (take size text)) size
    else if literal_len text == size then literal_piece (bad_escape_from 0 false (take size text)) size
    else Token (kind_of_sign text) size

-- the blank in front, or else the longest token or the fault
abbrev pub piece_behind : Option ℕ → List ℕ → Piece
piece_behind (Some size) text = Blank size
piece_behind None text = if token_len text == 0 then Fault (opening_fault text) 0 else token_piece text (token_len text)

-- what stands in front
unfoldable pub front_piece : List ℕ → Piece
front_piece text = piece_behind (blank_in text) text
