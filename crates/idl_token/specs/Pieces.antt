-- What stands at the front of a text.
use Rattle.std.specs.Prelude.{◌≡◌, ◌≢◌, ◌⊎◌, ℕ, ◌≤◌, ◌<◌, List, length, take, slice_index, Some, None, if◌then◌else◌}
use Rattle.idl_token.specs.Classes.{is_quote}
use Rattle.idl_token.specs.Blanks.{blank_in, begins_comment}
use Rattle.idl_token.specs.Wholes.{Whole, other, sound, flawed, whole_of}
use Rattle.idl_token.specs.declared.pieces.Piece.{Piece}
use Rattle.idl_token.specs.declared.pieces.Piece.TheVariants.{Blank, Token, Fault}
use Rattle.idl_token.specs.declared.LexKind.{LexKind}
use Rattle.idl_token.specs.declared.LexKind.TheVariants.{BadByte, OpenLiteral, OpenComment}

-- the first n bytes are a token, sound or flawed, and no more than n bytes are one
pub record LongestIn (text : List ℕ) (n : ℕ) (whole : Whole) : Type 0 where
  pub within : n ≤ length text
  pub is : whole_of (take n text) ≡ whole
  pub token : whole ≢ other
  pub longest : (m : ℕ) → n < m → m ≤ length text → whole_of (take m text) ≡ other

-- a byte with which no token begins
abbrev pub BeginsNone : List ℕ → Type 0
BeginsNone text = (m : ℕ) → m ≤ length text → whole_of (take m text) ≡ other

-- what is wrong where no blank and no token begins
abbrev pub opening_fault : List ℕ → LexKind
opening_fault text =
    if is_quote (slice_index text 0) then OpenLiteral
    else if begins_comment text then OpenComment
    else BadByte

-- what stands in front of a text that isn't empty: blanks, or else the longest token, or else a fault
abbrev pub IsFrontPiece : List ℕ → Piece → Type 0
IsFrontPiece text (Blank n) = blank_in text ≡ Some n
IsFrontPiece text (Token kind n) = (blank_in text ≡ None) × LongestIn text n (sound kind)
IsFrontPiece text (Fault kind place) = (blank_in text ≡ None) ×
    (((n : ℕ) × LongestIn text n (flawed kind place)) ⊎ (BeginsNone text × (kind ≡ opening_fault text) × (place ≡ 0)))

-- a piece takes bytes of the text, one or more, and a fault stands at one of them
abbrev pub IsWithin : List ℕ → Piece → Type 0
IsWithin text (Blank n) = (0 < n) × (n ≤ length text)
IsWithin text (Token kind n) = (0 < n) × (n ≤ length text)
IsWithin text (Fault kind place) = place ≤ length text
