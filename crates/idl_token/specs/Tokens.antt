-- The tokens of a text, or its first fault.
use Rattle.std.specs.Prelude.{◌≡◌, ◌≢◌, ℕ, ◌+◌, ◌-◌, ◌<◌, ◌≤◌, List, [], ◌∷◌, take, drop}
use Rattle.idl_token.specs.Pieces.{IsFrontPiece}
use Rattle.idl_token.specs.Wholes.{sound, whole_of}
use Rattle.idl_token.specs.Places.{line_and_column}
use Rattle.idl_token.specs.declared.Token.{Token}
use Rattle.idl_token.specs.declared.LexFault.{LexFault}
use Rattle.idl_token.specs.declared.pieces.Piece.{Piece}
use Rattle.idl_token.specs.declared.pieces.Piece.TheVariants.{Blank, Token as Tok, Fault}

-- how many bytes a blank or a token takes
abbrev pub size_of : Piece → ℕ
size_of (Blank n) = n
size_of (Tok kind n) = n
size_of (Fault kind place) = 0

-- the place behind pieces of which the first begins at a place
abbrev pub end_of : ℕ → List Piece → ℕ
end_of at [] = at
end_of at (p ∷ ps) = end_of (at + size_of p) ps

-- the tokens among pieces of which the first begins at a place
abbrev pub tokens_in : ℕ → List Piece → List Token
tokens_in at [] = []
tokens_in at (Blank n ∷ ps) = tokens_in (at + n) ps
tokens_in at (Tok kind n ∷ ps) = record { kind = kind; from = at; to = at + n } ∷ tokens_in (at + n) ps
tokens_in at (Fault kind place ∷ ps) = tokens_in at ps

-- the piece is a blank or a token
abbrev pub IsFaultless : Piece → Type 0
IsFaultless (Blank n) = Unit {0}
IsFaultless (Tok kind n) = Unit {0}
IsFaultless (Fault kind place) = ⊥

-- the text from its front, cut into blanks and tokens as far as the rest
abbrev pub Cuts : List ℕ → List Piece → List ℕ → Type 0
Cuts text [] rest = text ≡ rest
Cuts text (p ∷ ps) rest = (text ≢ []) × IsFaultless p × IsFrontPiece text p × Cuts (drop (size_of p) text) ps rest

-- the tokens of a text: it is cut into blanks and tokens, and these are the tokens
pub record AreTokensOf (ts : List Token) (text : List ℕ) : Type 0 where
  pub pieces : List Piece
  pub cut : Cuts text pieces []
  pub are : ts ≡ tokens_in 0 pieces

-- the first fault of a text: it stands where blanks and tokens end
pub record IsFirstLexFault (f : LexFault) (text : List ℕ) : Type 0 where
  pub pieces : List Piece
  pub rest : List ℕ
  pub inside : ℕ
  pub cut : Cuts text pieces rest
  pub more : rest ≢ []
  pub fault : IsFrontPiece rest (Fault f.kind inside)
  pub place : f.at ≡ line_and_column text (end_of 0 pieces + inside)

-- a text has tokens
abbrev pub HasTokens : List ℕ → Type 0
HasTokens text = (ts : List Token) × AreTokensOf ts text

-- a text has a first fault
abbrev pub HasFirstLexFault : List ℕ → Type 0
HasFirstLexFault text = (f : LexFault) × IsFirstLexFault f text

-- the bytes of a token
abbrev pub token_bytes : List ℕ → Token → List ℕ
token_bytes text t = take (t.to - t.from) (drop t.from text)

-- a token's bytes are, as a whole, a token of its kind
abbrev pub IsOfItsKind : List ℕ → Token → Type 0
IsOfItsKind text t = whole_of (token_bytes text t) ≡ sound t.kind

-- tokens stand in order between two places, each with a byte or more
abbrev pub StandBetween : ℕ → ℕ → List Token → Type 0
StandBetween from to [] = from ≤ to
StandBetween from to (t ∷ ts) = (from ≤ t.from) × (t.from < t.to) × StandBetween t.to to ts
