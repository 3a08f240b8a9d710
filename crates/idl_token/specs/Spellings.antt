-- Texts that are written to be read again: which tokens a text spells, whatever stands behind it.
use Rattle.std.specs.Prelude.{◌≡◌, ℕ, ◌&&◌, not, Bool, true, List, [], ◌∷◌, ◌++◌, map, take, drop}
use Rattle.idl_token.specs.Classes.{is_word_byte, is_plus_or_minus}
use Rattle.idl_token.specs.Tokens.{token_bytes, Cuts}
use Rattle.idl_token.specs.declared.Token.{Token}
use Rattle.idl_token.specs.declared.TokenKind.{TokenKind}
use Rattle.idl_token.specs.declared.pieces.Piece.{Piece}
use Rattle.idl_token.specs.declared.pieces.Piece.TheVariants.{Blank, Token as Tok, Fault}

-- a token without its place: what it is, and its bytes
pub record BareToken : Type 0 where
  pub kind : TokenKind
  pub bytes : List ℕ

-- a token of a text without its place
abbrev pub bare_token : List ℕ → Token → BareToken
bare_token text t = record { kind = t.kind; bytes = token_bytes text t }

-- the same of the tokens of a text
abbrev pub bare_tokens : List ℕ → List Token → List BareToken
bare_tokens text tokens = map (bare_token text) tokens

-- a byte that stands in no word, integer or double, as white space and the signs
abbrev pub is_delimiter : ℕ → Bool
is_delimiter b = not (is_word_byte b) && not (is_plus_or_minus b)

-- what may stand behind any token: nothing, or such a byte
abbrev pub parted : List ℕ → Bool
parted [] = true
parted (b ∷ more) = is_delimiter b

-- what may stand behind a sign or white space: anything
abbrev pub any : List ℕ → Bool
any more = true

-- the tokens among the pieces of a text
abbrev pub bare_tokens_in : List ℕ → List Piece → List BareToken
bare_tokens_in text [] = []
bare_tokens_in text (Blank n ∷ ps) = bare_tokens_in (drop n text) ps
bare_tokens_in text (Tok kind n ∷ ps) = record { kind = kind; bytes = take n text } ∷ bare_tokens_in (drop n text) ps
bare_tokens_in text (Fault kind place ∷ ps) = bare_tokens_in text ps

-- a text is cut into pieces as far as the rest, and these are the tokens among them
pub record Spelling (text rest : List ℕ) (marks : List BareToken) : Type 0 where
  pub pieces : List Piece
  pub cut : Cuts text pieces rest
  pub are : bare_tokens_in text pieces ≡ marks

-- a text spells tokens, whatever stands behind it that meets a test
abbrev pub SpellsToken : (List ℕ → Bool) → List ℕ → List BareToken → Type 0
SpellsToken test text marks = (more : List ℕ) → test more ≡ true → Spelling (text ++ more) more marks

-- a text spells tokens to its end
abbrev pub Spelled : List ℕ → List BareToken → Type 0
Spelled text marks = Spelling text [] marks
