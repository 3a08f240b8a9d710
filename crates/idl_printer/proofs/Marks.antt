-- The symbols of a text that spells tokens.
use Rattle.std.proofs.Common.{◌≡◌, ℕ, List, [], ◌∷◌, ◌++◌, refl}
use Rattle.idl_token.specs.declared.Token.{Token}
use Rattle.idl_token.specs.declared.TokenKind.{TokenKind}
use Rattle.idl_token.specs.Wholes.{sound, whole_of}
use Rattle.std.specs.List.{AllByRecursion}
use Rattle.idl_token.specs.Tokens.{IsOfItsKind}
use Rattle.idl_token.specs.Spellings.{BareToken, bare_tokens}
use Rattle.idl_parser.specs.Phrases.{Lexeme}
use Rattle.idl_parser.specs.Symbols.{terminal_of, lexeme_at, lexemes}

-- tokens at the front of some symbols, up to the rest
abbrev pub Marked : List Lexeme → List BareToken → List Lexeme → Type 0
Marked ts [] rest = ts ≡ rest
Marked ts (m ∷ ms) rest =
    (t : Lexeme) × (mid : List Lexeme) × (ts ≡ t ∷ mid) × (t.what ≡ terminal_of m.kind m.bytes) × (t.bytes ≡ m.bytes) × Marked mid ms rest

pub marked_split : (ms ns : List BareToken) (ts rest : List Lexeme) → Marked ts (ms ++ ns) rest → (mid : List Lexeme) × Marked ts ms mid × Marked mid ns rest
marked_split [] ns ts rest h = (ts, refl, h)
marked_split (m ∷ ms) ns ts rest h =
    let s = marked_split ms ns h.1 rest h.5 in
    (s.0, (h.0, h.1, h.2, h.3, h.4, s.1), s.2)

pub lexemes_marked : (text : List ℕ) (tokens : List Token) → Marked (lexemes text tokens) (bare_tokens text tokens) []
lexemes_marked text [] = refl
lexemes_marked text (t ∷ tokens) = (lexeme_at text t, lexemes text tokens, refl, refl, refl, lexemes_marked text tokens)

-- each symbol is that of a sound token
abbrev pub IsSound : Lexeme → Type 0
IsSound t = (kind : TokenKind) × (whole_of t.bytes ≡ sound kind) × (terminal_of kind t.bytes ≡ t.what)

abbrev pub AreSound : List Lexeme → Type 0
AreSound [] = Unit {0}
AreSound (t ∷ ts) = IsSound t × AreSound ts

pub lexemes_sound : (text : List ℕ) (tokens : List Token) → AllByRecursion (IsOfItsKind text) tokens → AreSound (lexemes text tokens)
lexemes_sound text [] h = tt
lexemes_sound text (t ∷ tokens) h = ((t.kind, h.0, refl), lexemes_sound text tokens h.1)
