-- The integers of a text have a place in 64 bits.
use Rattle.std.proofs.Common.{◌≡◌, Bool, true, false, cond, ℕ, ℤ, pos, List, [], ◌∷◌, codes, refl, subst, arith}
use Rattle.std.specs.Prelude.{FitsSigned, nat_eq}
use Rattle.std.specs.Int.{w64}
use Rattle.std.specs.List.{All, AllByRecursion}
use Rattle.std.specs.Cmp.Lexicographic.{pointwise}
use Rattle.std.proofs.lemmas.List.Elements.{recursion_from_All}
use Rattle.idl_token.specs.Words.{truth_words, is_truth_word}
use Rattle.idl_token.specs.Numbers.{int_of}
use Rattle.idl_token.specs.Wholes.{sound, whole_of}
use Rattle.idl_token.specs.Tokens.{token_bytes, IsOfItsKind}
use Rattle.idl_token.specs.declared.Token.{Token}
use Rattle.idl_token.specs.declared.TokenKind.TheVariants.{Int}
use Rattle.idl_parser.specs.Leaves.{int_number}
use Rattle.idl_parser.specs.Symbols.{lexemes}
use Rattle.idl_parser.specs.ReaderCalls.{IntsFit}
use Rattle.idl_parser.proofs.KindSymbols.{int_alone}

-- the lexer's law: a token that is an integer, and no word for truth, has a number with a place in 64 bits
abbrev pub SmallToken : Type 0
SmallToken = (token : List ℕ) → whole_of token ≡ sound Int → is_truth_word token ≡ false → FitsSigned w64 (int_of token)

-- the words for truth, and the other integers
truth : (yes_word no_word : Bool) (z : ℤ) → (yes_word ≡ false → no_word ≡ false → FitsSigned w64 z) → FitsSigned w64 (cond yes_word (pos 1) (cond no_word (pos 0) z))
truth true no_word z other_fits = record { sfits = omega arith }
truth false true z other_fits = record { sfits = omega arith }
truth false false z other_fits = other_fits refl refl

-- what is none of the two words stands for no truth
untrue : (w : List ℕ) → pointwise nat_eq w (codes "true") ≡ false → pointwise nat_eq w (codes "false") ≡ false → is_truth_word w ≡ false
unfolding truth_words
untrue w a b = rw (a, b) refl

-- the number of an integer's token has a place in 64 bits, by the lexer's law
pub int_fits : SmallToken → (w : List ℕ) → whole_of w ≡ sound Int → FitsSigned w64 (int_number w)
unfolding int_number
int_fits small w is =
    truth (pointwise nat_eq w (codes "true")) (pointwise nat_eq w (codes "false")) (int_of w) (λ a b. small w is (untrue w a b))

fit_each : SmallToken → (text : List ℕ) (tokens : List Token) → AllByRecursion (IsOfItsKind text) tokens → IntsFit (lexemes text tokens)
fit_each small text [] each = tt
fit_each small text (t ∷ tokens) each = (
  λ int. int_fits small (token_bytes text t) (subst (λ k. whole_of (token_bytes text t) ≡ sound k) (int_alone t.kind (token_bytes text t) int) each.0),
  fit_each small text tokens each.1,
)

pub ints_fit : SmallToken → (text : List ℕ) (tokens : List Token) → All (IsOfItsKind text) tokens → IntsFit (lexemes text tokens)
ints_fit small text tokens each = fit_each small text tokens (recursion_from_All (IsOfItsKind text) tokens each)
