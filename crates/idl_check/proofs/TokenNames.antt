-- The symbols of a text that are names are identifiers, none is longer than a text, and there are no more symbols than bytes.
use Rattle.std.proofs.Common.{◌≡◌, ◌+◌, ◌≤◌, ◌-◌, ℕ, suc, Bool, true, false, cond, not, ◌==◌, List, [], ◌∷◌, length, drop, Option, Some, None, refl, sym, ap, ◌∙◌, arith, length-take, length-drop}
use Rattle.std.specs.Prelude.{slice_index, nat_eq}
use Rattle.std.specs.Option.{unwrap_or}
use Rattle.std.specs.List.{AllByRecursion, list_all, prefix_len}
use Rattle.std.specs.Cmp.Lexicographic.{pointwise}
use Rattle.std.proofs.lemmas.Bool.{and_parts, not-true, eqb-true, ltb-true}
use Rattle.idl_token.specs.Classes.{is_word_start, is_word_byte, is_run}
use Rattle.idl_token.specs.Limits.{longest_idl_text}
use Rattle.idl_token.specs.Literals.{is_literal, bad_escape_in}
use Rattle.idl_token.specs.Numbers.{is_int, is_double, is_big_int, is_big_double}
use Rattle.idl_token.specs.Terminals.{same}
use Rattle.idl_token.specs.Tokens.{token_bytes, IsOfItsKind, StandBetween}
use Rattle.idl_token.specs.Wholes.{other, sound, number_whole, literal_whole, is_sign, whole_of}
use Rattle.idl_token.specs.Words.{is_word, keywords, terminal_in, keyword_of, kind_of_word}
use Rattle.idl_token.specs.declared.Token.{Token}
use Rattle.idl_token.specs.declared.TokenKind.{TokenKind}
use Rattle.idl_token.specs.declared.TokenKind.TheVariants as kind
use Rattle.idl_token.specs.declared.terminal.Terminal.{Terminal}
use Rattle.idl_token.specs.declared.terminal.Terminal.TheVariants as word
use Rattle.idl_parser.specs.Symbols.{sign_of, terminal_of, lexemes}
use Rattle.idl_check.specs.Identifiers.{IsIdentifier}
use Rattle.idl_check.proofs.Leaves.{IsTextSymbol}

-- no keyword's symbol is a name
row_case : (b : Bool) (k : Terminal) (rest : Option Terminal) → same k word.Identifier ≡ false → same (unwrap_or rest word.Refused) word.Identifier ≡ false
    → same (unwrap_or (cond b (Some k) rest) word.Refused) word.Identifier ≡ false
row_case true k rest here later = here
row_case false k rest here later = later

no_row : (rows : List (List ℕ × Terminal)) (w : List ℕ) → list_all (λ r. not (same r.1 word.Identifier)) rows ≡ true
    → same (unwrap_or (terminal_in (λ r. r.0) (λ r. r.1) rows w) word.Refused) word.Identifier ≡ false
no_row [] w lack = refl
no_row (r ∷ rows) w lack =
    let parts = and_parts (not (same r.1 word.Identifier)) (list_all (λ r. not (same r.1 word.Identifier)) rows) lack in
    row_case (pointwise nat_eq w r.0) r.1 (terminal_in (λ r. r.0) (λ r. r.1) rows w) (not-true (same r.1 word.Identifier) parts.0) (no_row rows w parts.1)

keyword_is_no_name : (w : List ℕ) → same (unwrap_or (keyword_of w) word.Refused) word.Identifier ≡ false
unfolding keywords
keyword_is_no_name w = no_row keywords w refl

-- no sign's symbol is a name
sign_case : (b : Bool) (j k : Terminal) → same j word.Identifier ≡ false → same k word.Identifier ≡ false → same (cond b j k) word.Identifier ≡ false
sign_case true j k here later = here
sign_case false j k here later = later

sign_is_no_name : (b : ℕ) → same (sign_of b) word.Identifier ≡ false
unfolding sign_of
sign_is_no_name b =
    sign_case (b == 123) word.OpenBrace _ refl (sign_case (b == 125) word.CloseBrace _ refl (sign_case (b == 40) word.OpenParen _ refl
    (sign_case (b == 41) word.CloseParen _ refl (sign_case (b == 91) word.OpenBracket _ refl (sign_case (b == 93) word.CloseBracket _ refl
    (sign_case (b == 60) word.Less _ refl (sign_case (b == 62) word.Greater _ refl (sign_case (b == 44) word.Comma _ refl
    (sign_case (b == 59) word.Semicolon _ refl (sign_case (b == 58) word.Colon _ refl (sign_case (b == 61) word.Equals _ refl
    (sign_case (b == 42) word.Star word.Refused refl refl))))))))))))

name_alone : (k : TokenKind) (w : List ℕ) → same (terminal_of k w) word.Identifier ≡ true → k ≡ kind.Identifier
name_alone kind.Keyword w e = let f : true ≡ false = sym e ∙ keyword_is_no_name w in cc
name_alone kind.Identifier w e = refl
name_alone kind.Int w e = cc
name_alone kind.Double w e = cc
name_alone kind.Literal w e = cc
name_alone kind.Sign w e = let f : true ≡ false = sym e ∙ sign_is_no_name (slice_index w 0) in cc
name_alone kind.Refused w e = cc

-- a whole name is a word
whole_name : (a_word int double closed sign big long refused : Bool) (k : TokenKind) (bad : Option ℕ)
    → cond a_word (sound k) (cond int (number_whole kind.Int big) (cond double (number_whole kind.Double long) (cond closed (literal_whole bad) (cond sign (sound (cond refused kind.Refused kind.Sign)) other)))) ≡ sound kind.Identifier
    → a_word ≡ true
whole_name true int double closed sign big long refused k bad e = refl
whole_name false true double closed sign true long refused k bad e = cc
whole_name false true double closed sign false long refused k bad e = cc
whole_name false false true closed sign big true refused k bad e = cc
whole_name false false true closed sign big false refused k bad e = cc
whole_name false false false true sign big long refused k None e = cc
whole_name false false false true sign big long refused k (Some at) e = cc
whole_name false false false false true big long true k bad e = cc
whole_name false false false false true big long false k bad e = cc
whole_name false false false false false big long refused k bad e = cc

-- bytes that all pass
front_passes : (b : Bool) (n m : ℕ) → cond b (1 + n) 0 ≡ suc m → (b ≡ true) × (n ≡ m)
front_passes true n m e = (refl, omega arith)
front_passes false n m e = absurd (omega arith)

run_passes : (p : ℕ → Bool) (xs : List ℕ) → prefix_len p xs ≡ length xs → AllByRecursion (λ b. p b ≡ true) xs
run_passes p [] e = tt
run_passes p (x ∷ xs) e = let parts = front_passes (p x) (prefix_len p xs) (length xs) e in (parts.0, run_passes p xs parts.1)

word_is_identifier : (w : List ℕ) → length w ≤ longest_idl_text → is_word w ≡ true → IsIdentifier w
word_is_identifier w short is =
    let run = (and_parts (is_word_start (slice_index w 0)) (is_run is_word_byte w) is).1 in
    let parts = and_parts _ (prefix_len is_word_byte w == length w) run in
    record { some = ltb-true 0 (length w) parts.0; short = short; bytes = run_passes is_word_byte w (eqb-true (prefix_len is_word_byte w) (length w) parts.1) }

token_is_identifier : (w : List ℕ) (k : TokenKind) → length w ≤ longest_idl_text → whole_of w ≡ sound k → same (terminal_of k w) word.Identifier ≡ true → IsIdentifier w
token_is_identifier w k short is name =
    word_is_identifier w short
    (whole_name (is_word w) (is_int w) (is_double w) (is_literal w) (is_sign w) (is_big_int w) (is_big_double w) (slice_index w 0 == 38) (kind_of_word w) (bad_escape_in w)
    (is ∙ ap sound (name_alone k w name)))

token_is_short : (text : List ℕ) (t : Token) → length (token_bytes text t) ≤ length text
token_is_short text t = omega (arith, length-take (t.to - t.from) (drop t.from text), length-drop t.from text)

pub symbols_are_texts : (text : List ℕ) → length text ≤ longest_idl_text → (ts : List Token) → AllByRecursion (IsOfItsKind text) ts → AllByRecursion IsTextSymbol (lexemes text ts)
symbols_are_texts text short [] h = tt
symbols_are_texts text short (t ∷ ts) h =
    let small : length (token_bytes text t) ≤ longest_idl_text = omega (arith, token_is_short text t) in
    ((λ name. token_is_identifier (token_bytes text t) t.kind small h.0 name, small), symbols_are_texts text short ts h.1)

-- tokens in a row take bytes
pub few_tokens : (from to : ℕ) (ts : List Token) → StandBetween from to ts → length ts + from ≤ to
few_tokens from to [] h = omega (arith, h)
few_tokens from to (t ∷ ts) h = let rest = few_tokens t.to to ts h.2 in omega (arith, rest, h.0, h.1)

pub few_symbols : (text : List ℕ) (ts : List Token) → length (lexemes text ts) ≡ length ts
few_symbols text [] = refl
few_symbols text (t ∷ ts) = ap suc (few_symbols text ts)
