-- Integers as they are printed, and as they were read.
use Rattle.std.proofs.Common.{◌≡◌, ℕ, suc, ℤ, pos, negsuc, ◌+◌, ◌-◌, ◌*◌, ◌<◌, ◌==◌, ◌&&◌, ◌||◌, nat_le, Bool, true, false, cond, List, [], ◌∷◌, length, drop, refl, sym, ap, ◌∙◌, subst, arith}
use lib.IntN.{neg_ℤ}
use Rattle.std.specs.Prelude.{FitsSigned}
use Rattle.std.specs.Int.{w64}
use Rattle.std.specs.List.{prefix_len}
use Rattle.std.specs.Char.{is_ascii_digit, is_ascii_hexdigit, digit_value as value_of_digit}
use Rattle.std.specs.Str.Parse.{AllDigits, IsNumeral, digits_value, digits_value_after}
use Rattle.std.proofs.lemmas.Bool.{lt-ltb, eq-eqb, eqb-true, le-leb, leb-true}
use Rattle.std.proofs.lemmas.Str.{digit_value_digit}
use Rattle.std.proofs.lemmas.Str.Parse.{digit_from_value}
use Rattle.std.proofs.lemmas.Fmt.{decimal_is_IsNumeral_wide}
use Rattle.text_out.specs.Decimal.{natural_of, decimal_of}
use Rattle.idl_token.specs.declared.TokenKind.{TokenKind}
use Rattle.idl_token.specs.declared.TokenKind.TheVariants as kind
use Rattle.idl_token.specs.Classes.{is_run, is_word_start, is_plus_or_minus}
use Rattle.idl_token.specs.Words.{is_word, kind_of_word}
use Rattle.idl_token.specs.Numbers.{behind_sign, is_decimal, is_hexadecimal, is_int, is_double, digit_value, value_behind, magnitude, is_big_int, int_of, is_big_double}
use Rattle.idl_token.specs.Literals.{is_literal, bad_escape_in}
use Rattle.idl_token.specs.Wholes.{other, sound, whole_of, number_whole, literal_whole, is_sign, kind_of_sign}
use Rattle.idl_token.proofs.Fronts.{is_false, not_false, both, or_left}
use Rattle.idl_token.proofs.Values.{small_ints}
use Rattle.idl_token.proofs.IntTokens.{small_token}
use Rattle.idl_token.specs.declared.terminal.Terminal.TheVariants as word
use Rattle.idl_token.specs.Terminals.{same}
use Rattle.idl_parser.specs.Symbols.{terminal_of}
use Rattle.idl_parser.specs.Leaves.{int_number}
use Rattle.idl_parser.proofs.KindSymbols.{int_alone}
use Rattle.idl_parser.proofs.Ints.{int_fits}

digit_true : (c : ℕ) → value_of_digit c < 10 → is_ascii_digit c ≡ true
digit_true c h = let r = digit_from_value c h in both _ _ (le-leb 48 c r.0) (le-leb c 57 r.1)

all_digits : (ds : List ℕ) → AllDigits 10 ds → prefix_len is_ascii_digit ds ≡ length ds
all_digits [] h = refl
all_digits (c ∷ cs) h =
    let more = all_digits cs h.1 in
    let one_more : 1 + prefix_len is_ascii_digit cs ≡ length (c ∷ cs) = omega (arith, more) in
    ap (λ k. cond k (1 + prefix_len is_ascii_digit cs) 0) (digit_true c h.0) ∙ one_more

run_of_digits : (ds : List ℕ) → IsNumeral 10 ds → is_run is_ascii_digit ds ≡ true
run_of_digits ds h = both _ _ (lt-ltb 0 (length ds) h.0) (eq-eqb _ _ (all_digits ds h.1))

digit_same : (c : ℕ) → value_of_digit c < 10 → digit_value c ≡ value_of_digit c
digit_same c h =
    let r = digit_value_digit c (digit_from_value c h) in
    let is : c - 48 ≡ value_of_digit c = omega (arith, r) in
    ap (λ k. cond k (c - 48) (cond (nat_le 97 c) (c - 87) (c - 55))) (digit_true c h) ∙ is

value_same : (n : ℕ) (ds : List ℕ) → AllDigits 10 ds → value_behind 10 n ds ≡ digits_value_after 10 n ds
value_same n [] h = refl
value_same n (c ∷ cs) h =
    ap (λ d. value_behind 10 (n * 10 + d) cs) (digit_same c h.0) ∙ value_same (n * 10 + value_of_digit c) cs h.1

digit_is_not : (c k : ℕ) → is_ascii_digit c ≡ true → is_ascii_digit k ≡ false → (c == k) ≡ false
digit_is_not c k h no_digit = is_false _ (λ alike. not_false (sym (ap is_ascii_digit (eqb-true c k alike)) ∙ h) no_digit)

and_no : (a b : Bool) → a ≡ false → (a && b) ≡ false
and_no a b h = rw h refl

and_none : (a : Bool) → (a && false) ≡ false
and_none true = refl
and_none false = refl

neither_one : (a b : Bool) → a ≡ false → b ≡ false → (a || b) ≡ false
neither_one a b p q = rw (p, q) refl

no_letter : (c : ℕ) → value_of_digit c < 10 → is_word_start c ≡ false
no_letter c h =
    let r = digit_from_value c h in
    neither_one _ _
    (neither_one _ _
    (and_no _ _ (is_false (nat_le 65 c) (λ up. let up = leb-true 65 c up in omega arith)))
    (and_no _ _ (is_false (nat_le 97 c) (λ up. let up = leb-true 97 c up in omega arith))))
    (digit_is_not c 95 (digit_true c h) refl)

-- a text that is read as an integer with this number
pub record IsIntText (z : ℤ) (text : List ℕ) : Type 0 where
  pub whole : whole_of text ≡ sound kind.Int
  pub number : int_number text ≡ z

int_whole : (text : List ℕ) → is_word text ≡ false → is_int text ≡ true → is_big_int text ≡ false → whole_of text ≡ sound kind.Int
int_whole text w i b = λ j.
    cond (w j) (sound (kind_of_word text)) (cond (i j) (number_whole kind.Int (b j)) (cond (is_double text) (number_whole kind.Double (is_big_double text))
    (cond (is_literal text) (literal_whole (bad_escape_in text)) (cond (is_sign text) (sound (kind_of_sign text)) other))))

not_hexadecimal : (d : ℕ) (ds : List ℕ) → AllDigits 10 ds → is_hexadecimal (d ∷ ds) ≡ false
not_hexadecimal d [] h = ap (λ k. k && is_run is_ascii_hexdigit (drop 2 (d ∷ []))) (and_none (d == 48))
not_hexadecimal d (e ∷ ds) h =
    ap (λ k. d == 48 && k && is_run is_ascii_hexdigit ds) (digit_is_not e 120 (digit_true e h.0) refl)
    ∙ ap (λ k. k && is_run is_ascii_hexdigit ds) (and_none (d == 48))

not_true : (d : ℕ) (ds : List ℕ) → (d == 116) ≡ false → (d == 102) ≡ false → int_number (d ∷ ds) ≡ int_of (d ∷ ds)
unfolding int_number
not_true d ds t f = rw (t, f) refl

positive : (d : ℕ) (ds : List ℕ) (n : ℕ) → IsNumeral 10 (d ∷ ds) → digits_value 10 (d ∷ ds) ≡ n → FitsSigned w64 (pos n) → IsIntText (pos n) (d ∷ ds)
positive d ds n digits value fits =
    let dt = digit_true d digits.1.0 in
    let plain : is_plus_or_minus d ≡ false = neither_one _ _ (digit_is_not d 43 dt refl) (digit_is_not d 45 dt refl) in
    let decimal : is_decimal (d ∷ ds) ≡ true = ap (λ k. is_run is_ascii_digit (drop (cond k 1 0) (d ∷ ds))) plain ∙ run_of_digits (d ∷ ds) digits in
    let hex = not_hexadecimal d ds digits.1.1 in
    let size : magnitude (d ∷ ds) ≡ n =
    ap (λ k. cond k (value_behind 16 0 (drop 2 (d ∷ ds))) (value_behind 10 0 (behind_sign (d ∷ ds)))) hex
    ∙ ap (λ k. value_behind 10 0 (drop (cond k 1 0) (d ∷ ds))) plain ∙ value_same 0 (d ∷ ds) digits.1 ∙ value in
    let int : int_of (d ∷ ds) ≡ pos n =
    ap (λ k. cond k (neg_ℤ (pos (magnitude (d ∷ ds)))) (pos (magnitude (d ∷ ds)))) (digit_is_not d 45 dt refl) ∙ ap pos size in
    let big = (small_ints (d ∷ ds)).1 (subst (FitsSigned w64) (sym int) fits) in
    record {
      whole = int_whole (d ∷ ds) (and_no _ _ (no_letter d digits.1.0)) (or_left _ _ decimal) big;
      number = not_true d ds (digit_is_not d 116 dt refl) (digit_is_not d 102 dt refl) ∙ int;
    }

negative : (ds : List ℕ) (n : ℕ) → IsNumeral 10 ds → digits_value 10 ds ≡ suc n → FitsSigned w64 (negsuc n) → IsIntText (negsuc n) (45 ∷ ds)
negative ds n digits value fits =
    let size : magnitude (45 ∷ ds) ≡ suc n = value_same 0 ds digits.1 ∙ value in
    let int : int_of (45 ∷ ds) ≡ negsuc n = ap (λ k. neg_ℤ (pos k)) size in
    let big = (small_ints (45 ∷ ds)).1 (subst (FitsSigned w64) (sym int) fits) in
    record {
      whole = int_whole (45 ∷ ds) refl (or_left _ _ (run_of_digits ds digits)) big;
      number = not_true 45 ds refl refl ∙ int;
    }

positive_text : (ds : List ℕ) (n : ℕ) → IsNumeral 10 ds × (digits_value 10 ds ≡ n) → FitsSigned w64 (pos n) → IsIntText (pos n) ds
positive_text [] n h fits = absurd (omega (arith, h.0.0))
positive_text (d ∷ ds) n h fits = positive d ds n h.0 h.1 fits

-- the decimal of a number of 64 bits is read as the number
pub decimal_is_read : (z : ℤ) → FitsSigned w64 z → IsIntText z (decimal_of z)
decimal_is_read (pos n) fits = positive_text (natural_of n) n (decimal_is_IsNumeral_wide n (omega (arith, fits.sfits))) fits
decimal_is_read (negsuc n) fits =
    let digits = decimal_is_IsNumeral_wide (suc n) (omega (arith, fits.sfits)) in
    negative (natural_of (suc n)) n digits.0 digits.1 fits

-- the number of an integer's token has 64 bits
pub number_fits : (bytes : List ℕ) (k : TokenKind) → whole_of bytes ≡ sound k → same (terminal_of k bytes) word.Int ≡ true → FitsSigned w64 (int_number bytes)
number_fits bytes k whole what = int_fits small_token bytes (subst (λ j. whole_of bytes ≡ sound j) (int_alone k bytes what) whole)
