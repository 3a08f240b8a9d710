-- Decimals of up to 128 bits are read back.
use Rattle.std.proofs.Common.{◌≡◌, ℕ, zero, suc, ◌+◌, ◌<◌, ◌^◌, ℤ, pos, negsuc, List, ◌∷◌, ◌++◌, ◌%◌, [], get_or, Option, Some, None, length, drop, Result, Ok, to_z, of_z, refl, sym, ap, subst, ◌∙◌, arith}
use Rattle.std.specs.Prelude.{FitsSigned}
use Rattle.std.specs.Int.{w128}
use Rattle.std.specs.Str.{IsAscii, IsUtf8}
use Rattle.std.specs.Str.Parse.{AllDigits, digits_value, ParsesSigned}
use Rattle.std.proofs.lemmas.Fmt.{decimal_is_IsNumeral_wide, IsAscii-decimal_wide, decimal_by_steps_wide, decimal_digit}
use Rattle.std.proofs.lemmas.Str.Parse.{numerals_by_value, tells_digits, parse_signed_minus, parse_signed_digits}
use Rattle.std.proofs.lemmas.Result.{Ok-from_Ok_iff}
use Rattle.std.proofs.lemmas.Str.{IsUtf8-from_ascii}
use Rattle.std.specs.Fmt.{signed_decimal}
use Rattle.std.proofs.lemmas.Int.{to_z-of_z}
use Rattle.text_out.specs.Decimal.{natural_of, decimal_of, IsPlainNumeral, ReadsDecimal}
use lib.IntN.{neg_ℤ}

-- the decimal of a digit
pub digit_is : (n : ℕ) → n < 10 → natural_of n ≡ (48 + n) ∷ []
digit_is n small = decimal_digit n small

-- what `parse` answers at the decimal of a number
pub parse-decimal_of : {E : Type 0} (z : ℤ) (bs : List ℕ) (r : Result ℤ E) → FitsSigned w128 z → bs ≡ decimal_of z → ParsesSigned w128 10 bs r → r ≡ Ok z
parse-decimal_of (pos n) bs r fits is h =
    let k = decimal_is_IsNumeral_wide n (omega (arith, fits.sfits)) in
    let read = parse_signed_digits (numerals_by_value _ tells_digits) w128 (natural_of n) r (subst (λ l. ParsesSigned w128 10 l r) is h) k.0.1 in
    Ok-from_Ok_iff r _ _ read (k.0.0, omega (arith, k.1, fits.sfits)) ∙ ap (λ m. Ok (pos m)) k.1
parse-decimal_of (negsuc n) bs r fits is h =
    let k = decimal_is_IsNumeral_wide (suc n) (omega (arith, fits.sfits)) in
    let read = parse_signed_minus (numerals_by_value _ tells_digits) w128 (45 ∷ natural_of (suc n)) r (subst (λ l. ParsesSigned w128 10 l r) is h) refl in
    Ok-from_Ok_iff r _ _ read (k.0.1, k.0.0, omega (arith, k.1, fits.sfits)) ∙ ap (λ m. Ok (neg_ℤ (pos m))) k.1

-- two natural numbers with the same digits are one
natural_of_injective : (m n : ℕ) → m < 2 ^ 128 → n < 2 ^ 128 → natural_of m ≡ natural_of n → m ≡ n
natural_of_injective m n m_fits n_fits same =
    sym (decimal_is_IsNumeral_wide m (omega arith)).1 ∙ ap (digits_value 10) same ∙ (decimal_is_IsNumeral_wide n (omega arith)).1

-- no decimal of a number from 0 begins with `-`
digits_no_minus : (n : ℕ) (ds : List ℕ) → n < 2 ^ 128 → natural_of n ≡ 45 ∷ ds → ⊥
digits_no_minus n ds fits is = let k = subst (AllDigits 10) is (decimal_is_IsNumeral_wide n (omega arith)).0.1 in omega (arith, k.0)

pub decimal_of_injective : (x y : ℤ) → FitsSigned w128 x → FitsSigned w128 y → decimal_of x ≡ decimal_of y → x ≡ y
decimal_of_injective (pos m) (pos n) x_fits y_fits same = ap pos (natural_of_injective m n (omega (arith, x_fits.sfits)) (omega (arith, y_fits.sfits)) same)
decimal_of_injective (pos m) (negsuc n) x_fits y_fits same = absurd (digits_no_minus m _ (omega (arith, x_fits.sfits)) same)
decimal_of_injective (negsuc m) (pos n) x_fits y_fits same = absurd (digits_no_minus n _ (omega (arith, y_fits.sfits)) (sym same))
decimal_of_injective (negsuc m) (negsuc n) x_fits y_fits same =
    let sucs = natural_of_injective (suc m) (suc n) (omega (arith, x_fits.sfits)) (omega (arith, y_fits.sfits)) (ap (drop 1) same) in
    ap negsuc (omega (arith, sucs))

IsAscii-minus : (n : ℕ) → n < 2 ^ 127 → IsAscii (decimal_of (negsuc n))
IsAscii-minus n fits zero = omega arith
IsAscii-minus n fits (suc i) = IsAscii-decimal_wide (suc n) (omega arith) i

-- decimals are text
pub IsUtf8-decimal_of : (z : ℤ) → FitsSigned w128 z → IsUtf8 (decimal_of z)
IsUtf8-decimal_of (pos n) fits = IsUtf8-from_ascii _ (IsAscii-decimal_wide n (omega (arith, fits.sfits)))
IsUtf8-decimal_of (negsuc n) fits = IsUtf8-from_ascii _ (IsAscii-minus n (omega (arith, fits.sfits)))

-- the two words for decimals are one
same_word : (z : ℤ) → signed_decimal z ≡ decimal_of z
same_word (pos n) = refl
same_word (negsuc n) = refl

-- what `format` prints of a number
pub printed_same : (n z : ℤ) → n ≡ z → FitsSigned w128 z → signed_decimal (to_z w128 (of_z w128 n)) ≡ decimal_of z
printed_same n z is fits = ap (λ x. signed_decimal (to_z w128 (of_z w128 x))) is ∙ ap signed_decimal (to_z-of_z w128 z fits) ∙ same_word z

later : (ds : List ℕ) (d : ℕ) → 48 < get_or ds 0 0 → 48 < get_or (ds ++ d ∷ []) 0 0
later [] d above = absurd (omega arith)
later (x ∷ ds) d above = above

-- the first digit of a number above 0 is above `0`
first_digit : (n : ℕ) → n < 2 ^ 128 → 0 < n → 48 < get_or (natural_of n) 0 0
first_digit n fits =
    decimal_by_steps_wide (λ n ds. 0 < n → 48 < get_or ds 0 0)
    (λ n small above. omega arith)
    (λ n ds large first above. later ds (48 + n % 10) (first (omega arith)))
    n (omega arith)

pub plain_natural : (n : ℕ) → n < 2 ^ 128 → IsPlainNumeral n (natural_of n) × (decimal_of (pos n) ≡ natural_of n)
plain_natural zero fits =
    let k = decimal_is_IsNumeral_wide 0 (omega arith) in
    (record { digits = k.0; value = k.1; no_zero_in_front = λ _. ap length (decimal_digit 0 (omega arith)) }, refl)
plain_natural (suc m) fits =
    let k = decimal_is_IsNumeral_wide (suc m) (omega arith) in
    let above = first_digit (suc m) fits (omega arith) in
    (record { digits = k.0; value = k.1; no_zero_in_front = λ is. absurd (omega (arith, above, is)) }, refl)

-- a decimal is read as its number
pub only_reading : (z : ℤ) (read : Option ℤ) → FitsSigned w128 z → ReadsDecimal (decimal_of z) read → read ≡ Some z
only_reading z None fits reads = absurd (reads z fits refl)
only_reading z (Some y) fits reads = ap Some (decimal_of_injective y z reads.0 fits (sym reads.1))
