-- Decimal numbers.
use Rattle.std.specs.Prelude.{◌≡◌, ◌≢◌, ℕ, suc, ℤ, pos, negsuc, List, ◌∷◌, Option, Some, None, FitsSigned, slice_index, length}
use Rattle.std.specs.Fmt.{decimal}
use Rattle.std.specs.Int.{w128}
use Rattle.std.specs.Str.Parse.{IsNumeral, digits_value}
use Rattle.text_out.specs.Bytes.{minus_sign, zero_digit}

-- the decimal digits of a number with no zero in front, `0` for 0 (std's word, for numbers below 10 ^ 64)
abbrev pub natural_of : ℕ → List ℕ
natural_of n = decimal n

-- the same with `-` before a number below 0
abbrev pub decimal_of : ℤ → List ℕ
decimal_of (pos n) = natural_of n
decimal_of (negsuc n) = minus_sign ∷ natural_of (suc n)

-- what reading a text as a decimal of 128 bits gives: the number that it is the decimal of, or nothing where it is none's
abbrev pub ReadsDecimal : List ℕ → Option ℤ → Type 0
ReadsDecimal text (Some z) = FitsSigned w128 z × (text ≡ decimal_of z)
ReadsDecimal text None = (z : ℤ) → FitsSigned w128 z → text ≢ decimal_of z

-- digits that have the value n, with no zero in front of another digit
pub record IsPlainNumeral (n : ℕ) (text : List ℕ) : Type 0 where
  pub digits : IsNumeral 10 text
  pub value : digits_value 10 text ≡ n
  pub no_zero_in_front : slice_index text 0 ≡ zero_digit → length text ≡ 1
