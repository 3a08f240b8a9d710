-- Numbers of one digit.
use Rattle.std.proofs.Common.{◌≡◌, ℕ, ◌+◌, ◌-ℤ◌, ◌<◌, ◌^◌, ℤ, pos, neg_ℤ, FitsSigned, to_z, of_z, [], ◌∷◌, ap, ◌∙◌, arith}
use Rattle.std.proofs.lemmas.Fmt.{decimal_digit}
use Rattle.std.proofs.lemmas.Int.{ints, to_z-of_z}
use Rattle.std.specs.Int.{w128}
use Rattle.text_out.specs.Decimal.{decimal_of}

-- the decimal of a digit
pub digit_is : (z : ℤ) (n : ℕ) → z ≡ pos n → n < 10 → decimal_of z ≡ (48 + n) ∷ []
digit_is z n is small = ap decimal_of is ∙ decimal_digit n small

-- a number of 64 bits, or its negative, is itself as one of 128
pub wide_is : (z : ℤ) (n : ℕ) → z ≡ pos n → n < 2 ^ 64 → to_z w128 (of_z w128 z) ≡ pos n
wide_is z n is small =
    let fits : FitsSigned w128 (pos n) = omega (arith, small) in
    ap (λ y. to_z w128 (of_z w128 y)) is ∙ to_z-of_z w128 (pos n) fits

pub wide_negative : (z : ℤ) (n : ℕ) → z ≡ pos n → n < 2 ^ 64 → to_z w128 (of_z w128 (pos 0 -ℤ to_z w128 (of_z w128 z))) ≡ neg_ℤ (pos n)
wide_negative z n is small =
    let fits : FitsSigned w128 (neg_ℤ (pos n)) = omega (arith, ints, small) in
    let turned : pos 0 -ℤ pos n ≡ neg_ℤ (pos n) = omega (arith, ints) in
    ap (λ y. to_z w128 (of_z w128 (pos 0 -ℤ y))) (wide_is z n is small) ∙ ap (λ y. to_z w128 (of_z w128 y)) turned ∙ to_z-of_z w128 (neg_ℤ (pos n)) fits
