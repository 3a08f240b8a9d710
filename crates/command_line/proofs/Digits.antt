-- Numbers of at most nineteen digits.
use Rattle.std.proofs.Common.{◌≡◌, ◌∙◌, ℕ, zero, suc, ◌+◌, ◌-◌, ◌*◌, ◌^◌, ◌<◌, ◌≤◌, Bool, true, false, ◌&&◌, nat_le, List, ◌∷◌, length, drop, refl, sym, ap, arith, lit≤, drop-cons, true≢false}
use Rattle.std.specs.List.{list_all, slice_index_or}
use Rattle.std.proofs.lemmas.Bool.{leb-true}
use Rattle.command_line.specs.Numbers.{is_decimal_digit}

-- a power of ten below the nineteenth
pub power_within : (i : ℕ) → i ≤ 18 → 10 ^ i ≤ 1000000000000000000
power_within zero h = lit≤ tt
power_within (suc zero) h = lit≤ tt
power_within (suc (suc zero)) h = lit≤ tt
power_within (suc (suc (suc zero))) h = lit≤ tt
power_within (suc (suc (suc (suc zero)))) h = lit≤ tt
power_within (suc (suc (suc (suc (suc zero))))) h = lit≤ tt
power_within (suc (suc (suc (suc (suc (suc zero)))))) h = lit≤ tt
power_within (suc (suc (suc (suc (suc (suc (suc zero))))))) h = lit≤ tt
power_within (suc (suc (suc (suc (suc (suc (suc (suc zero)))))))) h = lit≤ tt
power_within (suc (suc (suc (suc (suc (suc (suc (suc (suc zero))))))))) h = lit≤ tt
power_within (suc (suc (suc (suc (suc (suc (suc (suc (suc (suc zero)))))))))) h = lit≤ tt
power_within (suc (suc (suc (suc (suc (suc (suc (suc (suc (suc (suc zero))))))))))) h = lit≤ tt
power_within (suc (suc (suc (suc (suc (suc (suc (suc (suc (suc (suc (suc zero)))))))))))) h = lit≤ tt
power_within (suc (suc (suc (suc (suc (suc (suc (suc (suc (suc (suc (suc (suc zero))))))))))))) h = lit≤ tt
power_within (suc (suc (suc (suc (suc (suc (suc (suc (suc (suc (suc (suc (suc (suc zero)))))))))))))) h = lit≤ tt
power_within (suc (suc (suc (suc (suc (suc (suc (suc (suc (suc (suc (suc (suc (suc (suc zero))))))))))))))) h = lit≤ tt
power_within (suc (suc (suc (suc (suc (suc (suc (suc (suc (suc (suc (suc (suc (suc (suc (suc zero)))))))))))))))) h = lit≤ tt
power_within (suc (suc (suc (suc (suc (suc (suc (suc (suc (suc (suc (suc (suc (suc (suc (suc (suc zero))))))))))))))))) h = lit≤ tt
power_within (suc (suc (suc (suc (suc (suc (suc (suc (suc (suc (suc (suc (suc (suc (suc (suc (suc (suc zero)))))))))))))))))) h = lit≤ tt
power_within (suc (suc (suc (suc (suc (suc (suc (suc (suc (suc (suc (suc (suc (suc (suc (suc (suc (suc (suc i))))))))))))))))))) h = absurd (omega (arith, h))

-- one digit more still fits
pub one_more_fits : (n i count : ℕ) → n < 10 ^ i → i < count → count ≤ 19 → 10 * n + 9 ≤ 18446744073709551615
one_more_fits n i count small within short =
    let bound = power_within i (omega (arith, within, short)) in
    omega (arith, small, bound)

pub digit_within : (digits : List ℕ) (i d : ℕ) → i < length digits → list_all is_decimal_digit (drop i digits) ≡ true → slice_index_or digits i d - 48 ≤ 9
digit_within digits i d within all =
    let here : list_all is_decimal_digit (slice_index_or digits i d ∷ drop (suc i) digits) ≡ true = ap (list_all is_decimal_digit) (sym (drop-cons digits i d within)) ∙ all in
    let digit = both (is_decimal_digit (slice_index_or digits i d)) _ here in
    let most : slice_index_or digits i d ≤ 57 = leb-true (slice_index_or digits i d) 57 (both (nat_le 48 (slice_index_or digits i d)) _ digit.0).1 in
    omega (arith, most)
  where
    both : (a b : Bool) → (a && b) ≡ true → (a ≡ true) × (b ≡ true)
    both true b e = (refl, e)
    both false b e = absurd (true≢false (sym e))
