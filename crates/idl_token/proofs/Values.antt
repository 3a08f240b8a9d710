-- Numbers grow with their digits.
use Rattle.std.proofs.Common.{◌≡◌, ◌↔◌, ℕ, zero, suc, pos, ◌+◌, ◌-◌, ◌*◌, ◌^◌, ◌<◌, ◌≤◌, ◌==◌, nat_lt, Bool, true, false, cond, List, [], ◌∷◌, length, get_or, drop, sym, ap, arith, drop-cons}
use Rattle.std.proofs.Math.Nat.{mul-le-mul_left}
use Rattle.std.proofs.lemmas.Bool.{lt-ltb, le-ltb, ltb-false}
use Rattle.std.specs.Prelude.{FitsSigned, slice_index}
use Rattle.std.specs.Int.{w64}
use lib.IntN.{neg_ℤ}
use Rattle.idl_token.specs.Numbers.{value_behind, digit_value, magnitude, is_big_int, int_of}

pub value_behind_grows : (radix n : ℕ) (digits : List ℕ) → 0 < radix → n ≤ value_behind radix n digits
value_behind_grows radix n [] some = omega arith
value_behind_grows radix n (b ∷ digits) some =
    let more = value_behind_grows radix (n * radix + digit_value b) digits some in
    omega (arith, more, mul-le-mul_left n some)

-- a digit that leads above a bound leaves the whole number above it
pub above : (radix value most i : ℕ) (digits : List ℕ) → 0 < radix → i < length digits → most < value * radix + digit_value (get_or digits i 0) → value_behind radix value (drop i digits) ≡ value_behind radix 0 digits → true ≡ nat_lt most (value_behind radix 0 digits)
above radix value most i digits some inside passes number =
    let next = value * radix + digit_value (get_or digits i 0) in
    let read : value_behind radix value (drop i digits) ≡ value_behind radix next (drop (suc i) digits) = ap (value_behind radix value) (drop-cons digits i 0 inside) in
    let grows = value_behind_grows radix next (drop (suc i) digits) some in
    sym (lt-ltb most (value_behind radix 0 digits) (omega (arith, grows, read, number)))

-- one digit more of a number that fits
pub next_fits : (radix value i : ℕ) (digits : List ℕ) → 0 < radix → i < length digits
    → value_behind radix value (drop i digits) ≡ value_behind radix 0 digits → value_behind radix 0 digits < 2 ^ 64
    → value * radix + digit_value (get_or digits i 0) < 2 ^ 64
next_fits radix value i digits some inside number fits =
    let next = value * radix + digit_value (get_or digits i 0) in
    let read : value_behind radix value (drop i digits) ≡ value_behind radix next (drop (suc i) digits) = ap (value_behind radix value) (drop-cons digits i 0 inside) in
    let grows = value_behind_grows radix next (drop (suc i) digits) some in
    omega (arith, grows, read, number, fits)

-- a number fits 64 bits where its magnitude does, for its sign
fits_64 : (minus : Bool) (n : ℕ) → (nat_lt (cond minus (2 ^ 63) (2 ^ 63 - 1)) n ≡ false) ↔ FitsSigned w64 (cond minus (neg_ℤ (pos n)) (pos n))
fits_64 true zero = (λ is. record { sfits = omega arith }, λ fits. le-ltb (2 ^ 63) 0 (omega arith))
fits_64 true (suc n) = (λ is. let small = ltb-false (2 ^ 63) (suc n) is in record { sfits = omega (arith, small) }, λ fits. le-ltb (2 ^ 63) (suc n) (omega (arith, fits.sfits)))
fits_64 false n = (λ is. let small = ltb-false (2 ^ 63 - 1) n is in record { sfits = omega (arith, small) }, λ fits. le-ltb (2 ^ 63 - 1) n (omega (arith, fits.sfits)))

-- the integers that aren't too big are those of 64 bits
pub small_ints : (text : List ℕ) → (is_big_int text ≡ false) ↔ FitsSigned w64 (int_of text)
unfolding is_big_int
small_ints text = fits_64 (slice_index text 0 == 45) (magnitude text)
