-- Doubles that are whole numbers: which a constant stands for, exactly, and their 64 bits.
use Rattle.std.specs.Prelude.{ℕ, zero, suc, ℤ, pos, negsuc, neg_ℤ, ◌+◌, ◌-◌, ◌*◌, ◌/◌, ◌%◌, ◌^◌, ◌==◌, nat_le, Bool, List, [], ◌++◌, length, take, drop, slice_index, Option, Some, None, if◌then◌else◌}
use Rattle.idl_token.specs.Bytes as byte
use Rattle.idl_token.specs.Numbers.{behind_sign, digits_in, behind_digits, value_behind, behind_exponent_mark, int_of}

-- a number that is written in decimal: digits * 10 ^ up / 10 ^ down, without its sign
pub record Decimal : Type 0 where
  pub digits : ℕ
  pub up : ℕ
  pub down : ℕ

-- the digits in front of a text
abbrev pub front_digits : List ℕ → List ℕ
front_digits text = take (digits_in text) text

-- the digits behind the point, where the text begins with it
abbrev pub fraction_digits : List ℕ → List ℕ
fraction_digits text = if slice_index text 0 == byte.dot then front_digits (drop 1 text) else []

-- so many places to the left
abbrev pub places_up : ℤ → ℕ
places_up (pos n) = n
places_up (negsuc n) = 0

-- so many places to the right
abbrev pub places_down : ℤ → ℕ
places_down (pos n) = 0
places_down (negsuc n) = suc n

-- the parts of a double without its sign: digits, and behind them a fraction or nothing, an exponent or nothing
abbrev pub decimal_in : List ℕ → Decimal
decimal_in text =
    let fraction = fraction_digits (behind_digits text) in
    let exponent = int_of (behind_exponent_mark text) in
    record {
      digits = value_behind 10 0 (front_digits text ++ fraction);
      up = places_up exponent;
      down = places_down exponent + length fraction;
    }

-- the number that is written, where it is whole
abbrev pub whole_number : Decimal → Option ℕ
whole_number d =
    if (d.digits * 10 ^ d.up) % (10 ^ d.down) == 0 then Some ((d.digits * 10 ^ d.up) / (10 ^ d.down)) else None

-- a number with a sign, where it is within plus or minus 2 ^ 53
abbrev pub within_doubles : Bool → ℕ → Option ℤ
within_doubles negative n = if nat_le n (2 ^ 53) then Some (if negative then neg_ℤ (pos n) else pos n) else None

-- the same where there is a number
abbrev pub signed_within : Bool → Option ℕ → Option ℤ
signed_within negative None = None
signed_within negative (Some n) = within_doubles negative n

-- the whole number that a double's bytes write, where it is one within plus or minus 2 ^ 53
unfoldable pub double_number : List ℕ → Option ℤ
double_number text = signed_within (slice_index text 0 == byte.minus) (whole_number (decimal_in (behind_sign text)))

-- an integer, where it is within plus or minus 2 ^ 53
unfoldable pub int_as_double : ℤ → Option ℤ
int_as_double (pos n) = if nat_le n (2 ^ 53) then Some (pos n) else None
int_as_double (negsuc n) = if nat_le (suc n) (2 ^ 53) then Some (negsuc n) else None

-- the place of the highest bit of a number, at most this one
abbrev pub highest_bit : ℕ → ℕ → ℕ
highest_bit zero n = 0
highest_bit (suc k) n = if nat_le (2 ^ suc k) n then suc k else highest_bit k n

-- exponent and fraction of a number whose highest bit is k (IEEE 754, binary64)
abbrev pub bits_at : ℕ → ℕ → ℕ
bits_at k n = (1023 + k) * 2 ^ 52 + (n - 2 ^ k) * 2 ^ (52 - k)

-- the bits of a whole number from 0 to 2 ^ 53
abbrev pub magnitude_bits : ℕ → ℕ
magnitude_bits n = if n == 0 then 0 else bits_at (highest_bit 53 n) n

-- the bits of a whole number within plus or minus 2 ^ 53 (IEEE 754, binary64)
unfoldable pub double_bits : ℤ → ℕ
double_bits (pos n) = magnitude_bits n
double_bits (negsuc n) = 2 ^ 63 + magnitude_bits (suc n)
