-- Numbers: integers and doubles.
use Rattle.std.specs.Prelude.{ℕ, ℤ, pos, neg_ℤ, ◌+◌, ◌-◌, ◌*◌, ◌^◌, ◌==◌, ◌&&◌, ◌||◌, not, nat_lt, nat_le, Bool, List, [], ◌∷◌, length, drop, slice_index, count_by, if◌then◌else◌}
use Rattle.std.specs.Char.{is_ascii_digit, is_ascii_hexdigit}
use Rattle.std.specs.List.{prefix_len}
use Rattle.idl_token.specs.Bytes as byte
use Rattle.idl_token.specs.Classes.{is_plus_or_minus, is_exponent_mark, is_run}

-- how many bytes of sign stand in front
abbrev pub sign_in : List ℕ → ℕ
sign_in text = if is_plus_or_minus (slice_index text 0) then 1 else 0

-- what stands behind the sign
abbrev pub behind_sign : List ℕ → List ℕ
behind_sign text = drop (sign_in text) text

-- how many digits stand in front
abbrev pub digits_in : List ℕ → ℕ
digits_in text = prefix_len is_ascii_digit text

-- what stands behind the digits
abbrev pub behind_digits : List ℕ → List ℕ
behind_digits text = drop (digits_in text) text

-- a sign or none, and digits (Thrift IDL, 'IntConstant')
abbrev pub is_decimal : List ℕ → Bool
is_decimal text = is_run is_ascii_digit (behind_sign text)

-- `0x` and hexadecimal digits
abbrev pub is_hexadecimal : List ℕ → Bool
is_hexadecimal text = slice_index text 0 == byte.digit_0 && slice_index text 1 == byte.lower_x && is_run is_ascii_hexdigit (drop 2 text)

-- an integer (Thrift IDL, 'IntConstant')
abbrev pub is_int : List ℕ → Bool
is_int text = is_decimal text || is_hexadecimal text

-- `e` or `E`, a sign or none, and digits
abbrev pub is_exponent : List ℕ → Bool
is_exponent text = is_exponent_mark (slice_index text 0) && is_decimal (drop 1 text)

-- `.` and digits, and behind them an exponent or nothing
abbrev pub is_fraction : List ℕ → Bool
is_fraction text =
    slice_index text 0 == byte.dot && nat_lt 0 (digits_in (drop 1 text))
    && (length (behind_digits (drop 1 text)) == 0 || is_exponent (behind_digits (drop 1 text)))

-- a sign or none, then digits and an exponent, or a fraction, which may have digits before it (Thrift IDL, 'DoubleConstant')
abbrev pub is_unsigned_double : List ℕ → Bool
is_unsigned_double text = (nat_lt 0 (digits_in text) && is_exponent (behind_digits text)) || is_fraction (behind_digits text)

-- a double
abbrev pub is_double : List ℕ → Bool
is_double text = is_unsigned_double (behind_sign text)

-- the value of a hexadecimal digit of either case
abbrev pub digit_value : ℕ → ℕ
digit_value b = if is_ascii_digit b then b - byte.digit_0 else if nat_le byte.lower_a b then b - 87 else b - 55

-- the number that digits write behind those of n
abbrev pub value_behind : ℕ → ℕ → List ℕ → ℕ
value_behind radix n [] = n
value_behind radix n (b ∷ digits) = value_behind radix (n * radix + digit_value b) digits

-- the number of an integer without its sign
abbrev pub magnitude : List ℕ → ℕ
magnitude text = if is_hexadecimal text then value_behind 16 0 (drop 2 text) else value_behind 10 0 (behind_sign text)

-- an integer outside -2 ^ 63 to 2 ^ 63 - 1
unfoldable pub is_big_int : List ℕ → Bool
is_big_int text = nat_lt (if slice_index text 0 == byte.minus then 2 ^ 63 else 2 ^ 63 - 1) (magnitude text)

-- the number of an integer
abbrev pub int_of : List ℕ → ℤ
int_of text = if slice_index text 0 == byte.minus then neg_ℤ (pos (magnitude text)) else pos (magnitude text)

-- what stands behind the first `e` or `E`; nothing where there is none
abbrev pub behind_exponent_mark : List ℕ → List ℕ
behind_exponent_mark text = drop (prefix_len (λ b. not (is_exponent_mark b)) text + 1) text

-- a double of more than 40 digits, or with an exponent outside -99 to 99
unfoldable pub is_big_double : List ℕ → Bool
is_big_double text = nat_lt 40 (count_by is_ascii_digit text) || nat_lt 99 (value_behind 10 0 (behind_sign (behind_exponent_mark text)))
