-- The numbers of uuids that literals write: 32 hexadecimal digits of either case, with `-` at the places 8, 13, 18 and 23, counted
-- from 0.
use Rattle.std.specs.Prelude.{ℕ, suc, ◌+◌, ◌*◌, ◌%◌, ◌^◌, ◌==◌, ◌||◌, Bool, List, [], ◌∷◌, length, Option, Some, None, if◌then◌else◌}
use Rattle.std.specs.Char.{is_ascii_hexdigit}
use Rattle.std.specs.Option.{option_and_then}
use Rattle.idl_token.specs.Bytes as byte
use Rattle.idl_token.specs.Numbers.{digit_value}

-- a `-` has to stand at this place
abbrev pub is_dash_place : ℕ → Bool
is_dash_place place = place == 8 || place == 13 || place == 18 || place == 23

-- a number with a digit behind it, as far as 128 bits go, which 32 digits fill
abbrev pub with_digit : ℕ → ℕ → ℕ
with_digit n b = (n * 16 % 2 ^ 128 + digit_value b) % 2 ^ 128

-- a number with the byte at a place behind it: a `-` adds nothing
abbrev pub uuid_step : ℕ → ℕ → ℕ → Option ℕ
uuid_step place n b =
    if is_dash_place place then (if b == byte.minus then Some n else None)
    else if is_ascii_hexdigit b then Some (with_digit n b)
    else None

-- the number that the bytes from a place on make, behind those before
abbrev pub uuid_behind : ℕ → ℕ → List ℕ → Option ℕ
uuid_behind place n [] = Some n
uuid_behind place n (b ∷ bs) = option_and_then (λ m. uuid_behind (suc place) m bs) (uuid_step place n b)

-- the number of the uuid that a text of 36 bytes writes
abbrev pub uuid_number : List ℕ → Option ℕ
uuid_number text = if length text == 36 then uuid_behind 0 0 text else None
