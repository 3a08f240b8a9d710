-- Bytes as hexadecimal text.
use Rattle.std.specs.Prelude.{ℕ, ◌+◌, ◌*◌, ◌/◌, ◌%◌, List, [], ◌∷◌, codes, slice_index, Option, Some, None, option_and_then}
use Rattle.std.specs.Option.{option_map}
use Rattle.hex.specs.Hex.{hex_digit_value}

-- the digit of a number below 16
abbrev pub hex_digit_of : ℕ → ℕ
hex_digit_of n = slice_index (codes "0123456789abcdef") n

-- two digits for each byte, the high half first
abbrev pub hex_of : List ℕ → List ℕ
hex_of [] = []
hex_of (b ∷ bytes) = hex_digit_of (b / 16) ∷ hex_digit_of (b % 16) ∷ hex_of bytes

-- the byte of two digits of either case
abbrev pub pair_value : ℕ → ℕ → Option ℕ
pair_value high low = option_and_then (λ h. option_map (λ l. h * 16 + l) (hex_digit_value low)) (hex_digit_value high)

-- the bytes that pairs of digits spell; nothing where the text isn't such pairs
abbrev pub unhex_of : List ℕ → Option (List ℕ)
unhex_of [] = Some []
unhex_of (digit ∷ []) = None
unhex_of (high ∷ low ∷ text) = option_and_then (λ b. option_map (λ bytes. b ∷ bytes) (unhex_of text)) (pair_value high low)
