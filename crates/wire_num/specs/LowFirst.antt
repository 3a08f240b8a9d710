-- Numbers of a fixed width and their bytes, the lowest byte first (Thrift compact protocol, 'Double encoding').
use Rattle.std.specs.Prelude.{◌≡◌, ◌<◌, ◌*◌, ◌^◌, ℕ, List}
use Rattle.std.specs.Int.{Width, byte_len, to_le_bytes, from_le_bytes}
use Rattle.wire_num.specs.Decoding.{FrontDecoder, decoded_as, decode_bytes}

-- the number that these bytes spell, the lowest byte first
abbrev pub low_first_of : Width → List ℕ → ℕ
low_first_of width bytes = from_le_bytes width bytes

-- the bytes of a number, the lowest byte first
abbrev pub low_first_bytes : Width → ℕ → List ℕ
low_first_bytes width number = to_le_bytes width number

-- these bytes are the encoding of a number that fits its width
abbrev pub IsLowFirst : Width → ℕ → List ℕ → Type 0
IsLowFirst width number bytes = (number < 2 ^ (8 * byte_len width)) × (bytes ≡ low_first_bytes width number)

-- a number of a width, the lowest byte first
abbrev pub decode_low_first : Width → FrontDecoder ℕ
decode_low_first width bytes = decoded_as (low_first_of width) (decode_bytes (byte_len width) bytes)
