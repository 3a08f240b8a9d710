-- Numbers of the compact protocol in front of bytes (Thrift compact protocol, 'Integer encoding', 'Double encoding').
use Rattle.std.specs.Prelude.{◌≡◌, ◌-◌, ◌%◌, ◌^◌, ℕ, ℤ, pos, negsuc, List}
use Rattle.std.specs.Int.{Width, w16, w32, cast_signed}
use Rattle.wire_num.specs.Decoding.{FrontDecoder, decoded_as}
use Rattle.wire_num.specs.Varint.{decode_varint, IsVarint}
use Rattle.wire_num.specs.Zigzag.{zigzag, unzigzag}

-- a signed number of a width, as the varint of its zigzag
abbrev pub decode_zigzag : Width → FrontDecoder ℤ
decode_zigzag width bytes = decoded_as unzigzag (decode_varint width bytes)

-- these bytes are an encoding of such a number
abbrev pub IsZigzag : Width → ℤ → List ℕ → Type 0
IsZigzag width number bytes = IsVarint width (zigzag number) bytes

-- the lowest 16 bits of a number, as two's complement
abbrev pub low_16 : ℤ → ℤ
low_16 (pos n) = cast_signed w16 (n % 2 ^ 16)
low_16 (negsuc n) = cast_signed w16 (2 ^ 16 - 1 - n % 2 ^ 16)

-- a number of 16 bits, encoded as one of 32. Own choice: the bits above the 16th don't count
abbrev pub decode_short : FrontDecoder ℤ
decode_short bytes = decoded_as low_16 (decode_zigzag w32 bytes)

-- these bytes are an encoding of such a number
abbrev pub IsShort : ℤ → List ℕ → Type 0
IsShort number bytes = (wide : ℤ) × IsZigzag w32 wide bytes × (number ≡ low_16 wide)
