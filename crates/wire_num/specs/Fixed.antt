-- Numbers of a fixed width and their bytes, the highest byte first (Thrift binary protocol, 'Integer encoding').
use Rattle.std.specs.Prelude.{◌≡◌, ◌<◌, ◌*◌, ◌^◌, ℕ, ℤ, List, [], ◌∷◌, FitsSigned}
use Rattle.std.specs.Int.{Width, byte_len, to_be_bytes, from_be_bytes, cast_signed, cast_unsigned}

-- the number that these bytes spell, the highest byte first
abbrev pub unsigned_of : Width → List ℕ → ℕ
unsigned_of width bytes = from_be_bytes width bytes

-- the same as two's complement
abbrev pub signed_of : Width → List ℕ → ℤ
signed_of width bytes = cast_signed width (from_be_bytes width bytes)

-- the bytes of a number, the highest byte first
abbrev pub unsigned_bytes : Width → ℕ → List ℕ
unsigned_bytes width number = to_be_bytes width number

-- the same as two's complement
abbrev pub signed_bytes : Width → ℤ → List ℕ
signed_bytes width number = to_be_bytes width (cast_unsigned width number)

-- these bytes are the encoding of a byte
abbrev pub IsByte : ℕ → List ℕ → Type 0
IsByte number bytes = (number < 256) × (bytes ≡ number ∷ [])

-- these bytes are the encoding of a number that fits its width
abbrev pub IsUnsigned : Width → ℕ → List ℕ → Type 0
IsUnsigned width number bytes = (number < 2 ^ (8 * byte_len width)) × (bytes ≡ unsigned_bytes width number)

-- the same as two's complement
abbrev pub IsSigned : Width → ℤ → List ℕ → Type 0
IsSigned width number bytes = FitsSigned width number × (bytes ≡ signed_bytes width number)
