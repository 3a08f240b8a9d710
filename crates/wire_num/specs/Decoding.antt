-- Decoding what stands in front of bytes.
use Rattle.std.specs.Prelude.{ℕ, ℤ, ◌-◌, List, length, take, drop, slice_index, nat_le, Result, Ok, Err, if◌then◌else◌}
use Rattle.std.specs.Int.{Width, byte_len}
use Rattle.wire_num.specs.declared.fault.NumFault.{NumFault}
use Rattle.wire_num.specs.declared.fault.NumFault.TheVariants.{Short}
use Rattle.wire_num.specs.Fixed.{unsigned_of, signed_of}

-- what stands in front of bytes and the bytes behind it, or why there is nothing to be decoded; it may take any number of
-- bytes
abbrev pub FrontDecoder : Type 0 → Type 0
FrontDecoder A = List ℕ → Result (A × List ℕ) NumFault

-- what was decoded as what it stands for, and the same bytes behind it
abbrev pub decoded_as : {A B : Type 0} → (A → B) → Result (A × List ℕ) NumFault → Result (B × List ℕ) NumFault
decoded_as meaning (Ok x) = Ok (meaning x.0, x.1)
decoded_as meaning (Err fault) = Err fault

-- so many bytes, or Short
abbrev pub decode_bytes : ℕ → FrontDecoder (List ℕ)
decode_bytes size bytes = if nat_le size (length bytes) then Ok (take size bytes, drop size bytes) else Err Short

-- a byte
abbrev pub decode_byte : FrontDecoder ℕ
decode_byte bytes = decoded_as (λ front. slice_index front 0) (decode_bytes 1 bytes)

-- a number of a width, the highest byte first (Thrift binary protocol, 'Integer encoding')
abbrev pub decode_unsigned : Width → FrontDecoder ℕ
decode_unsigned width bytes = decoded_as (unsigned_of width) (decode_bytes (byte_len width) bytes)

-- the same as two's complement
abbrev pub decode_signed : Width → FrontDecoder ℤ
decode_signed width bytes = decoded_as (signed_of width) (decode_bytes (byte_len width) bytes)

-- what was decoded, with the place behind it in bytes of this length
abbrev pub with_place : {A : Type 0} → ℕ → Result (A × List ℕ) NumFault → Result (A × ℕ) NumFault
with_place size (Ok x) = Ok (x.0, size - length x.1)
with_place size (Err fault) = Err fault

-- what stands at a place, and the place behind it
abbrev pub decode_at : {A : Type 0} → (List ℕ → Result (A × List ℕ) NumFault) → List ℕ → ℕ → Result (A × ℕ) NumFault
decode_at decoder bytes at = with_place (length bytes) (decoder (drop at bytes))
