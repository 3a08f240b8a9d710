-- Bytes and numbers of each width.
use Rattle.std.specs.Prelude.{slice_index}
use Rattle.std.specs.Int.{Width, w64, byte_len, from_be_bytes, to_be_bytes, from_le_bytes, cast_signed, cast_unsigned}
use Rattle.std.proofs.Common.{◌≡◌, ℕ, ◌<◌, ◌*◌, ◌^◌, List, [], ◌∷◌, length, refl, sym, ap, ◌∙◌, arith}
use Rattle.std.proofs.lemmas.Int.{to_z-of_z}
use Rattle.std.proofs.lemmas.Nat.{le_bytes_8, from_le_bytes-to_le_bytes_8}
use Rattle.wire_num.specs.Decoding.{decode_byte, decode_unsigned, decode_signed}
use Rattle.wire_num.specs.Encoded.{AreByteSized, Decodes}
use Rattle.wire_num.specs.Fixed.{unsigned_of, signed_of, IsByte, IsUnsigned, IsSigned}
use Rattle.wire_num.specs.LowFirst.{low_first_of, decode_low_first, IsLowFirst}
use Rattle.wire_num.proofs.Fronts.{fixed_decodes}
use Rattle.wire_num.proofs.Widths.{byte_at, IsWide}

one_byte : (front : List ℕ) → length front ≡ 1 → AreByteSized front → IsByte (slice_index front 0) front
one_byte [] len fits = absurd (let f : ⊥ = omega arith in f)
one_byte (b ∷ []) len fits = (byte_at (b ∷ []) fits 0, refl)
one_byte (b ∷ c ∷ more) len fits = absurd (let f : ⊥ = omega arith in f)

pub byte_decodes : Decodes decode_byte IsByte
byte_decodes =
    fixed_decodes 1 (λ front. slice_index front 0) IsByte one_byte
    (λ x encoding is. (ap length is.1, ap (λ (t : List ℕ). slice_index t 0) is.1))

pub unsigned_decodes : (w : Width) → IsWide w → Decodes (decode_unsigned w) (IsUnsigned w)
unsigned_decodes w wide =
    fixed_decodes (byte_len w) (unsigned_of w) (IsUnsigned w)
    (λ front len fits. (wide.below front fits, sym (wide.back front len fits)))
    (λ x encoding is. (ap length is.1 ∙ wide.len x, ap (from_be_bytes w) is.1 ∙ wide.again x is.0))

pub signed_decodes : (w : Width) → IsWide w → Decodes (decode_signed w) (IsSigned w)
signed_decodes w wide =
    fixed_decodes (byte_len w) (signed_of w) (IsSigned w)
    (λ front len fits.
    let small : from_be_bytes w front < 2 ^ (8 * byte_len w) = wide.below front fits in
    (wide.fits (from_be_bytes w front) small, sym (ap (to_be_bytes w) (wide.signs (from_be_bytes w front) small) ∙ wide.back front len fits)))
    (λ x encoding is.
    let n : ℕ = cast_unsigned w x in
    (ap length is.1 ∙ wide.len n, ap (signed_of w) is.1 ∙ ap (cast_signed w) (wide.again n (wide.unsigned x is.0)) ∙ to_z-of_z w x is.0))

pub low_first_decodes_64 : Decodes (decode_low_first w64) (IsLowFirst w64)
low_first_decodes_64 =
    fixed_decodes 8 (low_first_of w64) (IsLowFirst w64)
    (λ front len fits. (
      omega (arith, byte_at front fits 0, byte_at front fits 1, byte_at front fits 2, byte_at front fits 3, byte_at front fits 4, byte_at front fits 5, byte_at front fits 6, byte_at front fits 7),
      sym (le_bytes_8 front _ len (byte_at front fits) refl),
    ))
    (λ x encoding is. (ap length is.1, ap (from_le_bytes w64) is.1 ∙ from_le_bytes-to_le_bytes_8 x is.0))
