-- Numbers of a width and their bytes, both ways.
use Rattle.std.specs.Prelude.{ℤ, pos, negsuc, FitsSigned}
use Rattle.std.specs.Int.{Width, w8, w16, w32, w64, byte_len, from_be_bytes, to_be_bytes, cast_signed, cast_unsigned}
use Rattle.std.proofs.Common.{◌≡◌, ℕ, ◌*◌, ◌^◌, ◌<◌, List, [], ◌∷◌, length, get_or, inl, inr, refl, ap, arith}
use Rattle.std.proofs.Math.Facts.{sfits_to_z}
use Rattle.std.proofs.lemmas.Bool.{cases_lt}
use Rattle.std.proofs.lemmas.Int.{of_z-to_z}
use Rattle.std.proofs.lemmas.List.{get_or_past}
use Rattle.std.proofs.lemmas.List.Elements.{All-get_or}
use Rattle.std.proofs.lemmas.Nat.{be_bytes_2, be_bytes_4, be_bytes_8, from_be_bytes-to_be_bytes_2, from_be_bytes-to_be_bytes_4, from_be_bytes-to_be_bytes_8}
use Rattle.wire_num.specs.Encoded.{AreByteSized}

-- each place of bytes, also behind their end
pub byte_at : (bytes : List ℕ) → AreByteSized bytes → (i : ℕ) → get_or bytes i 0 < 256
byte_at bytes fits i =
    elim (cases_lt i (length bytes)) [
      | inl lt ↦ All-get_or (λ b. b < 256) bytes i 0 lt fits
      | inr le ↦ rw (get_or_past bytes i 0 le) (omega arith)
    ]

-- what holds of the bytes of a width
pub record IsWide (w : Width) : Type 0 where
  pub len : (n : ℕ) → length (to_be_bytes w n) ≡ byte_len w
  pub back : (bytes : List ℕ) → length bytes ≡ byte_len w → AreByteSized bytes → to_be_bytes w (from_be_bytes w bytes) ≡ bytes
  pub again : (n : ℕ) → n < 2 ^ (8 * byte_len w) → from_be_bytes w (to_be_bytes w n) ≡ n
  pub below : (bytes : List ℕ) → AreByteSized bytes → from_be_bytes w bytes < 2 ^ (8 * byte_len w)
  pub signs : (n : ℕ) → n < 2 ^ (8 * byte_len w) → cast_unsigned w (cast_signed w n) ≡ n
  pub fits : (n : ℕ) → n < 2 ^ (8 * byte_len w) → FitsSigned w (cast_signed w n)
  pub unsigned : (z : ℤ) → FitsSigned w z → cast_unsigned w z < 2 ^ (8 * byte_len w)

unsigned_8 : (z : ℤ) → FitsSigned w8 z → cast_unsigned w8 z < 2 ^ 8
unsigned_8 (pos n) h = omega (arith, h.sfits)
unsigned_8 (negsuc n) h = omega (arith, h.sfits)

back_8 : (bytes : List ℕ) → length bytes ≡ 1 → AreByteSized bytes → to_be_bytes w8 (from_be_bytes w8 bytes) ≡ bytes
back_8 [] len fits = absurd (let f : ⊥ = omega arith in f)
back_8 (b ∷ []) len fits = ap (λ (k : ℕ). k ∷ []) (omega (arith, byte_at (b ∷ []) fits 0))
back_8 (b ∷ c ∷ more) len fits = absurd (let f : ⊥ = omega arith in f)

again_8 : (n : ℕ) → n < 2 ^ 8 → from_be_bytes w8 (to_be_bytes w8 n) ≡ n
again_8 n lt = omega arith

pub wide_8 : IsWide w8
wide_8 = record {
  len = λ n. refl;
  back = back_8;
  again = again_8;
  below = λ bytes fits. omega (arith, byte_at bytes fits 0);
  signs = λ n lt. of_z-to_z w8 n lt;
  fits = λ n lt. sfits_to_z {w = w8} {n = n} (record { fits = lt });
  unsigned = unsigned_8;
}

unsigned_16 : (z : ℤ) → FitsSigned w16 z → cast_unsigned w16 z < 2 ^ 16
unsigned_16 (pos n) h = omega (arith, h.sfits)
unsigned_16 (negsuc n) h = omega (arith, h.sfits)

pub wide_16 : IsWide w16
wide_16 = record {
  len = λ n. refl;
  back = λ bytes len fits. be_bytes_2 bytes _ len (byte_at bytes fits) refl;
  again = λ n lt. from_be_bytes-to_be_bytes_2 n lt;
  below = λ bytes fits. omega (arith, byte_at bytes fits 0, byte_at bytes fits 1);
  signs = λ n lt. of_z-to_z w16 n lt;
  fits = λ n lt. sfits_to_z {w = w16} {n = n} (record { fits = lt });
  unsigned = unsigned_16;
}

unsigned_32 : (z : ℤ) → FitsSigned w32 z → cast_unsigned w32 z < 2 ^ 32
unsigned_32 (pos n) h = omega (arith, h.sfits)
unsigned_32 (negsuc n) h = omega (arith, h.sfits)

pub wide_32 : IsWide w32
wide_32 = record {
  len = λ n. refl;
  back = λ bytes len fits. be_bytes_4 bytes _ len (byte_at bytes fits) refl;
  again = λ n lt. from_be_bytes-to_be_bytes_4 n lt;
  below = λ bytes fits. omega (arith, byte_at bytes fits 0, byte_at bytes fits 1, byte_at bytes fits 2, byte_at bytes fits 3);
  signs = λ n lt. of_z-to_z w32 n lt;
  fits = λ n lt. sfits_to_z {w = w32} {n = n} (record { fits = lt });
  unsigned = unsigned_32;
}

unsigned_64 : (z : ℤ) → FitsSigned w64 z → cast_unsigned w64 z < 2 ^ 64
unsigned_64 (pos n) h = omega (arith, h.sfits)
unsigned_64 (negsuc n) h = omega (arith, h.sfits)

pub wide_64 : IsWide w64
wide_64 = record {
  len = λ n. refl;
  back = λ bytes len fits. be_bytes_8 bytes _ len (byte_at bytes fits) refl;
  again = λ n lt. from_be_bytes-to_be_bytes_8 n lt;
  below = λ bytes fits. omega (arith, byte_at bytes fits 0, byte_at bytes fits 1, byte_at bytes fits 2, byte_at bytes fits 3, byte_at bytes fits 4, byte_at bytes fits 5, byte_at bytes fits 6, byte_at bytes fits 7);
  signs = λ n lt. of_z-to_z w64 n lt;
  fits = λ n lt. sfits_to_z {w = w64} {n = n} (record { fits = lt });
  unsigned = unsigned_64;
}
