-- Numbers of a width in front of what is left: what is read is what they spell, and what they spell is read.
use Rattle.std.specs.Prelude.{ℤ, FitsSigned}
use Rattle.std.specs.Int.{Width, byte_len}
use Rattle.std.proofs.Common.{◌≡◌, ℕ, ◌*◌, ◌^◌, ◌<◌, List, ◌++◌, Ok, refl, ap, ◌∙◌}
use Rattle.wire_num.specs.Decoding.{decode_unsigned, decode_signed}
use Rattle.wire_num.specs.Encoded.{AreByteSized}
use Rattle.wire_num.specs.Fixed.{unsigned_bytes, signed_bytes, IsUnsigned, IsSigned}
use Rattle.wire_num.proofs.Numbers.{unsigned_decodes, signed_decodes}
use Rattle.wire_num.proofs.Widths.{IsWide}
use Rattle.wire_model.specs.Decoder.{Unread}
use Rattle.wire_model.specs.Protocol.{StaysAs}
use Rattle.wire_model.proofs.Uncounted.{uncounted_found, uncounted_only, uncounted_stays}
use Rattle.binary_codec.specs.Reading.{unsigned, signed}

-- ---- signed numbers

pub record SignedFront (w : Width) (z : ℤ) (before after : Unread) : Type 0 where
  pub whole : before.bytes ≡ signed_bytes w z ++ after.bytes
  pub fits : FitsSigned w z
  pub budget : after.budget ≡ before.budget

pub signed_found : (w : Width) → IsWide w → (before after : Unread) (z : ℤ) → AreByteSized before.bytes → signed w before ≡ Ok (z, after) → SignedFront w z before after
signed_found w wide before after z fits e =
    let f = uncounted_found (decode_signed w) (IsSigned w) (signed_decodes w wide) before after z fits e in
    record { whole = f.whole ∙ ap (λ (t : List ℕ). t ++ after.bytes) f.spells.1; fits = f.spells.0; budget = f.budget }

pub signed_given : (w : Width) → IsWide w → (z : ℤ) (more : List ℕ) (left : ℕ) → FitsSigned w z
    → signed w (record { bytes = signed_bytes w z ++ more; budget = left }) ≡ Ok (z, record { bytes = more; budget = left })
signed_given w wide z more left fits = uncounted_only (decode_signed w) (IsSigned w) (signed_decodes w wide) z (signed_bytes w z) more left (fits, refl)

pub signed_stays : (w : Width) → IsWide w → StaysAs (signed w) (signed w)
signed_stays w wide = uncounted_stays (decode_signed w) (IsSigned w) (signed_decodes w wide)

-- ---- unsigned numbers

pub record UnsignedFront (w : Width) (n : ℕ) (before after : Unread) : Type 0 where
  pub whole : before.bytes ≡ unsigned_bytes w n ++ after.bytes
  pub small : n < 2 ^ (8 * byte_len w)
  pub budget : after.budget ≡ before.budget

pub unsigned_found : (w : Width) → IsWide w → (before after : Unread) (n : ℕ) → AreByteSized before.bytes → unsigned w before ≡ Ok (n, after) → UnsignedFront w n before after
unsigned_found w wide before after n fits e =
    let f = uncounted_found (decode_unsigned w) (IsUnsigned w) (unsigned_decodes w wide) before after n fits e in
    record { whole = f.whole ∙ ap (λ (t : List ℕ). t ++ after.bytes) f.spells.1; small = f.spells.0; budget = f.budget }

pub unsigned_given : (w : Width) → IsWide w → (n : ℕ) (more : List ℕ) (left : ℕ) → n < 2 ^ (8 * byte_len w)
    → unsigned w (record { bytes = unsigned_bytes w n ++ more; budget = left }) ≡ Ok (n, record { bytes = more; budget = left })
unsigned_given w wide n more left small = uncounted_only (decode_unsigned w) (IsUnsigned w) (unsigned_decodes w wide) n (unsigned_bytes w n) more left (small, refl)

pub unsigned_stays : (w : Width) → IsWide w → StaysAs (unsigned w) (unsigned w)
unsigned_stays w wide = uncounted_stays (decode_unsigned w) (IsUnsigned w) (unsigned_decodes w wide)
