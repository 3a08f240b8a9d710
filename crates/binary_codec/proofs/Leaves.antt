-- The protocol's own parts, one by one.
use Rattle.std.specs.Prelude.{ℤ, pos, negsuc}
use Rattle.std.specs.Int.{w16, w32}
use Rattle.std.proofs.Common.{◌≡◌, ℕ, ◌^◌, ◌<◌, ◌≤◌, Bool, true, false, cond, eqb, leb, List, [], ◌∷◌, ◌++◌, length, Ok, Err, refl, sym, ap, subst, ◌∙◌, append_assoc, arith}
use Rattle.std.proofs.lemmas.Bool.{eqb-true, ne_eqb, le-leb}
use Rattle.std.proofs.lemmas.List.{length-append}
use Rattle.std.proofs.lemmas.Int.{fits_signed_from_abs}
use Rattle.wire_num.specs.Fixed.{unsigned_bytes, signed_bytes}
use Rattle.thrift_value.specs.declared.wire_fault.WireFault.TheVariants.{Short}
use Rattle.wire_model.specs.Decoder.{Unread, ◌>>=◌, give}
use Rattle.wire_model.specs.Wire.{FieldHeader, stop, typed, flagged}
use Rattle.wire_num.specs.Encoded.{AreByteSized}
use Rattle.wire_model.specs.Protocol.{IsInFront}
use Rattle.wire_model.proofs.Steps.{went_on, goes_on, ok_is, bytes_behind}
use Rattle.binary_codec.specs.Codes.{code_of}
use Rattle.wire_model.specs.Pieces.{byte, within_room, some_bytes}
use Rattle.wire_model.proofs.Pieces.{ByteFront, after_byte, byte_found, byte_given, piece_found, piece_given, room_found, sized}
use Rattle.binary_codec.specs.Reading.{signed, tag_coded, header_coded, binary_field, unsigned_size, binary_size, binary_span}
use Rattle.binary_codec.specs.Spelling.{IsHeader, IsSpan}
use Rattle.wire_num.proofs.Widths.{wide_16, wide_32}
use Rattle.binary_codec.proofs.FixedNumbers.{SignedFront, signed_found, signed_given}
use Rattle.binary_codec.proofs.CodeLaws.{code_small, tag_found, tag_given}

abbrev rest : List ℕ → ℕ → Unread
rest bytes left = record { bytes = bytes; budget = left }

-- ---- headers of fields

head_found_if : (b : Bool) (last : ℤ) (code : ℕ) (before middle after : Unread) (h : FieldHeader) → AreByteSized before.bytes → ByteFront code before middle → eqb code 0 ≡ b
    → cond b (give stop) (tag_coded code >>= λ tag. signed w16 >>= λ id. give (typed id tag)) middle ≡ Ok (h, after) → IsInFront (IsHeader last) h before after
head_found_if true last code before middle after h fits f test e =
    subst (λ (y : FieldHeader × Unread). IsInFront (IsHeader last) y.0 before y.1) (ok_is (stop, middle) (h, after) e)
    (record { text = 0 ∷ []; whole = f.whole ∙ ap (λ (k : ℕ). k ∷ middle.bytes) (eqb-true code 0 test); spells = refl; budget = f.budget })
head_found_if false last code before middle after h fits f test e =
    let one = went_on (tag_coded code middle) (λ tag. signed w16 >>= λ id. give (typed id tag)) (h, after) e in
    let tag = one.0.0 in
    let third = one.0.1 in
    let t = tag_found code middle third tag one.1 in
    let two = went_on (signed w16 third) (λ id. give (typed id tag)) (h, after) one.2 in
    let id = two.0.0 in
    let s = signed_found w16 wide_16 third two.0.1 id (subst (λ (r : Unread). AreByteSized r.bytes) (sym t.1) (after_byte code before middle f fits)) two.1 in
    let same : middle.bytes ≡ signed_bytes w16 id ++ two.0.1.bytes = ap (λ (r : Unread). r.bytes) (sym t.1) ∙ s.whole in
    subst (λ (y : FieldHeader × Unread). IsInFront (IsHeader last) y.0 before y.1) (ok_is (typed id tag, two.0.1) (h, after) two.2)
    (record {
      text = code_of tag ∷ signed_bytes w16 id;
      whole = f.whole ∙ ap (λ (k : ℕ). k ∷ middle.bytes) t.0 ∙ ap (λ (x : List ℕ). code_of tag ∷ x) same;
      spells = (s.fits, refl);
      budget = s.budget ∙ ap (λ (r : Unread). r.budget) t.1 ∙ f.budget;
    })

pub field_found : (last : ℤ) (before after : Unread) (h : FieldHeader) → AreByteSized before.bytes → binary_field last before ≡ Ok (h, after) → IsInFront (IsHeader last) h before after
unfolding binary_field
field_found last before after h fits e =
    let one = went_on (byte before) (λ code. header_coded code) (h, after) e in
    head_found_if (eqb one.0.0 0) last one.0.0 before one.0.1 after h fits (byte_found before one.0.1 one.0.0 fits one.1) refl one.2

pub field_only : (last : ℤ) (h : FieldHeader) (text more : List ℕ) (left : ℕ) → IsHeader last h text → binary_field last (rest (text ++ more) left) ≡ Ok (h, rest more left)
unfolding binary_field
field_only last stop text more left is =
    ap (λ (t : List ℕ). binary_field last (rest (t ++ more) left)) is ∙ goes_on (byte (rest (0 ∷ more) left)) (λ code. header_coded code) 0 (rest more left) _ (byte_given 0 more left) refl
field_only last (typed id tag) text more left is =
    let code : ℕ = code_of tag in
    let behind : List ℕ = signed_bytes w16 id ++ more in
    let test : eqb code 0 ≡ false = let c = (code_small tag).1 in ne_eqb code 0 (omega arith) in
    ap (λ (t : List ℕ). binary_field last (rest (t ++ more) left)) is.1
    ∙ goes_on (byte (rest (code ∷ behind) left)) (λ code. header_coded code) code (rest behind left) _ (byte_given code behind left)
    (ap (λ (b : Bool). cond b (give stop) (tag_coded code >>= λ tag. signed w16 >>= λ id. give (typed id tag)) (rest behind left)) test
    ∙ goes_on (tag_coded code (rest behind left)) (λ tag. signed w16 >>= λ id. give (typed id tag)) tag (rest behind left) _ (tag_given tag (rest behind left))
    (goes_on (signed w16 (rest behind left)) (λ id. give (typed id tag)) id (rest more left) _ (signed_given w16 wide_16 id more left is.0) refl))
field_only last (flagged id flag) text more left is = absurd is

pub field_byte : (last : ℤ) (h : FieldHeader) (text : List ℕ) → IsHeader last h text → 1 ≤ length text
field_byte last stop text is = let l : length text ≡ 1 = ap length is in omega arith
field_byte last (typed id tag) text is = let l : length text ≡ 3 = ap length is.1 in omega arith
field_byte last (flagged id flag) text is = absurd is

-- ---- lengths and sizes

-- a length, with at least so many bytes behind it
pub record SizeFront (n : ℕ) (before after : Unread) : Type 0 where
  pub whole : before.bytes ≡ unsigned_bytes w32 n ++ after.bytes
  pub small : n < 2 ^ 31
  pub budget : after.budget ≡ before.budget

size_signed : (z : ℤ) (n : ℕ) (before middle after : Unread) → SignedFront w32 z before middle → (unsigned_size z >>= λ size. within_room size) middle ≡ Ok (n, after) → SizeFront n before after
size_signed (pos k) n before middle after s e =
    subst (λ (y : ℕ × Unread). SizeFront y.0 before y.1) (room_found (leb k (length middle.bytes)) k n middle after refl e)
    (record { whole = s.whole; small = let f = s.fits.sfits in omega arith; budget = s.budget })
size_signed (negsuc k) n before middle after s e = absurd cc

pub size_found : (before after : Unread) (n : ℕ) → AreByteSized before.bytes → binary_size before ≡ Ok (n, after) → SizeFront n before after
unfolding binary_size
size_found before after n fits e =
    let one = went_on (signed w32 before) (λ z. unsigned_size z >>= λ size. within_room size) (n, after) e in
    size_signed one.0.0 n before one.0.1 after (signed_found w32 wide_32 before one.0.1 one.0.0 fits one.1) one.2

pub size_given : (n : ℕ) (more : List ℕ) (left : ℕ) → n < 2 ^ 31 → n ≤ length more → binary_size (rest (unsigned_bytes w32 n ++ more) left) ≡ Ok (n, rest more left)
unfolding binary_size
size_given n more left small enough =
    goes_on (signed w32 (rest (signed_bytes w32 (pos n) ++ more) left)) (λ z. unsigned_size z >>= λ size. within_room size) (pos n) (rest more left) _
    (signed_given w32 wide_32 (pos n) more left (fits_signed_from_abs w32 (pos n) small))
    (ap (λ (b : Bool). cond b (sized (n, rest more left)) (Err Short)) (le-leb n (length more) enough))

-- ---- bytes with their length

pub span_found : (before after : Unread) (bytes : List ℕ) → AreByteSized before.bytes → binary_span before ≡ Ok (bytes, after) → IsInFront IsSpan bytes before after
unfolding binary_span
span_found before after bytes fits e =
    let one = went_on (binary_size before) (λ size. some_bytes size) (bytes, after) e in
    let n = one.0.0 in
    let middle = one.0.1 in
    let s = size_found before middle n fits one.1 in
    let f = piece_found n middle after bytes (bytes_behind (unsigned_bytes w32 n) middle.bytes (subst AreByteSized s.whole fits)) one.2 in
    let len : n ≡ length bytes = sym f.len in
    record {
      text = unsigned_bytes w32 (length bytes) ++ bytes;
      whole = s.whole ∙ ap (λ (t : List ℕ). unsigned_bytes w32 n ++ t) f.whole ∙ sym (append_assoc (unsigned_bytes w32 n) bytes after.bytes)
          ∙ ap (λ (k : ℕ). (unsigned_bytes w32 k ++ bytes) ++ after.bytes) len;
      spells = record { size = subst (λ (k : ℕ). k < 2 ^ 31) len s.small; each = f.each; whole = refl };
      budget = f.budget ∙ s.budget;
    }

pub span_only : (bytes text more : List ℕ) (left : ℕ) → IsSpan bytes text → binary_span (rest (text ++ more) left) ≡ Ok (bytes, rest more left)
unfolding binary_span
span_only bytes text more left is =
    let n : ℕ = length bytes in
    ap (λ (t : List ℕ). binary_span (rest t left)) (ap (λ (t : List ℕ). t ++ more) is.whole ∙ append_assoc (unsigned_bytes w32 n) bytes more)
    ∙ goes_on (binary_size (rest (unsigned_bytes w32 n ++ (bytes ++ more)) left)) (λ size. some_bytes size) n (rest (bytes ++ more) left) _
    (size_given n (bytes ++ more) left is.size (omega (arith, length-append bytes more)))
    (piece_given n bytes more left refl)

pub span_byte : (bytes text : List ℕ) → IsSpan bytes text → 1 ≤ length text
span_byte bytes text is =
    let l : length text ≡ length (unsigned_bytes w32 (length bytes) ++ bytes) = ap length is.whole in
    let k : length (unsigned_bytes w32 (length bytes)) ≡ 4 = refl in
    omega (arith, length-append (unsigned_bytes w32 (length bytes)) bytes)
