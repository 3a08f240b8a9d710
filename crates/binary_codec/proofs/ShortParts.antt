-- Only so few bytes are Short, so that more bytes mend them.
use Rattle.std.specs.Prelude.{ℤ}
use Rattle.std.specs.Int.{w32}
use Rattle.std.proofs.Common.{◌≡◌, inl, inr, ℕ, suc, ◌+◌, ◌^◌, ◌<◌, List, ◌++◌, length, Err, refl, ap, arith}
use Rattle.std.proofs.lemmas.List.{length-append}
use Rattle.wire_num.specs.Encoded.{AreByteSized}
use Rattle.wire_num.specs.Fixed.{unsigned_bytes}
use Rattle.thrift_value.specs.declared.tag.Tag.{Tag}
use Rattle.thrift_value.specs.declared.tag.Tag.TheVariants as tags
use Rattle.thrift_value.specs.declared.wire_fault.WireFault.TheVariants.{Short}
use Rattle.wire_model.specs.Decoder.{Unread}
use Rattle.wire_model.specs.Protocol.{and_more}
use Rattle.wire_model.specs.Wire.{IsScalar}
use Rattle.wire_model.proofs.Mending.{mended}
use Rattle.binary_codec.specs.Faults.{HasHeaderFault, scalar_len, HasScalarFault, HasSizeFault, HasItemsFault, HasPairsFault}
use Rattle.binary_codec.specs.Reading.{binary_field, binary_scalar, binary_span, binary_items, binary_pairs}
use Rattle.binary_codec.proofs.FaultTable.{field_fault_found, scalar_fault_found, span_fault_found, items_fault_found, pairs_fault_found}

header_len : (bytes : List ℕ) → HasHeaderFault Short bytes → length bytes < 3
header_len bytes (inl none) = let l : length bytes ≡ 0 = ap length none in omega arith
header_len bytes (inr (tag, b)) = let l : length bytes ≡ suc (length b.behind) = ap length b.whole in let less : length b.behind < 2 = b.such in omega arith

scalar_small : (tag : Tag) → scalar_len tag < 17
scalar_small tags.Bool = omega arith
scalar_small tags.I8 = omega arith
scalar_small tags.I16 = omega arith
scalar_small tags.I32 = omega arith
scalar_small tags.I64 = omega arith
scalar_small tags.Double = omega arith
scalar_small tags.Bytes = omega arith
scalar_small tags.Struct = omega arith
scalar_small tags.Map = omega arith
scalar_small tags.Set = omega arith
scalar_small tags.List = omega arith
scalar_small tags.Uuid = omega arith

scalar_bound : (tag : Tag) (bytes : List ℕ) → HasScalarFault tag Short bytes → length bytes < 17
scalar_bound tag bytes less = let l : length bytes < scalar_len tag = less in let s : scalar_len tag < 17 = scalar_small tag in omega arith

size_bound : (bytes : List ℕ) → HasSizeFault Short bytes → length bytes < 2 ^ 31 + 4
size_bound bytes (inl less) = omega (arith, less)
size_bound bytes (inr (size, small, b)) =
    let l : length bytes ≡ length (unsigned_bytes w32 size ++ b.behind) = ap length b.whole in
    let k : length (unsigned_bytes w32 size) ≡ 4 = refl in
    let less : length b.behind < size = b.such in
    omega (arith, small, length-append (unsigned_bytes w32 size) b.behind)

items_bound : (bytes : List ℕ) → HasItemsFault Short bytes → length bytes < 2 ^ 31 + 5
items_bound bytes (inl none) = let l : length bytes ≡ 0 = ap length none in omega arith
items_bound bytes (inr (code, b)) =
    let l : length bytes ≡ suc (length b.behind) = ap length b.whole in
    let less : length b.behind < 2 ^ 31 + 4 = size_bound b.behind b.such in
    omega arith

pairs_bound : (bytes : List ℕ) → HasPairsFault Short bytes → length bytes < 2 ^ 31 + 6
pairs_bound bytes (inl less) = omega (arith, less)
pairs_bound bytes (inr (key, value, b)) =
    let l : length bytes ≡ suc (suc (length b.behind)) = ap length b.whole in
    let less : length b.behind < 2 ^ 31 + 4 = size_bound b.behind b.such in
    omega arith

-- ---- each part

pub field_mends : (last : ℤ) (unread : Unread) → AreByteSized unread.bytes → binary_field last unread ≡ Err Short
    → (more : List ℕ) × AreByteSized more × (binary_field last (and_more more unread) ≡ Err Short → ⊥)
field_mends last = mended (binary_field last) 3 (λ unread fits e. header_len unread.bytes (field_fault_found last unread Short fits e))

pub scalar_mends : (tag : Tag) → IsScalar tag → (unread : Unread) → AreByteSized unread.bytes → binary_scalar tag unread ≡ Err Short
    → (more : List ℕ) × AreByteSized more × (binary_scalar tag (and_more more unread) ≡ Err Short → ⊥)
scalar_mends tag is = mended (binary_scalar tag) 17 (λ unread fits e. scalar_bound tag unread.bytes (scalar_fault_found tag is unread Short fits e))

pub span_mends : (unread : Unread) → AreByteSized unread.bytes → binary_span unread ≡ Err Short
    → (more : List ℕ) × AreByteSized more × (binary_span (and_more more unread) ≡ Err Short → ⊥)
span_mends = mended binary_span (2 ^ 31 + 4) (λ unread fits e. size_bound unread.bytes (span_fault_found unread Short fits e))

pub items_mends : (unread : Unread) → AreByteSized unread.bytes → binary_items unread ≡ Err Short
    → (more : List ℕ) × AreByteSized more × (binary_items (and_more more unread) ≡ Err Short → ⊥)
items_mends = mended binary_items (2 ^ 31 + 5) (λ unread fits e. items_bound unread.bytes (items_fault_found unread Short fits e))

pub pairs_mends : (unread : Unread) → AreByteSized unread.bytes → binary_pairs unread ≡ Err Short
    → (more : List ℕ) × AreByteSized more × (binary_pairs (and_more more unread) ≡ Err Short → ⊥)
pairs_mends = mended binary_pairs (2 ^ 31 + 6) (λ unread fits e. pairs_bound unread.bytes (pairs_fault_found unread Short fits e))
