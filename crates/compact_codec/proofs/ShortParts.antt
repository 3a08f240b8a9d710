-- Only so few bytes are Short, so that more bytes mend them.
use Rattle.std.specs.Prelude.{ℤ}
use Rattle.std.proofs.Common.{◌≡◌, inl, inr, ℕ, suc, ◌+◌, ◌^◌, ◌<◌, List, length, Err, ap, arith}
use Rattle.wire_num.specs.Encoded.{AreByteSized}
use Rattle.thrift_value.specs.declared.tag.Tag.{Tag}
use Rattle.thrift_value.specs.declared.tag.Tag.TheVariants as tags
use Rattle.thrift_value.specs.declared.wire_fault.WireFault.TheVariants.{Short}
use Rattle.wire_model.specs.Decoder.{Unread}
use Rattle.wire_model.specs.Protocol.{and_more}
use Rattle.wire_model.specs.Wire.{IsScalar}
use Rattle.wire_model.proofs.Mending.{mended}
use Rattle.compact_codec.specs.Faults.{HasFieldFault, HasNumberFault, HasListFault}
use Rattle.compact_codec.specs.Reading.{compact_field, compact_scalar, compact_span, compact_items, compact_pairs}
use Rattle.compact_codec.proofs.FaultTable.{scalar_fault_found, items_fault_found, pairs_fault_found}
use Rattle.compact_codec.proofs.FieldHeaders.{field_fault_found}
use Rattle.compact_codec.proofs.Sizes.{size_bound, span_fault_found}

field_bound : (last : ℤ) (bytes : List ℕ) → HasFieldFault last Short bytes → length bytes < 6
field_bound last bytes (inl none) = let l : length bytes ≡ 0 = ap length none in omega arith
field_bound last bytes (inr (code, taken, b)) = let l : length bytes ≡ suc (length b.behind) = ap length b.whole in let less : length b.behind < 5 = b.such.0 in omega arith

scalar_bound : (tag : Tag) (bytes : List ℕ) → HasNumberFault tag Short bytes → length bytes < 17
scalar_bound tags.Bool bytes h = omega (arith, h)
scalar_bound tags.I8 bytes h = omega (arith, h)
scalar_bound tags.I16 bytes h = omega (arith, h.0)
scalar_bound tags.I32 bytes h = omega (arith, h.0)
scalar_bound tags.I64 bytes h = omega (arith, h.0)
scalar_bound tags.Double bytes h = omega (arith, h)
scalar_bound tags.Bytes bytes h = omega (arith, h)
scalar_bound tags.Struct bytes h = omega (arith, h)
scalar_bound tags.Map bytes h = omega (arith, h)
scalar_bound tags.Set bytes h = omega (arith, h)
scalar_bound tags.List bytes h = omega (arith, h)
scalar_bound tags.Uuid bytes h = omega (arith, h)

items_bound : (bytes : List ℕ) → HasListFault Short bytes → length bytes < 2 ^ 31 + 6
items_bound bytes (inl none) = let l : length bytes ≡ 0 = ap length none in omega arith
items_bound bytes (inr (inl (size, code, small, low, b))) =
    let l : length bytes ≡ suc (length b.behind) = ap length b.whole in let less : length b.behind < size = b.such in omega (arith, small)
items_bound bytes (inr (inr (code, low, b))) =
    let l : length bytes ≡ suc (length b.behind) = ap length b.whole in
    let less : length b.behind < 2 ^ 31 + 5 = size_bound b.behind b.such in
    omega arith

-- ---- each part

pub field_mends : (last : ℤ) (unread : Unread) → AreByteSized unread.bytes → compact_field last unread ≡ Err Short
    → (more : List ℕ) × AreByteSized more × (compact_field last (and_more more unread) ≡ Err Short → ⊥)
field_mends last = mended (compact_field last) 6 (λ unread fits e. field_bound last unread.bytes (field_fault_found last unread Short fits e))

pub scalar_mends : (tag : Tag) → IsScalar tag → (unread : Unread) → AreByteSized unread.bytes → compact_scalar tag unread ≡ Err Short
    → (more : List ℕ) × AreByteSized more × (compact_scalar tag (and_more more unread) ≡ Err Short → ⊥)
scalar_mends tag is = mended (compact_scalar tag) 17 (λ unread fits e. scalar_bound tag unread.bytes (scalar_fault_found tag is unread Short fits e))

pub span_mends : (unread : Unread) → AreByteSized unread.bytes → compact_span unread ≡ Err Short
    → (more : List ℕ) × AreByteSized more × (compact_span (and_more more unread) ≡ Err Short → ⊥)
span_mends = mended compact_span (2 ^ 31 + 5) (λ unread fits e. size_bound unread.bytes (span_fault_found unread Short fits e))

pub items_mends : (unread : Unread) → AreByteSized unread.bytes → compact_items unread ≡ Err Short
    → (more : List ℕ) × AreByteSized more × (compact_items (and_more more unread) ≡ Err Short → ⊥)
items_mends = mended compact_items (2 ^ 31 + 6) (λ unread fits e. items_bound unread.bytes (items_fault_found unread Short fits e))

pub pairs_mends : (unread : Unread) → AreByteSized unread.bytes → compact_pairs unread ≡ Err Short
    → (more : List ℕ) × AreByteSized more × (compact_pairs (and_more more unread) ≡ Err Short → ⊥)
pairs_mends = mended compact_pairs (2 ^ 31 + 5) (λ unread fits e. size_bound unread.bytes (pairs_fault_found unread Short fits e))
