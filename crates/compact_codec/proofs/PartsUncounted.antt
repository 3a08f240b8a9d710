-- The parts count no value.
use Rattle.std.specs.Prelude.{ℤ, pos, negsuc}
use Rattle.std.specs.Int.{w8, w32, w64, w128}
use Rattle.std.proofs.Common.{ℕ, ◌/◌, ◌%◌, ◌^◌, ◌+ℤ◌, Bool, true, false, cond, eqb, ltb, Result}
use Rattle.wire_num.specs.Decoding.{decode_byte, decode_bytes, decode_unsigned, decode_signed}
use Rattle.wire_num.specs.LowFirst.{decode_low_first}
use Rattle.wire_num.specs.Varint.{decode_varint}
use Rattle.thrift_value.specs.declared.tag.Tag.{Tag}
use Rattle.thrift_value.specs.declared.tag.Tag.TheVariants as tags
use Rattle.thrift_value.specs.declared.wire_fault.WireFault.{WireFault}
use Rattle.thrift_value.specs.declared.wire_fault.WireFault.TheVariants.{BadSize, FieldRange}
use Rattle.thrift_value.specs.Tree.{of_bool, of_i8, of_i16, of_i32, of_i64, of_double, of_uuid}
use Rattle.wire_model.specs.Decoder.{Unread, ◌>>=◌, give, fail}
use Rattle.wire_model.specs.Pieces.{byte, some_bytes, within_room}
use Rattle.wire_model.specs.Protocol.{IsUncounted, ArePartsUncounted}
use Rattle.wire_model.specs.Wire.{FieldHeader, stop, IsScalar}
use Rattle.wire_model.proofs.Recounted.{then_uncounted, give_uncounted, fail_uncounted, number_uncounted, tag_uncounted_if, room_uncounted}
use Rattle.compact_codec.specs.Codes.{compact_tag}
use Rattle.compact_codec.specs.Numbers.{decode_short, decode_zigzag}
use Rattle.compact_codec.specs.Reading.{compact_i8, compact_i16, compact_signed, compact_double, compact_uuid, compact_unsigned, tag_in_half, id_in_range, id_by_delta, header_by, header_in_byte, compact_field, compact_scalar, size_in_range, compact_size, compact_span, items_size, items_in_half, items_in_byte, compact_items, pairs_in_byte, pairs_of_size, compact_pairs, compact}

tag_uncounted : (code : ℕ) → IsUncounted (tag_in_half code)
unfolding tag_in_half
tag_uncounted code = tag_uncounted_if code (compact_tag code)

-- headers of fields

range_uncounted : (b : Bool) (n : ℕ) → IsUncounted (cond b (give (pos n)) (fail FieldRange))
range_uncounted true n = give_uncounted (pos n)
range_uncounted false n = fail_uncounted FieldRange

id_uncounted : (b : Bool) (z : ℤ) → IsUncounted (cond b compact_i16 (id_in_range z))
id_uncounted true z = number_uncounted decode_short
id_uncounted false (negsuc n) = give_uncounted (negsuc n)
id_uncounted false (pos n) = range_uncounted (ltb n (2 ^ 15)) n

abbrev header_of_id : ℕ → Tag → ℤ → Unread → Result (FieldHeader × Unread) WireFault
header_of_id code tag id = give (header_by code tag id)

abbrev header_of_tag : ℤ → ℕ → ℕ → Tag → Unread → Result (FieldHeader × Unread) WireFault
header_of_tag last code delta tag = id_by_delta last delta >>= header_of_id code tag

header_uncounted : (b : Bool) (last : ℤ) (code delta : ℕ) → IsUncounted (cond b (give stop) (tag_in_half code >>= header_of_tag last code delta))
header_uncounted true last code delta = give_uncounted stop
header_uncounted false last code delta =
    then_uncounted (tag_in_half code) (header_of_tag last code delta) (tag_uncounted code)
    (λ tag. then_uncounted (id_by_delta last delta) (header_of_id code tag) (id_uncounted (eqb delta 0) (last +ℤ pos delta)) (λ id. give_uncounted (header_by code tag id)))

field_uncounted : (last : ℤ) → IsUncounted (compact_field last)
unfolding compact_field
field_uncounted last = then_uncounted byte (λ b. header_in_byte last b) (number_uncounted decode_byte) (λ b. header_uncounted (eqb b 0) last (b % 16) (b / 16))

-- numbers, bools and texts

scalar_uncounted : (tag : Tag) → IsScalar tag → IsUncounted (compact_scalar tag)
unfolding compact_scalar
scalar_uncounted tags.Bool is = then_uncounted byte (λ b. give (of_bool (eqb b 1))) (number_uncounted decode_byte) (λ b. give_uncounted (of_bool (eqb b 1)))
scalar_uncounted tags.I8 is = then_uncounted compact_i8 (λ n. give (of_i8 n)) (number_uncounted (decode_signed w8)) (λ n. give_uncounted (of_i8 n))
scalar_uncounted tags.I16 is = then_uncounted compact_i16 (λ n. give (of_i16 n)) (number_uncounted decode_short) (λ n. give_uncounted (of_i16 n))
scalar_uncounted tags.I32 is = then_uncounted (compact_signed w32) (λ n. give (of_i32 n)) (number_uncounted (decode_zigzag w32)) (λ n. give_uncounted (of_i32 n))
scalar_uncounted tags.I64 is = then_uncounted (compact_signed w64) (λ n. give (of_i64 n)) (number_uncounted (decode_zigzag w64)) (λ n. give_uncounted (of_i64 n))
scalar_uncounted tags.Double is = then_uncounted compact_double (λ n. give (of_double n)) (number_uncounted (decode_low_first w64)) (λ n. give_uncounted (of_double n))
scalar_uncounted tags.Uuid is = then_uncounted compact_uuid (λ n. give (of_uuid n)) (number_uncounted (decode_unsigned w128)) (λ n. give_uncounted (of_uuid n))
scalar_uncounted tag is = absurd is

ranged_uncounted : (b : Bool) (n : ℕ) → IsUncounted (cond b (within_room n) (fail BadSize))
ranged_uncounted true n = room_uncounted n
ranged_uncounted false n = fail_uncounted BadSize

size_uncounted : IsUncounted compact_size
unfolding compact_size
size_uncounted = then_uncounted compact_unsigned (λ n. size_in_range n) (number_uncounted (decode_varint w32)) (λ n. ranged_uncounted (ltb n (2 ^ 31)) n)

span_uncounted : IsUncounted compact_span
unfolding compact_span
span_uncounted = then_uncounted compact_size (λ size. some_bytes size) size_uncounted (λ size. number_uncounted (decode_bytes size))

-- headers of containers

half_uncounted : (b : Bool) (half : ℕ) → IsUncounted (cond b compact_size (within_room half))
half_uncounted true half = size_uncounted
half_uncounted false half = room_uncounted half

abbrev items_of_tag : ℕ → Tag → Unread → Result ((Tag × ℕ) × Unread) WireFault
items_of_tag size tag = give (tag, size)

items_if : (b : Bool) (code size : ℕ) → IsUncounted (cond b (give (tags.Bool, size)) (tag_in_half code >>= items_of_tag size))
items_if true code size = give_uncounted (tags.Bool, size)
items_if false code size = then_uncounted (tag_in_half code) (items_of_tag size) (tag_uncounted code) (λ tag. give_uncounted (tag, size))

items_uncounted : IsUncounted compact_items
unfolding compact_items
items_uncounted =
    then_uncounted byte (λ b. items_in_byte b) (number_uncounted decode_byte)
    (λ b. then_uncounted (items_size (b / 16)) (λ size. items_in_half (b % 16) size) (half_uncounted (eqb (b / 16) 15) (b / 16)) (λ size. items_if (eqb size 0) (b % 16) size))

abbrev pairs_of_tags : ℕ → Tag → Tag → Unread → Result ((Tag × Tag × ℕ) × Unread) WireFault
pairs_of_tags size key_tag value_tag = give (key_tag, value_tag, size)

abbrev pairs_of_key : ℕ → ℕ → Tag → Unread → Result ((Tag × Tag × ℕ) × Unread) WireFault
pairs_of_key value size key_tag = tag_in_half value >>= pairs_of_tags size key_tag

pairs_if : (b : Bool) (size : ℕ) → IsUncounted (cond b (give (tags.Bool, tags.Bool, size)) (byte >>= λ x. pairs_in_byte size x))
pairs_if true size = give_uncounted (tags.Bool, tags.Bool, size)
pairs_if false size =
    then_uncounted byte (λ x. pairs_in_byte size x) (number_uncounted decode_byte)
    (λ x. then_uncounted (tag_in_half (x / 16)) (pairs_of_key (x % 16) size) (tag_uncounted (x / 16))
    (λ k. then_uncounted (tag_in_half (x % 16)) (pairs_of_tags size k) (tag_uncounted (x % 16)) (λ v. give_uncounted (k, v, size))))

pairs_uncounted : IsUncounted compact_pairs
unfolding compact_pairs
pairs_uncounted = then_uncounted compact_size (λ size. pairs_of_size size) size_uncounted (λ size. pairs_if (eqb size 0) size)

pub parts_uncounted : ArePartsUncounted compact
parts_uncounted = record { field = field_uncounted; scalar = scalar_uncounted; span = span_uncounted; items = items_uncounted; pairs = pairs_uncounted }
