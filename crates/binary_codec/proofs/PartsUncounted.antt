-- The parts count no value.
use Rattle.std.specs.Prelude.{ℤ, pos, negsuc}
use Rattle.std.specs.Int.{w8, w16, w32, w64, w128}
use Rattle.std.proofs.Common.{ℕ, Bool, true, false, cond, eqb, Result}
use Rattle.wire_num.specs.Decoding.{decode_byte, decode_bytes, decode_unsigned, decode_signed}
use Rattle.thrift_value.specs.declared.tag.Tag.{Tag}
use Rattle.thrift_value.specs.declared.tag.Tag.TheVariants as tags
use Rattle.thrift_value.specs.declared.wire_fault.WireFault.{WireFault}
use Rattle.thrift_value.specs.declared.wire_fault.WireFault.TheVariants.{BadSize}
use Rattle.thrift_value.specs.Tree.{of_bool, of_i8, of_i16, of_i32, of_i64, of_double, of_uuid}
use Rattle.wire_model.specs.Decoder.{Unread, ◌>>=◌, give}
use Rattle.wire_model.specs.Wire.{FieldHeader, stop, typed, IsScalar}
use Rattle.wire_model.specs.Protocol.{IsUncounted, ArePartsUncounted}
use Rattle.wire_model.proofs.Recounted.{then_uncounted, give_uncounted, fail_uncounted, number_uncounted, tag_uncounted_if, room_uncounted}
use Rattle.wire_model.specs.Pieces.{byte, some_bytes, within_room}
use Rattle.binary_codec.specs.Codes.{tag_of_code}
use Rattle.binary_codec.specs.Reading.{unsigned, signed, tag_coded, header_coded, binary_field, binary_scalar, unsigned_size, binary_size, binary_span, items_coded, pairs_coded, binary_items, binary_pairs, binary}

tag_uncounted : (code : ℕ) → IsUncounted (tag_coded code)
unfolding tag_coded
tag_uncounted code = tag_uncounted_if code (tag_of_code code)

abbrev field_of_tag : Tag → Unread → Result (FieldHeader × Unread) WireFault
field_of_tag tag = signed w16 >>= λ id. give (typed id tag)

header_if : (b : Bool) (code : ℕ) → IsUncounted (cond b (give stop) (tag_coded code >>= field_of_tag))
header_if true code = give_uncounted stop
header_if false code =
    then_uncounted (tag_coded code) field_of_tag (tag_uncounted code)
    (λ tag. then_uncounted (signed w16) (λ id. give (typed id tag)) (number_uncounted (decode_signed w16)) (λ id. give_uncounted (typed id tag)))

field_uncounted : (last : ℤ) → IsUncounted (binary_field last)
unfolding binary_field
field_uncounted last = then_uncounted byte (λ code. header_coded code) (number_uncounted decode_byte) (λ code. header_if (eqb code 0) code)

scalar_uncounted : (tag : Tag) → IsScalar tag → IsUncounted (binary_scalar tag)
unfolding binary_scalar
scalar_uncounted tags.Bool is = then_uncounted byte (λ b. give (of_bool (eqb b 1))) (number_uncounted decode_byte) (λ b. give_uncounted (of_bool (eqb b 1)))
scalar_uncounted tags.I8 is = then_uncounted (signed w8) (λ n. give (of_i8 n)) (number_uncounted (decode_signed w8)) (λ n. give_uncounted (of_i8 n))
scalar_uncounted tags.I16 is = then_uncounted (signed w16) (λ n. give (of_i16 n)) (number_uncounted (decode_signed w16)) (λ n. give_uncounted (of_i16 n))
scalar_uncounted tags.I32 is = then_uncounted (signed w32) (λ n. give (of_i32 n)) (number_uncounted (decode_signed w32)) (λ n. give_uncounted (of_i32 n))
scalar_uncounted tags.I64 is = then_uncounted (signed w64) (λ n. give (of_i64 n)) (number_uncounted (decode_signed w64)) (λ n. give_uncounted (of_i64 n))
scalar_uncounted tags.Double is = then_uncounted (unsigned w64) (λ n. give (of_double n)) (number_uncounted (decode_unsigned w64)) (λ n. give_uncounted (of_double n))
scalar_uncounted tags.Uuid is = then_uncounted (unsigned w128) (λ n. give (of_uuid n)) (number_uncounted (decode_unsigned w128)) (λ n. give_uncounted (of_uuid n))
scalar_uncounted tag is = absurd is

size_of : (z : ℤ) → IsUncounted (unsigned_size z)
size_of (pos n) = give_uncounted n
size_of (negsuc n) = fail_uncounted BadSize

size_uncounted : IsUncounted binary_size
unfolding binary_size
size_uncounted =
    let room : ℤ → Unread → Result (ℕ × Unread) WireFault = λ z. unsigned_size z >>= λ size. within_room size in
    then_uncounted (signed w32) room (number_uncounted (decode_signed w32)) (λ z. then_uncounted (unsigned_size z) (λ size. within_room size) (size_of z) (λ size. room_uncounted size))

span_uncounted : IsUncounted binary_span
unfolding binary_span
span_uncounted = then_uncounted binary_size (λ size. some_bytes size) size_uncounted (λ size. number_uncounted (decode_bytes size))

abbrev items_of_tag : ℕ → Tag → Unread → Result ((Tag × ℕ) × Unread) WireFault
items_of_tag size tag = give (tag, size)

items_if : (b : Bool) (code size : ℕ) → IsUncounted (cond b (give (tags.Bool, size)) (tag_coded code >>= items_of_tag size))
items_if true code size = give_uncounted (tags.Bool, size)
items_if false code size = then_uncounted (tag_coded code) (items_of_tag size) (tag_uncounted code) (λ tag. give_uncounted (tag, size))

items_uncounted : IsUncounted binary_items
unfolding binary_items
items_uncounted =
    let sizes : ℕ → Unread → Result ((Tag × ℕ) × Unread) WireFault = λ code. binary_size >>= λ size. items_coded code size in
    then_uncounted byte sizes (number_uncounted decode_byte)
    (λ code. then_uncounted binary_size (λ size. items_coded code size) size_uncounted (λ size. items_if (eqb size 0) code size))

abbrev pairs_of_key : ℕ → ℕ → Tag → Unread → Result ((Tag × Tag × ℕ) × Unread) WireFault
pairs_of_key value size key_tag = tag_coded value >>= λ value_tag. give (key_tag, value_tag, size)

pairs_if : (b : Bool) (key value size : ℕ) → IsUncounted (cond b (give (tags.Bool, tags.Bool, size)) (tag_coded key >>= pairs_of_key value size))
pairs_if true key value size = give_uncounted (tags.Bool, tags.Bool, size)
pairs_if false key value size =
    then_uncounted (tag_coded key) (pairs_of_key value size) (tag_uncounted key)
    (λ k. then_uncounted (tag_coded value) (λ v. give (k, v, size)) (tag_uncounted value) (λ v. give_uncounted (k, v, size)))

pairs_uncounted : IsUncounted binary_pairs
unfolding binary_pairs
pairs_uncounted =
    let sizes : ℕ → ℕ → Unread → Result ((Tag × Tag × ℕ) × Unread) WireFault = λ key value. binary_size >>= λ size. pairs_coded key value size in
    let values : ℕ → Unread → Result ((Tag × Tag × ℕ) × Unread) WireFault = λ key. byte >>= sizes key in
    then_uncounted byte values (number_uncounted decode_byte)
    (λ key. then_uncounted byte (sizes key) (number_uncounted decode_byte)
    (λ value. then_uncounted binary_size (λ size. pairs_coded key value size) size_uncounted (λ size. pairs_if (eqb size 0) key value size)))

pub parts_uncounted : ArePartsUncounted binary
parts_uncounted = record { field = field_uncounted; scalar = scalar_uncounted; span = span_uncounted; items = items_uncounted; pairs = pairs_uncounted }
