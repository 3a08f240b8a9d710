-- A part that isn't Short stays, whatever follows the bytes.
use Rattle.std.specs.Prelude.{ℤ, pos, negsuc}
use Rattle.std.specs.Int.{w8, w16, w32, w64, w128}
use Rattle.std.proofs.Common.{ℕ, Bool, true, false, cond, eqb, Result}
use Rattle.wire_num.proofs.Widths.{wide_8, wide_16, wide_32, wide_64}
use Rattle.wire_num.proofs.Halves.{wide_128}
use Rattle.thrift_value.specs.declared.tag.Tag.{Tag}
use Rattle.thrift_value.specs.declared.tag.Tag.TheVariants as tags
use Rattle.thrift_value.specs.declared.wire_fault.WireFault.{WireFault}
use Rattle.thrift_value.specs.declared.wire_fault.WireFault.TheVariants.{BadSize}
use Rattle.thrift_value.specs.Tree.{of_bool, of_i8, of_i16, of_i32, of_i64, of_double, of_uuid}
use Rattle.wire_model.specs.Decoder.{Unread, ◌>>=◌, give}
use Rattle.wire_model.specs.Wire.{FieldHeader, stop, typed, IsScalar}
use Rattle.wire_model.specs.Protocol.{StaysAs, ArePartsStable}
use Rattle.wire_model.proofs.Staying.{then_stays, give_stays, fail_stays}
use Rattle.binary_codec.specs.Codes.{tag_of_code}
use Rattle.wire_model.specs.Pieces.{byte, some_bytes, within_room}
use Rattle.wire_model.proofs.Pieces.{byte_stays, room_stays, some_stay, tag_stays_if}
use Rattle.binary_codec.specs.Reading.{unsigned, signed, tag_coded, header_coded, binary_field, binary_scalar, unsigned_size, binary_size, binary_span, items_coded, pairs_coded, binary_items, binary_pairs, binary}
use Rattle.binary_codec.proofs.FixedNumbers.{signed_stays, unsigned_stays}

tag_stays : (code : ℕ) → StaysAs (tag_coded code) (tag_coded code)
unfolding tag_coded
tag_stays code = tag_stays_if code (tag_of_code code)

-- ---- headers of fields

abbrev field_of_tag : Tag → Unread → Result (FieldHeader × Unread) WireFault
field_of_tag tag = signed w16 >>= λ id. give (typed id tag)

header_stays_if : (b : Bool) (code : ℕ) → StaysAs (cond b (give stop) (tag_coded code >>= field_of_tag)) (cond b (give stop) (tag_coded code >>= field_of_tag))
header_stays_if true code = give_stays stop
header_stays_if false code =
    then_stays (tag_coded code) (tag_coded code) field_of_tag field_of_tag (tag_stays code) (λ tag.
    then_stays (signed w16) (signed w16) (λ id. give (typed id tag)) (λ id. give (typed id tag)) (signed_stays w16 wide_16) (λ id. give_stays (typed id tag)))

field_stays : (last : ℤ) → StaysAs (binary_field last) (binary_field last)
unfolding binary_field
field_stays last = then_stays byte byte (λ code. header_coded code) (λ code. header_coded code) byte_stays (λ code. header_stays_if (eqb code 0) code)

-- ---- numbers and bools

scalar_stays : (tag : Tag) → IsScalar tag → StaysAs (binary_scalar tag) (binary_scalar tag)
unfolding binary_scalar
scalar_stays tags.Bool is = then_stays byte byte (λ b. give (of_bool (eqb b 1))) (λ b. give (of_bool (eqb b 1))) byte_stays (λ b. give_stays (of_bool (eqb b 1)))
scalar_stays tags.I8 is = then_stays (signed w8) (signed w8) (λ n. give (of_i8 n)) (λ n. give (of_i8 n)) (signed_stays w8 wide_8) (λ n. give_stays (of_i8 n))
scalar_stays tags.I16 is = then_stays (signed w16) (signed w16) (λ n. give (of_i16 n)) (λ n. give (of_i16 n)) (signed_stays w16 wide_16) (λ n. give_stays (of_i16 n))
scalar_stays tags.I32 is = then_stays (signed w32) (signed w32) (λ n. give (of_i32 n)) (λ n. give (of_i32 n)) (signed_stays w32 wide_32) (λ n. give_stays (of_i32 n))
scalar_stays tags.I64 is = then_stays (signed w64) (signed w64) (λ n. give (of_i64 n)) (λ n. give (of_i64 n)) (signed_stays w64 wide_64) (λ n. give_stays (of_i64 n))
scalar_stays tags.Double is = then_stays (unsigned w64) (unsigned w64) (λ n. give (of_double n)) (λ n. give (of_double n)) (unsigned_stays w64 wide_64) (λ n. give_stays (of_double n))
scalar_stays tags.Uuid is = then_stays (unsigned w128) (unsigned w128) (λ n. give (of_uuid n)) (λ n. give (of_uuid n)) (unsigned_stays w128 wide_128) (λ n. give_stays (of_uuid n))
scalar_stays tag is = absurd is

-- ---- lengths and sizes

unsigned_size_stays : (z : ℤ) → StaysAs (unsigned_size z) (unsigned_size z)
unsigned_size_stays (pos n) = give_stays n
unsigned_size_stays (negsuc n) = fail_stays BadSize

size_stays : StaysAs binary_size binary_size
unfolding binary_size
size_stays =
    let room : ℤ → Unread → Result (ℕ × Unread) WireFault = λ z. unsigned_size z >>= λ size. within_room size in
    then_stays (signed w32) (signed w32) room room (signed_stays w32 wide_32) (λ z.
    then_stays (unsigned_size z) (unsigned_size z) (λ size. within_room size) (λ size. within_room size) (unsigned_size_stays z) (λ size. room_stays size))

span_stays : StaysAs binary_span binary_span
unfolding binary_span
span_stays = then_stays binary_size binary_size (λ size. some_bytes size) (λ size. some_bytes size) size_stays (λ size. some_stay size)

-- ---- headers of containers

abbrev items_of_tag : ℕ → Tag → Unread → Result ((Tag × ℕ) × Unread) WireFault
items_of_tag size tag = give (tag, size)

items_stay_if : (b : Bool) (code size : ℕ)
    → StaysAs (cond b (give (tags.Bool, size)) (tag_coded code >>= items_of_tag size)) (cond b (give (tags.Bool, size)) (tag_coded code >>= items_of_tag size))
items_stay_if true code size = give_stays (tags.Bool, size)
items_stay_if false code size = then_stays (tag_coded code) (tag_coded code) (items_of_tag size) (items_of_tag size) (tag_stays code) (λ tag. give_stays (tag, size))

items_stay : StaysAs binary_items binary_items
unfolding binary_items
items_stay =
    let sizes : ℕ → Unread → Result ((Tag × ℕ) × Unread) WireFault = λ code. binary_size >>= λ size. items_coded code size in
    then_stays byte byte sizes sizes byte_stays (λ code.
    then_stays binary_size binary_size (λ size. items_coded code size) (λ size. items_coded code size) size_stays (λ size. items_stay_if (eqb size 0) code size))

abbrev pairs_of_key : ℕ → ℕ → Tag → Unread → Result ((Tag × Tag × ℕ) × Unread) WireFault
pairs_of_key value size key_tag = tag_coded value >>= λ value_tag. give (key_tag, value_tag, size)

pairs_stay_if : (b : Bool) (key value size : ℕ)
    → StaysAs (cond b (give (tags.Bool, tags.Bool, size)) (tag_coded key >>= pairs_of_key value size)) (cond b (give (tags.Bool, tags.Bool, size)) (tag_coded key >>= pairs_of_key value size))
pairs_stay_if true key value size = give_stays (tags.Bool, tags.Bool, size)
pairs_stay_if false key value size =
    then_stays (tag_coded key) (tag_coded key) (pairs_of_key value size) (pairs_of_key value size) (tag_stays key) (λ k.
    then_stays (tag_coded value) (tag_coded value) (λ v. give (k, v, size)) (λ v. give (k, v, size)) (tag_stays value) (λ v. give_stays (k, v, size)))

pairs_stay : StaysAs binary_pairs binary_pairs
unfolding binary_pairs
pairs_stay =
    let sizes : ℕ → ℕ → Unread → Result ((Tag × Tag × ℕ) × Unread) WireFault = λ key value. binary_size >>= λ size. pairs_coded key value size in
    let values : ℕ → Unread → Result ((Tag × Tag × ℕ) × Unread) WireFault = λ key. byte >>= sizes key in
    then_stays byte byte values values byte_stays (λ key.
    then_stays byte byte (sizes key) (sizes key) byte_stays (λ value.
    then_stays binary_size binary_size (λ size. pairs_coded key value size) (λ size. pairs_coded key value size) size_stays (λ size. pairs_stay_if (eqb size 0) key value size)))

pub parts_stay : ArePartsStable binary
parts_stay = record { field = field_stays; scalar = scalar_stays; span = span_stays; items = items_stay; pairs = pairs_stay }
