-- How the binary protocol reads the parts of a value that hold no other values.
use Rattle.std.specs.Prelude.{ℕ, ℤ, pos, negsuc, List, ◌==◌, if◌then◌else◌}
use Rattle.std.specs.Int.{Width, w8, w16, w32, w64, w128}
use Rattle.wire_num.specs.Decoding.{decode_unsigned, decode_signed}
use Rattle.thrift_value.specs.declared.tag.Tag.{Tag}
use Rattle.thrift_value.specs.declared.tag.Tag.TheVariants as tags
use Rattle.thrift_value.specs.declared.wire_fault.WireFault.TheVariants.{Short, BadSize}
use Rattle.thrift_value.specs.Tree.{Tree, of_bool, of_i8, of_i16, of_i32, of_i64, of_double, of_uuid}
use Rattle.wire_model.specs.Decoder.{Decoder, ◌>>=◌, give, fail, uncounted}
use Rattle.wire_model.specs.Pieces.{byte, some_bytes, tag_or_fault, within_room}
use Rattle.wire_model.specs.Wire.{FieldHeader, stop, typed, Wire}
use Rattle.binary_codec.specs.Codes.{tag_of_code}

-- a number of a width; it is no value of its own
abbrev pub unsigned : Width → Decoder ℕ
unsigned width unread = uncounted (decode_unsigned width) unread

-- the same as two's complement
abbrev pub signed : Width → Decoder ℤ
signed width unread = uncounted (decode_signed width) unread

-- the tag of a code that was read
unfoldable pub tag_coded : ℕ → Decoder Tag
tag_coded code = tag_or_fault code (tag_of_code code)

-- a header behind any field: 0, or a type code and an id (Thrift binary protocol, 'Struct')
abbrev pub header_coded : ℕ → Decoder FieldHeader
header_coded code =
    if code == 0 then give stop
    else do
      tag ← tag_coded code
      id ← signed w16
      give (typed id tag)

-- a header behind any field; the field before makes no difference
unfoldable pub binary_field : ℤ → Decoder FieldHeader
binary_field last = do
  code ← byte
  header_coded code

-- a number or a bool (Thrift binary protocol, 'Integer encoding', 'Double encoding', 'Boolean encoding'). Own choice: a byte
-- that is neither 0 nor 1 is false, and a uuid is sixteen bytes, the highest first
unfoldable pub binary_scalar : Tag → Decoder Tree
binary_scalar tags.Bool = do
  b ← byte
  give (of_bool (b == 1))
binary_scalar tags.I8 = do
  n ← signed w8
  give (of_i8 n)
binary_scalar tags.I16 = do
  n ← signed w16
  give (of_i16 n)
binary_scalar tags.I32 = do
  n ← signed w32
  give (of_i32 n)
binary_scalar tags.I64 = do
  n ← signed w64
  give (of_i64 n)
binary_scalar tags.Double = do
  n ← unsigned w64
  give (of_double n)
binary_scalar tags.Uuid = do
  n ← unsigned w128
  give (of_uuid n)
binary_scalar tag = fail Short

-- a length that isn't negative, or BadSize
abbrev pub unsigned_size : ℤ → Decoder ℕ
unsigned_size (pos n) = give n
unsigned_size (negsuc n) = fail BadSize

-- a length or size. Own choice: BadSize comes before Short, and no more is announced than the bytes that are left
unfoldable pub binary_size : Decoder ℕ
binary_size = do
  n ← signed w32
  size ← unsigned_size n
  within_room size

-- a length and that many bytes (Thrift binary protocol, 'Binary encoding')
unfoldable pub binary_span : Decoder (List ℕ)
binary_span = do
  size ← binary_size
  some_bytes size

-- the tag of the elements of a container. Own choice: that of an empty one is bool, whatever its code is
abbrev pub items_coded : ℕ → ℕ → Decoder (Tag × ℕ)
items_coded code size =
    if size == 0 then give (tags.Bool, size)
    else do
      tag ← tag_coded code
      give (tag, size)

-- the tags of the keys and of the values of a map, alike
abbrev pub pairs_coded : ℕ → ℕ → ℕ → Decoder (Tag × Tag × ℕ)
pairs_coded key value size =
    if size == 0 then give (tags.Bool, tags.Bool, size)
    else do
      key_tag ← tag_coded key
      value_tag ← tag_coded value
      give (key_tag, value_tag, size)

-- the header of a list or set (Thrift binary protocol, 'List and Set')
unfoldable pub binary_items : Decoder (Tag × ℕ)
binary_items = do
  code ← byte
  size ← binary_size
  items_coded code size

-- the header of a map (Thrift binary protocol, 'Map')
unfoldable pub binary_pairs : Decoder (Tag × Tag × ℕ)
binary_pairs = do
  key ← byte
  value ← byte
  size ← binary_size
  pairs_coded key value size

-- the parts of a value together
abbrev pub binary : Wire
binary = record { field = binary_field; scalar = binary_scalar; span = binary_span; items = binary_items; pairs = binary_pairs }
