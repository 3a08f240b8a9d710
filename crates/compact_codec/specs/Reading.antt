-- How the compact protocol reads the parts of a value that hold no other values.
use Rattle.std.specs.Prelude.{◌/◌, ◌%◌, ◌^◌, ◌+ℤ◌, ℕ, ℤ, pos, negsuc, List, ◌==◌, nat_lt, if◌then◌else◌}
use Rattle.std.specs.Int.{Width, w8, w32, w64, w128}
use Rattle.wire_num.specs.Decoding.{decode_unsigned, decode_signed}
use Rattle.wire_num.specs.LowFirst.{decode_low_first}
use Rattle.wire_num.specs.Varint.{decode_varint}
use Rattle.thrift_value.specs.declared.tag.Tag.{Tag}
use Rattle.thrift_value.specs.declared.tag.Tag.TheVariants as tags
use Rattle.thrift_value.specs.declared.wire_fault.WireFault.TheVariants.{Short, BadSize, FieldRange}
use Rattle.thrift_value.specs.Tree.{Tree, of_bool, of_i8, of_i16, of_i32, of_i64, of_double, of_uuid}
use Rattle.wire_model.specs.Decoder.{Decoder, ◌>>=◌, give, fail, uncounted}
use Rattle.wire_model.specs.Pieces.{byte, some_bytes, within_room, tag_or_fault}
use Rattle.wire_model.specs.Wire.{FieldHeader, stop, typed, flagged, Wire}
use Rattle.compact_codec.specs.Codes.{compact_tag}
use Rattle.compact_codec.specs.Numbers.{decode_zigzag, decode_short}

-- a number of 8 bits; it is no value of its own
abbrev pub compact_i8 : Decoder ℤ
compact_i8 unread = uncounted (decode_signed w8) unread

-- a number of 16 bits
abbrev pub compact_i16 : Decoder ℤ
compact_i16 unread = uncounted decode_short unread

-- a number of 32 or 64 bits
abbrev pub compact_signed : Width → Decoder ℤ
compact_signed width unread = uncounted (decode_zigzag width) unread

-- the 64 bits of a double
abbrev pub compact_double : Decoder ℕ
compact_double unread = uncounted (decode_low_first w64) unread

-- the 128 bits of a uuid. Own choice: the highest byte comes first
abbrev pub compact_uuid : Decoder ℕ
compact_uuid unread = uncounted (decode_unsigned w128) unread

-- an unsigned number of 32 bits
abbrev pub compact_unsigned : Decoder ℕ
compact_unsigned unread = uncounted (decode_varint w32) unread

-- the tag of a code that was read
unfoldable pub tag_in_half : ℕ → Decoder Tag
tag_in_half code = tag_or_fault code (compact_tag code)

-- an id that a short header has, or FieldRange: it is above every id
abbrev pub id_in_range : ℤ → Decoder ℤ
id_in_range (pos n) = if nat_lt n (2 ^ 15) then give (pos n) else fail FieldRange
id_in_range (negsuc n) = give (negsuc n)

-- the id of a field: so much above that of the field before, or, where this is 0, a number of its own
abbrev pub id_by_delta : ℤ → ℕ → Decoder ℤ
id_by_delta last delta = if delta == 0 then compact_i16 else id_in_range (last +ℤ pos delta)

-- a header of this code: a bool has its value in it
abbrev pub header_by : ℕ → Tag → ℤ → FieldHeader
header_by code tags.Bool id = flagged id (code == 1)
header_by code tag id = typed id tag

-- a header by its first byte: 0, or a delta and a code, each half of the byte
abbrev pub header_in_byte : ℤ → ℕ → Decoder FieldHeader
header_in_byte last b =
    if b == 0 then give stop
    else do
      tag ← tag_in_half (b % 16)
      id ← id_by_delta last (b / 16)
      give (header_by (b % 16) tag id)

-- a header behind the field `last` (Thrift compact protocol, 'Struct')
unfoldable pub compact_field : ℤ → Decoder FieldHeader
compact_field last = do
  b ← byte
  header_in_byte last b

-- a number or a bool (Thrift compact protocol, 'Integer encoding', 'Double encoding', 'Boolean encoding'). Own choice: every byte
-- but 1 is false
unfoldable pub compact_scalar : Tag → Decoder Tree
compact_scalar tags.Bool = do
  b ← byte
  give (of_bool (b == 1))
compact_scalar tags.I8 = do
  n ← compact_i8
  give (of_i8 n)
compact_scalar tags.I16 = do
  n ← compact_i16
  give (of_i16 n)
compact_scalar tags.I32 = do
  n ← compact_signed w32
  give (of_i32 n)
compact_scalar tags.I64 = do
  n ← compact_signed w64
  give (of_i64 n)
compact_scalar tags.Double = do
  n ← compact_double
  give (of_double n)
compact_scalar tags.Uuid = do
  n ← compact_uuid
  give (of_uuid n)
compact_scalar tag = fail Short

-- a length or size below 2^31, or BadSize; and no more than the bytes that are left
abbrev pub size_in_range : ℕ → Decoder ℕ
size_in_range n = if nat_lt n (2 ^ 31) then within_room n else fail BadSize

-- a length or size. Own choice: BadSize comes before Short
unfoldable pub compact_size : Decoder ℕ
compact_size = do
  n ← compact_unsigned
  size_in_range n

-- a length and that many bytes (Thrift compact protocol, 'Binary encoding')
unfoldable pub compact_span : Decoder (List ℕ)
compact_span = do
  size ← compact_size
  some_bytes size

-- the size that a header's byte has, or, where that is 15, the number behind it
abbrev pub items_size : ℕ → Decoder ℕ
items_size size = if size == 15 then compact_size else within_room size

-- the tag of the elements of a container. Own choice: that of an empty one is bool, whatever its code is
abbrev pub items_in_half : ℕ → ℕ → Decoder (Tag × ℕ)
items_in_half code size =
    if size == 0 then give (tags.Bool, size)
    else do
      tag ← tag_in_half code
      give (tag, size)

-- a header by its byte: a size and a code, each half of the byte
abbrev pub items_in_byte : ℕ → Decoder (Tag × ℕ)
items_in_byte b = do
  size ← items_size (b / 16)
  items_in_half (b % 16) size

-- the header of a list or set (Thrift compact protocol, 'List and Set')
unfoldable pub compact_items : Decoder (Tag × ℕ)
compact_items = do
  b ← byte
  items_in_byte b

-- the tags of the keys and of the values of a map: the halves of a byte
abbrev pub pairs_in_byte : ℕ → ℕ → Decoder (Tag × Tag × ℕ)
pairs_in_byte size b = do
  key ← tag_in_half (b / 16)
  value ← tag_in_half (b % 16)
  give (key, value, size)

-- the tags of a map of this size; an empty one tells none, and they are bool
abbrev pub pairs_of_size : ℕ → Decoder (Tag × Tag × ℕ)
pairs_of_size size =
    if size == 0 then give (tags.Bool, tags.Bool, size)
    else do
      b ← byte
      pairs_in_byte size b

-- the header of a map (Thrift compact protocol, 'Map')
unfoldable pub compact_pairs : Decoder (Tag × Tag × ℕ)
compact_pairs = do
  size ← compact_size
  pairs_of_size size

-- the parts of a value together
abbrev pub compact : Wire
compact = record { field = compact_field; scalar = compact_scalar; span = compact_span; items = compact_items; pairs = compact_pairs }
