-- What is written of the parts of a value in the compact protocol: varints in their shortest form.
use Rattle.std.specs.Prelude.{◌+◌, ◌*◌, ◌-ℤ◌, ℕ, ℤ, pos, negsuc, true, List, [], ◌∷◌, ◌++◌, length, ◌==◌, nat_lt, if◌then◌else◌}
use Rattle.std.specs.Int.{w8, w32, w64, w128}
use Rattle.wire_num.specs.Fixed.{unsigned_bytes, signed_bytes}
use Rattle.wire_num.specs.LowFirst.{low_first_bytes}
use Rattle.wire_num.specs.Varint.{varint_bytes}
use Rattle.wire_num.specs.Zigzag.{zigzag}
use Rattle.thrift_value.specs.declared.tag.Tag.{Tag}
use Rattle.thrift_value.specs.Tree.{Tree, of_bool, of_i8, of_i16, of_i32, of_i64, of_double, of_uuid}
use Rattle.wire_model.specs.Wire.{FieldHeader, stop, typed, flagged}
use Rattle.wire_model.specs.Encoder.{Encoder}
use Rattle.compact_codec.specs.Codes.{flag_code, compact_code}

-- a distance that a header's byte has room for; any other is 0
abbrev pub short_delta : ℤ → ℕ
short_delta (pos n) = if nat_lt n 16 then n else 0
short_delta (negsuc n) = 0

-- a header with this code and delta: behind the delta 0 stands the id
abbrev pub heading_with : ℕ → ℤ → ℕ → List ℕ
heading_with code id delta = if delta == 0 then code ∷ varint_bytes w32 (zigzag id) else (16 * delta + code) ∷ []

-- a header with this code behind the field `last`: with a delta exactly where the id is 1 to 15 above
abbrev pub heading_bytes : ℕ → ℤ → ℤ → List ℕ
heading_bytes code last id = heading_with code id (short_delta (id -ℤ last))

-- a header
abbrev pub compact_header : ℤ → FieldHeader → List ℕ
compact_header last stop = 0 ∷ []
compact_header last (typed id tag) = heading_bytes (compact_code tag) last id
compact_header last (flagged id flag) = heading_bytes (flag_code flag) last id

-- a number or a bool, a bool as 1 or 2; a uuid is its sixteen bytes, the highest first
abbrev pub compact_scalar_text : Tree → List ℕ
compact_scalar_text (of_bool flag) = flag_code flag ∷ []
compact_scalar_text (of_i8 n) = signed_bytes w8 n
compact_scalar_text (of_i16 n) = varint_bytes w32 (zigzag n)
compact_scalar_text (of_i32 n) = varint_bytes w32 (zigzag n)
compact_scalar_text (of_i64 n) = varint_bytes w64 (zigzag n)
compact_scalar_text (of_double n) = low_first_bytes w64 n
compact_scalar_text (of_uuid n) = unsigned_bytes w128 n
compact_scalar_text _ = []

-- a length and the bytes
abbrev pub compact_span_text : List ℕ → List ℕ
compact_span_text bytes = varint_bytes w32 (length bytes) ++ bytes

-- the header of a container: a size below 15 stands in the byte
abbrev pub compact_items_header : Tag → ℕ → List ℕ
compact_items_header tag count =
    if nat_lt count 15 then (16 * count + compact_code tag) ∷ [] else (240 + compact_code tag) ∷ varint_bytes w32 count

-- the header of a map; that of an empty one is the byte 0
abbrev pub compact_pairs_header : Tag → Tag → ℕ → List ℕ
compact_pairs_header key value count =
    if count == 0 then 0 ∷ [] else varint_bytes w32 count ++ (16 * compact_code key + compact_code value) ∷ []

-- what is written of all parts
abbrev pub compact_encoder : Encoder
compact_encoder =
    record { flags = true; header = compact_header; scalar = compact_scalar_text; span = compact_span_text; items = compact_items_header; pairs = compact_pairs_header }
