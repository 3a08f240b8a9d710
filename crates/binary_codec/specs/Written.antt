-- What is written of the parts of a value in the binary protocol.
use Rattle.std.specs.Prelude.{ℕ, ℤ, true, false, List, [], ◌∷◌, ◌++◌, length}
use Rattle.std.specs.Int.{w8, w16, w32, w64, w128}
use Rattle.wire_num.specs.Fixed.{unsigned_bytes, signed_bytes}
use Rattle.thrift_value.specs.declared.tag.Tag.{Tag}
use Rattle.thrift_value.specs.Tree.{Tree, of_bool, of_i8, of_i16, of_i32, of_i64, of_double, of_uuid}
use Rattle.wire_model.specs.Wire.{FieldHeader, stop, typed, flagged}
use Rattle.wire_model.specs.Encoder.{Encoder}
use Rattle.binary_codec.specs.Codes.{code_of}

-- a header; that of a field with its value in it isn't written
abbrev pub header_text : ℤ → FieldHeader → List ℕ
header_text last stop = 0 ∷ []
header_text last (typed id tag) = code_of tag ∷ signed_bytes w16 id
header_text last (flagged id flag) = []

-- a number or a bool, a bool as 0 or 1; a uuid is its sixteen bytes, the highest first
abbrev pub scalar_text : Tree → List ℕ
scalar_text (of_bool true) = 1 ∷ []
scalar_text (of_bool false) = 0 ∷ []
scalar_text (of_i8 n) = signed_bytes w8 n
scalar_text (of_i16 n) = signed_bytes w16 n
scalar_text (of_i32 n) = signed_bytes w32 n
scalar_text (of_i64 n) = signed_bytes w64 n
scalar_text (of_double n) = unsigned_bytes w64 n
scalar_text (of_uuid n) = unsigned_bytes w128 n
scalar_text _ = []

-- a length and the bytes
abbrev pub span_text : List ℕ → List ℕ
span_text bytes = unsigned_bytes w32 (length bytes) ++ bytes

-- the header of a container, with the codes of the tags that it names
abbrev pub items_header : Tag → ℕ → List ℕ
items_header tag count = code_of tag ∷ unsigned_bytes w32 count

-- the header of a map, with the codes of the tags of its keys and its values
abbrev pub pairs_header : Tag → Tag → ℕ → List ℕ
pairs_header key value count = code_of key ∷ code_of value ∷ unsigned_bytes w32 count

-- what is written of all parts
abbrev pub binary_encoder : Encoder
binary_encoder =
    record { flags = false; header = header_text; scalar = scalar_text; span = span_text; items = items_header; pairs = pairs_header }
