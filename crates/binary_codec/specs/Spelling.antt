-- Which bytes stand for the parts of a value in the binary protocol.
use Rattle.std.specs.Prelude.{◌≡◌, ◌<◌, ◌^◌, ℕ, zero, suc, ℤ, true, false, List, [], ◌∷◌, ◌++◌, length, FitsSigned}
use Rattle.std.specs.Int.{w8, w16, w32, w64, w128}
use Rattle.wire_num.specs.Fixed.{unsigned_bytes, signed_bytes}
use Rattle.thrift_value.specs.declared.tag.Tag.{Tag}
use Rattle.thrift_value.specs.declared.tag.Tag.TheVariants as tags
use Rattle.thrift_value.specs.Tree.{Tree, of_bool, of_i8, of_i16, of_i32, of_i64, of_double, of_uuid}
use Rattle.wire_model.specs.Wire.{FieldHeader, stop, typed, flagged}
use Rattle.wire_model.specs.Format.{Format}
use Rattle.wire_num.specs.Encoded.{AreByteSized}
use Rattle.binary_codec.specs.Codes.{code_of}
use Rattle.binary_codec.specs.Faults.{binary_faults}

-- the end of a struct, or a type code and an id (Thrift binary protocol, 'Struct'); no header has a value
abbrev pub IsHeader : ℤ → FieldHeader → List ℕ → Type 0
IsHeader last stop text = text ≡ 0 ∷ []
IsHeader last (typed id tag) text = FitsSigned w16 id × (text ≡ code_of tag ∷ signed_bytes w16 id)
IsHeader last (flagged id flag) text = ⊥

-- a number or a bool (Thrift binary protocol, 'Integer encoding', 'Double encoding', 'Boolean encoding'): true is the
-- byte 1, and 0 is false. Own choice: every other byte is false too, and a uuid is its sixteen bytes, the highest first
abbrev pub IsScalarText : Tree → List ℕ → Type 0
IsScalarText (of_bool true) text = text ≡ 1 ∷ []
IsScalarText (of_bool false) text = (b : ℕ) × (b < 256) × (b ≡ 1 → ⊥) × (text ≡ b ∷ [])
IsScalarText (of_i8 n) text = FitsSigned w8 n × (text ≡ signed_bytes w8 n)
IsScalarText (of_i16 n) text = FitsSigned w16 n × (text ≡ signed_bytes w16 n)
IsScalarText (of_i32 n) text = FitsSigned w32 n × (text ≡ signed_bytes w32 n)
IsScalarText (of_i64 n) text = FitsSigned w64 n × (text ≡ signed_bytes w64 n)
IsScalarText (of_double n) text = (n < 2 ^ 64) × (text ≡ unsigned_bytes w64 n)
IsScalarText (of_uuid n) text = (n < 2 ^ 128) × (text ≡ unsigned_bytes w128 n)
IsScalarText _ text = ⊥

-- a length and that many bytes (Thrift binary protocol, 'Binary encoding')
pub record IsSpan (bytes text : List ℕ) : Type 0 where
  pub size : length bytes < 2 ^ 31
  pub each : AreByteSized bytes
  pub whole : text ≡ unsigned_bytes w32 (length bytes) ++ bytes

-- the code of the elements' tag. Own choice: an empty container has any code, and the tag bool
abbrev pub IsElementCode : Tag → ℕ → ℕ → Type 0
IsElementCode tag zero code = (tag ≡ tags.Bool) × (code < 256)
IsElementCode tag (suc _) code = code ≡ code_of tag

-- the header of a list or set: type code and size (Thrift binary protocol, 'List and Set')
pub record IsItems (tag : Tag) (count : ℕ) (text : List ℕ) : Type 0 where
  pub code : ℕ
  pub coded : IsElementCode tag count code
  pub size : count < 2 ^ 31
  pub whole : text ≡ code ∷ unsigned_bytes w32 count

-- the header of a map: type code of the keys, type code of the values, and size (Thrift binary protocol, 'Map')
pub record IsPairs (key value : Tag) (count : ℕ) (text : List ℕ) : Type 0 where
  pub key_code : ℕ
  pub value_code : ℕ
  pub key_coded : IsElementCode key count key_code
  pub value_coded : IsElementCode value count value_code
  pub size : count < 2 ^ 31
  pub whole : text ≡ key_code ∷ value_code ∷ unsigned_bytes w32 count

-- the spellings of all parts, and their first faults
abbrev pub binary_format : Format
binary_format = record { header = IsHeader; scalar = IsScalarText; span = IsSpan; items = IsItems; pairs = IsPairs; faults = binary_faults }
