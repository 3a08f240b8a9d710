-- Which bytes stand for the parts of a value in the compact protocol.
use Rattle.std.specs.Prelude.{◌≡◌, ◌<◌, ◌+◌, ◌*◌, ◌^◌, ◌+ℤ◌, ℕ, zero, suc, ℤ, pos, true, false, List, [], ◌∷◌, ◌++◌, length, FitsSigned}
use Rattle.std.specs.Int.{w8, w16, w32, w64, w128}
use Rattle.wire_num.specs.Encoded.{AreByteSized}
use Rattle.wire_num.specs.Fixed.{IsUnsigned, IsSigned}
use Rattle.wire_num.specs.LowFirst.{IsLowFirst}
use Rattle.wire_num.specs.Varint.{IsVarint}
use Rattle.thrift_value.specs.declared.tag.Tag.{Tag}
use Rattle.thrift_value.specs.declared.tag.Tag.TheVariants as tags
use Rattle.thrift_value.specs.Tree.{Tree, of_bool, of_i8, of_i16, of_i32, of_i64, of_double, of_uuid}
use Rattle.wire_model.specs.Wire.{FieldHeader, stop, typed, flagged}
use Rattle.wire_model.specs.Format.{Format}
use Rattle.compact_codec.specs.Codes.{flag_code, compact_code, IsCompactCode}
use Rattle.compact_codec.specs.Faults.{IsSizedHeader, compact_faults}
use Rattle.compact_codec.specs.Numbers.{IsShort, IsZigzag}

-- the id by a header's delta, and what stands behind its byte: a number of its own behind the delta 0, and nothing behind any
-- other, by which the id is above that of the field before
abbrev pub IsIdBy : ℤ → ℤ → ℕ → List ℕ → Type 0
IsIdBy last id zero behind = IsShort id behind
IsIdBy last id (suc n) behind = (suc n < 16) × (id ≡ last +ℤ pos (suc n)) × FitsSigned w16 id × (behind ≡ [])

-- a header with this code: a byte of a delta and the code, and maybe an id
pub record IsHeading (last id : ℤ) (code : ℕ) (text : List ℕ) : Type 0 where
  pub delta : ℕ
  pub behind : List ℕ
  pub id_by : IsIdBy last id delta behind
  pub whole : text ≡ (16 * delta + code) ∷ behind

-- the end of a struct, or the header of a field; that of a bool has its value (Thrift compact protocol, 'Struct')
abbrev pub IsCompactHeader : ℤ → FieldHeader → List ℕ → Type 0
IsCompactHeader last stop text = text ≡ 0 ∷ []
IsCompactHeader last (typed id tags.Bool) text = ⊥
IsCompactHeader last (typed id tag) text = IsHeading last id (compact_code tag) text
IsCompactHeader last (flagged id flag) text = IsHeading last id (flag_code flag) text

-- a number or a bool (Thrift compact protocol, 'Integer encoding', 'Double encoding', 'Boolean encoding'): true is the byte 1,
-- and 2 is false. Own choice: every other byte is false too, and a uuid is its sixteen bytes, the highest first
abbrev pub IsCompactScalar : Tree → List ℕ → Type 0
IsCompactScalar (of_bool true) text = text ≡ 1 ∷ []
IsCompactScalar (of_bool false) text = (b : ℕ) × (b < 256) × (b ≡ 1 → ⊥) × (text ≡ b ∷ [])
IsCompactScalar (of_i8 n) text = IsSigned w8 n text
IsCompactScalar (of_i16 n) text = IsShort n text
IsCompactScalar (of_i32 n) text = IsZigzag w32 n text
IsCompactScalar (of_i64 n) text = IsZigzag w64 n text
IsCompactScalar (of_double n) text = IsLowFirst w64 n text
IsCompactScalar (of_uuid n) text = IsUnsigned w128 n text
IsCompactScalar _ text = ⊥

-- a length and that many bytes (Thrift compact protocol, 'Binary encoding')
pub record IsCompactSpan (bytes text : List ℕ) : Type 0 where
  pub sized : List ℕ
  pub len : IsVarint w32 (length bytes) sized
  pub size : length bytes < 2 ^ 31
  pub each : AreByteSized bytes
  pub whole : text ≡ sized ++ bytes

-- the code of the elements' tag. Own choice: an empty container has any code, and the tag bool
abbrev pub IsElementHalf : Tag → ℕ → ℕ → Type 0
IsElementHalf tag zero code = (tag ≡ tags.Bool) × (code < 16)
IsElementHalf tag (suc _) code = IsCompactCode tag code

-- the header of a list or set: size and code in a byte, or a byte with the code and the size behind it; any size may stand
-- behind (Thrift compact protocol, 'List and Set')
pub record IsCompactItems (tag : Tag) (count : ℕ) (text : List ℕ) : Type 0 where
  pub code : ℕ
  pub coded : IsElementHalf tag count code
  pub size : count < 2 ^ 31
  pub header : IsSizedHeader code count text

-- the header of a map that isn't empty: the size, and a byte with the codes of the keys and of the values
pub record IsFullMap (key value : Tag) (count : ℕ) (text : List ℕ) : Type 0 where
  pub sized : List ℕ
  pub key_code : ℕ
  pub value_code : ℕ
  pub len : IsVarint w32 count sized
  pub key_coded : IsCompactCode key key_code
  pub value_coded : IsCompactCode value value_code
  pub size : count < 2 ^ 31
  pub whole : text ≡ sized ++ (16 * key_code + value_code) ∷ []

-- the header of a map: that of an empty one is its size alone (Thrift compact protocol, 'Map')
abbrev pub IsCompactPairs : Tag → Tag → ℕ → List ℕ → Type 0
IsCompactPairs key value zero text = (key ≡ tags.Bool) × (value ≡ tags.Bool) × IsVarint w32 zero text
IsCompactPairs key value (suc n) text = IsFullMap key value (suc n) text

-- the spellings of all parts, and their first faults
abbrev pub compact_format : Format
compact_format =
    record { header = IsCompactHeader; scalar = IsCompactScalar; span = IsCompactSpan; items = IsCompactItems; pairs = IsCompactPairs; faults = compact_faults }
