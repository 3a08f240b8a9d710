-- What a protocol reads by itself: the parts of a value that hold no other values.
use Rattle.std.specs.Prelude.{⊤, ℕ, ℤ, Bool, true, false, List}
use Rattle.thrift_value.specs.declared.tag.Tag.{Tag}
use Rattle.thrift_value.specs.declared.tag.Tag.TheVariants as tags
use Rattle.thrift_value.specs.Tree.{Tree}
use Rattle.wire_model.specs.Decoder.{Decoder}

-- what stands before a field of a struct: the end of the struct, the id and the tag of a field whose value follows, or
-- the id and the value of a bool field that has its value in the header (the flagged header: Thrift compact protocol, 'Struct')
pub data FieldHeader : Type 0 where
  stop : FieldHeader
  typed : ℤ → Tag → FieldHeader
  flagged : ℤ → Bool → FieldHeader

-- the readers of a protocol; field takes the id of the field before, 0 at the first
pub record Wire : Type 0 where
  pub field : ℤ → Decoder FieldHeader
  pub scalar : Tag → Decoder Tree
  pub span : Decoder (List ℕ)
  pub items : Decoder (Tag × ℕ)
  pub pairs : Decoder (Tag × Tag × ℕ)

-- the kinds of values that are neither bytes nor hold other values
abbrev pub IsScalar : Tag → Type 0
IsScalar tags.Bytes = ⊥
IsScalar tags.Struct = ⊥
IsScalar tags.Map = ⊥
IsScalar tags.Set = ⊥
IsScalar tags.List = ⊥
IsScalar _ = ⊤

-- whether this is the tag of bools
abbrev pub is_bool_tag : Tag → Bool
is_bool_tag tags.Bool = true
is_bool_tag _ = false
