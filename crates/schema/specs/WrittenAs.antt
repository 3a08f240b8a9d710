-- Which values may be written under a type.
use Rattle.std.specs.Prelude.{◌≡◌, ⊤, ℤ, List, All, MatchOption, ◌⊎◌, Option}
use Rattle.std.specs.List.{slice_get, find}
use Rattle.std.specs.Ordering.{int_eq}
use Rattle.thrift_value.specs.Sizes.{HasSmallSizes}
use Rattle.thrift_value.specs.Tree.{Tree, of_bool, of_i8, of_i16, of_i32, of_i64, of_double, of_bytes, of_struct, of_map, of_set, of_list, of_uuid, FieldTrees, no_fields, field, ItemTrees, no_items, item, PairTrees, no_pairs, pair}
use Rattle.schema.specs.declared.types.FieldNeed.TheVariants.{Required}
use Rattle.schema.specs.declared.types.FieldsKind.TheVariants.{Union}
use Rattle.schema.specs.PlainKind.{PlainKind, kind_bool, kind_i8, kind_i16, kind_i32, kind_i64, kind_double, kind_text, kind_binary, kind_uuid, kind_enum, kind_struct, kind_map, kind_set, kind_list}
use Rattle.schema.specs.PlainSchema.{PlainField, PlainStruct}

-- the first of the fields that has this id
abbrev pub field_with_id : ℤ → List PlainField → Option PlainField
field_with_id id fields = find (λ (f : PlainField). int_eq f.id id) fields

-- one of a value's fields has this id
abbrev pub HasFieldTree : ℤ → FieldTrees → Type 0
HasFieldTree id no_fields = ⊥
HasFieldTree id (field next _ more) = (next ≡ id) ⊎ HasFieldTree id more

-- exactly one field is there
abbrev pub IsOneField : FieldTrees → Type 0
IsOneField (field _ _ no_fields) = ⊤
IsOneField _ = ⊥

-- each required field is there, and of a union exactly one
pub record HasItsFields (s : PlainStruct) (fields : FieldTrees) : Type 0 where
  pub required : All (λ (f : PlainField). f.need ≡ Required → HasFieldTree f.id fields) s.fields
  pub of_union : s.kind ≡ Union → IsOneField fields

abbrev mutual
  -- a value under a type: a base type's own kind of value, an enum as a number of 32 bits, a struct whose fields are declared and
  -- written under their types, with none missing that has to be there, and a container whose elements are written under theirs; an
  -- empty container may name any tags
  pub IsWrittenAs : List PlainStruct → PlainKind → Tree → Type 0
  IsWrittenAs structs kind_bool (of_bool _) = ⊤
  IsWrittenAs structs kind_i8 (of_i8 _) = ⊤
  IsWrittenAs structs kind_i16 (of_i16 _) = ⊤
  IsWrittenAs structs kind_i32 (of_i32 _) = ⊤
  IsWrittenAs structs kind_i64 (of_i64 _) = ⊤
  IsWrittenAs structs kind_double (of_double _) = ⊤
  IsWrittenAs structs kind_text (of_bytes _) = ⊤
  IsWrittenAs structs kind_binary (of_bytes _) = ⊤
  IsWrittenAs structs kind_uuid (of_uuid _) = ⊤
  IsWrittenAs structs (kind_enum _) (of_i32 _) = ⊤
  IsWrittenAs structs (kind_struct which) (of_struct fields) =
      MatchOption (slice_get structs which) ⊥ (λ s. HasItsFields s fields × AreFieldsWrittenAs structs s.fields fields)
  IsWrittenAs structs (kind_map key value) (of_map _ _ pairs) = ArePairsWrittenAs structs key value pairs
  IsWrittenAs structs (kind_set member) (of_set _ items) = AreItemsWrittenAs structs member items
  IsWrittenAs structs (kind_list element) (of_list _ items) = AreItemsWrittenAs structs element items
  IsWrittenAs structs _ _ = ⊥

  -- each field has an id that is declared, and is written under its type
  pub AreFieldsWrittenAs : List PlainStruct → List PlainField → FieldTrees → Type 0
  AreFieldsWrittenAs structs declared no_fields = ⊤
  AreFieldsWrittenAs structs declared (field id value more) =
      MatchOption (field_with_id id declared) ⊥ (λ f. IsWrittenAs structs f.kind value) × AreFieldsWrittenAs structs declared more

  -- each element is written under the type
  pub AreItemsWrittenAs : List PlainStruct → PlainKind → ItemTrees → Type 0
  AreItemsWrittenAs structs kind no_items = ⊤
  AreItemsWrittenAs structs kind (item value more) = IsWrittenAs structs kind value × AreItemsWrittenAs structs kind more

  -- each key and each value is written under its type
  pub ArePairsWrittenAs : List PlainStruct → PlainKind → PlainKind → PairTrees → Type 0
  ArePairsWrittenAs structs key_kind value_kind no_pairs = ⊤
  ArePairsWrittenAs structs key_kind value_kind (pair key value more) =
      IsWrittenAs structs key_kind key × IsWrittenAs structs value_kind value × ArePairsWrittenAs structs key_kind value_kind more

-- a tidy value may be written under a type: it is of that type, and its lengths and sizes have an encoding
pub record MayBeWrittenAs (structs : List PlainStruct) (kind : PlainKind) (value : Tree) : Type 0 where
  pub fits : IsWrittenAs structs kind value
  pub sizes : HasSmallSizes value
