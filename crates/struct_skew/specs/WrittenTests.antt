-- Tests that decide whether a value may be written under a type.
use Rattle.std.specs.Prelude.{ℕ, ℤ, Bool, true, false, not, ◌&&◌, ◌||◌, List, [], ◌∷◌, Option, Some, None}
use Rattle.std.specs.List.{slice_get}
use Rattle.std.specs.Ordering.{int_eq}
use Rattle.thrift_value.specs.Tree.{Tree, of_bool, of_i8, of_i16, of_i32, of_i64, of_double, of_bytes, of_struct, of_map, of_set, of_list, of_uuid, FieldTrees, no_fields, field, ItemTrees, no_items, item, PairTrees, no_pairs, pair}
use Rattle.schema.specs.PlainKind.{PlainKind, kind_bool, kind_i8, kind_i16, kind_i32, kind_i64, kind_double, kind_text, kind_binary, kind_uuid, kind_enum, kind_struct, kind_map, kind_set, kind_list}
use Rattle.schema.specs.PlainSchema.{PlainField, PlainStruct}
use Rattle.schema.specs.WrittenAs.{field_with_id}
use Rattle.struct_skew.specs.Needs.{is_required_field}
use Rattle.struct_skew.specs.Projection.{is_union}
use Rattle.struct_skew.specs.TidyTests.{has_small_sizes}

-- there is an item, and it passes a test
abbrev pub some_passes : {A : Type 0} → Option A → (A → Bool) → Bool
some_passes None test = false
some_passes (Some x) test = test x

-- one of a value's fields has this id
abbrev pub has_field_tree : ℤ → FieldTrees → Bool
has_field_tree id no_fields = false
has_field_tree id (field next _ more) = int_eq next id || has_field_tree id more

-- exactly one field is there
abbrev pub is_one_field : FieldTrees → Bool
is_one_field (field _ _ no_fields) = true
is_one_field _ = false

-- each of the declared fields that pass a test is there
abbrev pub has_fields_where : (PlainField → Bool) → List PlainField → FieldTrees → Bool
has_fields_where test [] _ = true
has_fields_where test (f ∷ fs) fields = (not (test f) || has_field_tree f.id fields) && has_fields_where test fs fields

-- each of the declared fields that has to be there is there
abbrev pub has_required_fields : List PlainField → FieldTrees → Bool
has_required_fields declared fields = has_fields_where is_required_field declared fields

-- there is a declared field at a place, and it is there
abbrev pub has_field_at : List PlainField → ℕ → FieldTrees → Bool
has_field_at declared p fields = some_passes (slice_get declared p) (λ f. has_field_tree f.id fields)

-- the declared field at each of these places is there
abbrev pub has_fields_at : List PlainField → List ℕ → FieldTrees → Bool
has_fields_at declared [] _ = true
has_fields_at declared (p ∷ ps) fields = has_field_at declared p fields && has_fields_at declared ps fields

-- each required field is there, and of a union exactly one
abbrev pub has_its_fields : PlainStruct → FieldTrees → Bool
has_its_fields s fields = has_required_fields s.fields fields && (not (is_union s.kind) || is_one_field fields)

abbrev mutual
  -- a value is of a type
  pub is_written_as : List PlainStruct → PlainKind → Tree → Bool
  is_written_as structs kind_bool (of_bool _) = true
  is_written_as structs kind_i8 (of_i8 _) = true
  is_written_as structs kind_i16 (of_i16 _) = true
  is_written_as structs kind_i32 (of_i32 _) = true
  is_written_as structs kind_i64 (of_i64 _) = true
  is_written_as structs kind_double (of_double _) = true
  is_written_as structs kind_uuid (of_uuid _) = true
  is_written_as structs kind_text (of_bytes _) = true
  is_written_as structs kind_binary (of_bytes _) = true
  is_written_as structs (kind_enum _) (of_i32 _) = true
  is_written_as structs (kind_struct which) (of_struct fields) =
      some_passes (slice_get structs which) (λ s. has_its_fields s fields && are_fields_written_as structs s.fields fields)
  is_written_as structs (kind_map key value) (of_map _ _ pairs) = are_pairs_written_as structs key value pairs
  is_written_as structs (kind_set member) (of_set _ items) = are_items_written_as structs member items
  is_written_as structs (kind_list element) (of_list _ items) = are_items_written_as structs element items
  is_written_as structs _ _ = false

  -- each field is declared, and of its type
  pub are_fields_written_as : List PlainStruct → List PlainField → FieldTrees → Bool
  are_fields_written_as structs declared no_fields = true
  are_fields_written_as structs declared (field id value more) =
      some_passes (field_with_id id declared) (λ f. is_written_as structs f.kind value) && are_fields_written_as structs declared more

  -- each element is of the type
  pub are_items_written_as : List PlainStruct → PlainKind → ItemTrees → Bool
  are_items_written_as structs kind no_items = true
  are_items_written_as structs kind (item value more) = is_written_as structs kind value && are_items_written_as structs kind more

  -- each key and each value is of its type
  pub are_pairs_written_as : List PlainStruct → PlainKind → PlainKind → PairTrees → Bool
  are_pairs_written_as structs key_kind value_kind no_pairs = true
  are_pairs_written_as structs key_kind value_kind (pair key value more) =
      (is_written_as structs key_kind key && is_written_as structs value_kind value) && are_pairs_written_as structs key_kind value_kind more

-- the fields are those of a struct that there is, each of its type
abbrev pub is_struct_written : List PlainStruct → Option PlainStruct → FieldTrees → Bool
is_struct_written structs s fields = some_passes s (λ d. has_its_fields d fields && are_fields_written_as structs d.fields fields)

-- a tidy value may be written under a type: it is of that type, and its lengths and sizes have an encoding
abbrev pub may_be_written : List PlainStruct → PlainKind → Tree → Bool
may_be_written structs kind value = is_written_as structs kind value && has_small_sizes value
