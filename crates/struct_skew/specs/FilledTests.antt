-- Tests that decide, of a value of a type, whether nothing is left to fill in; and whether the value is what it means.
use Rattle.std.specs.Prelude.{Bool, true, ◌&&◌, List, Option}
use Rattle.std.specs.List.{slice_get}
use Rattle.thrift_value.specs.Tree.{Tree, of_struct, of_map, of_set, of_list, FieldTrees, no_fields, field, ItemTrees, no_items, item, PairTrees, no_pairs, pair}
use Rattle.schema.specs.PlainKind.{PlainKind, kind_struct, kind_map, kind_set, kind_list}
use Rattle.schema.specs.PlainSchema.{PlainField, PlainStruct}
use Rattle.schema.specs.WrittenAs.{field_with_id}
use Rattle.known_parts.specs.Parts.{tag_of_kind, are_same_tags}
use Rattle.struct_skew.specs.Needs.{is_defaulted_field}
use Rattle.struct_skew.specs.TidyTests.{is_tidy}
use Rattle.struct_skew.specs.WrittenTests.{some_passes, has_fields_where, is_written_as}

-- each field is there that may be unsent and has a default then
abbrev pub has_defaulted_fields : PlainStruct → FieldTrees → Bool
has_defaulted_fields d fields = has_fields_where (is_defaulted_field d.kind) d.fields fields

abbrev mutual
  -- at every level the fields with a default are there, and a container names the tags of its declared types, also where it is empty
  pub is_filled : List PlainStruct → PlainKind → Tree → Bool
  is_filled structs (kind_struct which) (of_struct fields) =
      some_passes (slice_get structs which) (λ d. has_defaulted_fields d fields && are_fields_filled structs d.fields fields)
  is_filled structs (kind_map key value) (of_map k v pairs) =
      (are_same_tags k (tag_of_kind key) && are_same_tags v (tag_of_kind value)) && are_pairs_filled structs key value pairs
  is_filled structs (kind_set member) (of_set t items) = are_same_tags t (tag_of_kind member) && are_items_filled structs member items
  is_filled structs (kind_list element) (of_list t items) = are_same_tags t (tag_of_kind element) && are_items_filled structs element items
  is_filled structs _ _ = true

  -- the same of the value of each declared field
  pub are_fields_filled : List PlainStruct → List PlainField → FieldTrees → Bool
  are_fields_filled structs declared no_fields = true
  are_fields_filled structs declared (field id value more) =
      some_passes (field_with_id id declared) (λ f. is_filled structs f.kind value) && are_fields_filled structs declared more

  -- the same of each element
  pub are_items_filled : List PlainStruct → PlainKind → ItemTrees → Bool
  are_items_filled structs kind no_items = true
  are_items_filled structs kind (item value more) = is_filled structs kind value && are_items_filled structs kind more

  -- the same of each key and each value
  pub are_pairs_filled : List PlainStruct → PlainKind → PlainKind → PairTrees → Bool
  are_pairs_filled structs key_kind value_kind no_pairs = true
  are_pairs_filled structs key_kind value_kind (pair key value more) =
      (is_filled structs key_kind key && is_filled structs value_kind value) && are_pairs_filled structs key_kind value_kind more

-- the fields are filled, as those of a struct that there is
abbrev pub is_struct_filled : List PlainStruct → Option PlainStruct → FieldTrees → Bool
is_struct_filled structs s fields = some_passes s (λ d. has_defaulted_fields d fields && are_fields_filled structs d.fields fields)

-- a value means itself under a type: it is tidy and of that type, and nothing is left to fill in
abbrev pub is_settled : List PlainStruct → PlainKind → Tree → Bool
is_settled structs kind value = is_tidy value && (is_written_as structs kind value && is_filled structs kind value)
