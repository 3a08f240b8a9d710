-- One test, in place of several, of whether a value goes out under a type.
use Rattle.std.specs.Prelude.{ℕ, ◌-◌, ◌^◌, nat_lt, Bool, true, false, ◌&&◌, List, length, Option}
use Rattle.std.specs.List.{slice_get}
use Rattle.thrift_value.specs.declared.tag.Tag.{Tag}
use Rattle.thrift_value.specs.declared.tag.Tag.TheVariants as tag
use Rattle.thrift_value.specs.Sizes.{items_len, pairs_len}
use Rattle.thrift_value.specs.Tags.{tag_of}
use Rattle.thrift_value.specs.Tree.{Tree, of_bytes, of_struct, of_map, of_set, of_list, FieldTrees, no_fields, field, ItemTrees, no_items, item, PairTrees, no_pairs, pair}
use Rattle.schema.specs.PlainKind.{PlainKind, kind_struct, kind_map, kind_set, kind_list}
use Rattle.schema.specs.PlainSchema.{PlainField, PlainStruct}
use Rattle.schema.specs.WrittenAs.{field_with_id}
use Rattle.known_parts.specs.Parts.{are_same_tags, tag_of_kind}
use Rattle.struct_skew.specs.TidyTests.{are_rising_fields, are_rising_items, are_rising_pairs}
use Rattle.struct_skew.specs.WrittenTests.{some_passes, has_its_fields}

-- elements, where there are any, have the tag of their type
abbrev pub are_named_items : Tag → PlainKind → ItemTrees → Bool
are_named_items t kind no_items = true
are_named_items t kind (item _ _) = are_same_tags (tag_of_kind kind) t

-- keys and values, where there are any, have the tags of their types
abbrev pub are_named_pairs : Tag → Tag → PlainKind → PlainKind → PairTrees → Bool
are_named_pairs k v key value no_pairs = true
are_named_pairs k v key value (pair _ _ _) = are_same_tags (tag_of_kind key) k && are_same_tags (tag_of_kind value) v

-- bytes are of a type, and a length says how many they are
abbrev pub do_bytes_go_out : PlainKind → List ℕ → Bool
do_bytes_go_out kind bytes = are_same_tags (tag_of_kind kind) tag.Bytes && nat_lt (length bytes) (2 ^ 31)

-- a size says how many elements there are, and they have the tag of their type
abbrev pub are_few_items : Tag → PlainKind → ItemTrees → Bool
are_few_items t kind items = nat_lt (items_len items) (2 ^ 31) && are_named_items t kind items

-- the same of pairs
abbrev pub are_few_pairs : Tag → Tag → PlainKind → PlainKind → PairTrees → Bool
are_few_pairs k v key value pairs = nat_lt (pairs_len pairs) (2 ^ 31) && are_named_pairs k v key value pairs

abbrev mutual
  -- a value goes out under a type, where so many levels may be opened: each struct and each container opens one
  pub goes_out : List PlainStruct → ℕ → PlainKind → Tree → Bool
  goes_out structs levels (kind_struct which) (of_struct fields) =
      nat_lt 0 levels
      && some_passes (slice_get structs which) (λ s. are_rising_fields fields && (has_its_fields s fields && do_fields_go_out structs (levels - 1) s.fields fields))
  goes_out structs levels (kind_map key value) (of_map k v pairs) =
      nat_lt 0 levels && (are_few_pairs k v key value pairs && (are_rising_pairs pairs && do_pairs_go_out structs (levels - 1) key value pairs))
  goes_out structs levels (kind_set member) (of_set t items) =
      nat_lt 0 levels && (are_few_items t member items && (are_rising_items items && do_items_go_out structs (levels - 1) member items))
  goes_out structs levels (kind_list element) (of_list t items) =
      nat_lt 0 levels && (are_few_items t element items && do_items_go_out structs (levels - 1) element items)
  goes_out structs levels kind (of_bytes bytes) = do_bytes_go_out kind bytes
  goes_out structs levels kind (of_struct _) = false
  goes_out structs levels kind (of_map _ _ _) = false
  goes_out structs levels kind (of_set _ _) = false
  goes_out structs levels kind (of_list _ _) = false
  goes_out structs levels kind value = are_same_tags (tag_of_kind kind) (tag_of value)

  -- each field is declared, and goes out under its type
  pub do_fields_go_out : List PlainStruct → ℕ → List PlainField → FieldTrees → Bool
  do_fields_go_out structs levels declared no_fields = true
  do_fields_go_out structs levels declared (field id value more) =
      some_passes (field_with_id id declared) (λ f. goes_out structs levels f.kind value) && do_fields_go_out structs levels declared more

  -- each element goes out under the type
  pub do_items_go_out : List PlainStruct → ℕ → PlainKind → ItemTrees → Bool
  do_items_go_out structs levels kind no_items = true
  do_items_go_out structs levels kind (item value more) = goes_out structs levels kind value && do_items_go_out structs levels kind more

  -- each key and each value goes out under its type
  pub do_pairs_go_out : List PlainStruct → ℕ → PlainKind → PlainKind → PairTrees → Bool
  do_pairs_go_out structs levels key value no_pairs = true
  do_pairs_go_out structs levels key value (pair k v more) =
      (goes_out structs levels key k && goes_out structs levels value v) && do_pairs_go_out structs levels key value more

-- the fields of a struct that there may be
abbrev pub does_struct_go_out : List PlainStruct → ℕ → Option PlainStruct → FieldTrees → Bool
does_struct_go_out structs levels s fields =
    nat_lt 0 levels && some_passes s (λ d. are_rising_fields fields && (has_its_fields d fields && do_fields_go_out structs (levels - 1) d.fields fields))

-- the pairs of a map
abbrev pub does_map_go_out : List PlainStruct → ℕ → PlainKind → PlainKind → Tag → Tag → PairTrees → Bool
does_map_go_out structs levels key value k v pairs =
    nat_lt 0 levels && (are_few_pairs k v key value pairs && (are_rising_pairs pairs && do_pairs_go_out structs (levels - 1) key value pairs))

-- the members of a set
abbrev pub does_set_go_out : List PlainStruct → ℕ → PlainKind → Tag → ItemTrees → Bool
does_set_go_out structs levels kind t items =
    nat_lt 0 levels && (are_few_items t kind items && (are_rising_items items && do_items_go_out structs (levels - 1) kind items))

-- the elements of a list
abbrev pub does_list_go_out : List PlainStruct → ℕ → PlainKind → Tag → ItemTrees → Bool
does_list_go_out structs levels kind t items = nat_lt 0 levels && (are_few_items t kind items && do_items_go_out structs (levels - 1) kind items)
