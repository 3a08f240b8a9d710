-- Values in which nothing is left to fill in.
use Rattle.std.specs.Prelude.{◌≡◌, ⊤, true, is_some, List, All, MatchOption}
use Rattle.std.specs.List.{slice_get}
use Rattle.thrift_value.specs.Tree.{Tree, of_struct, of_map, of_set, of_list, FieldTrees, no_fields, field, ItemTrees, no_items, item, PairTrees, no_pairs, pair}
use Rattle.schema.specs.PlainKind.{PlainKind, kind_struct, kind_map, kind_set, kind_list}
use Rattle.schema.specs.PlainSchema.{PlainField, PlainStruct}
use Rattle.schema.specs.WrittenAs.{field_with_id, HasFieldTree}
use Rattle.known_parts.specs.Parts.{tag_of_kind}
use Rattle.struct_skew.specs.Projection.{counted_default}

-- each field with a default that counts is there
abbrev pub HasItsDefaults : PlainStruct → FieldTrees → Type 0
HasItsDefaults s fields = All (λ (f : PlainField). is_some (counted_default s.kind f) ≡ true → HasFieldTree f.id fields) s.fields

abbrev mutual
  -- at every level the fields with a default are there, and a container names the tags of its declared types, also where it is empty
  pub IsFilled : List PlainStruct → PlainKind → Tree → Type 0
  IsFilled structs (kind_struct which) (of_struct fields) =
      MatchOption (slice_get structs which) ⊤ (λ s. HasItsDefaults s fields × AreFieldsFilled structs s.fields fields)
  IsFilled structs (kind_map key value) (of_map k v pairs) = (k ≡ tag_of_kind key) × (v ≡ tag_of_kind value) × ArePairsFilled structs key value pairs
  IsFilled structs (kind_set member) (of_set t items) = (t ≡ tag_of_kind member) × AreItemsFilled structs member items
  IsFilled structs (kind_list element) (of_list t items) = (t ≡ tag_of_kind element) × AreItemsFilled structs element items
  IsFilled structs _ _ = ⊤

  -- the same of the value of each declared field
  pub AreFieldsFilled : List PlainStruct → List PlainField → FieldTrees → Type 0
  AreFieldsFilled structs declared no_fields = ⊤
  AreFieldsFilled structs declared (field id value more) =
      MatchOption (field_with_id id declared) ⊤ (λ f. IsFilled structs f.kind value) × AreFieldsFilled structs declared more

  -- the same of each element
  pub AreItemsFilled : List PlainStruct → PlainKind → ItemTrees → Type 0
  AreItemsFilled structs kind no_items = ⊤
  AreItemsFilled structs kind (item value more) = IsFilled structs kind value × AreItemsFilled structs kind more

  -- the same of each key and each value
  pub ArePairsFilled : List PlainStruct → PlainKind → PlainKind → PairTrees → Type 0
  ArePairsFilled structs key_kind value_kind no_pairs = ⊤
  ArePairsFilled structs key_kind value_kind (pair key value more) =
      IsFilled structs key_kind key × IsFilled structs value_kind value × ArePairsFilled structs key_kind value_kind more
