-- Worked examples: some structs, and what is sent for them.
use Rattle.std.specs.Prelude.{ℕ, zero, suc, ℤ, pos, [], ◌∷◌, codes, Option, Some, None}
use Rattle.thrift_value.specs.declared.tag.Tag.{Tag}
use Rattle.thrift_value.specs.declared.tag.Tag.TheVariants as tag
use Rattle.thrift_value.specs.Tree.{Tree, of_i32, of_struct, of_list, no_fields, field, no_items, item}
use Rattle.schema.specs.declared.types.FieldNeed.{FieldNeed}
use Rattle.schema.specs.declared.types.FieldNeed.TheVariants.{Default, Optional, Required}
use Rattle.schema.specs.declared.types.FieldsKind.TheVariants as of_kind
use Rattle.schema.specs.PlainKind.{PlainKind, kind_i32, kind_text, kind_struct, kind_map, kind_set, kind_list}
use Rattle.schema.specs.PlainSchema.{PlainField, PlainStruct, PlainSchema}

-- a field, whatever its name
abbrev pub row_field : ℤ → FieldNeed → PlainKind → Option Tree → PlainField
row_field id need kind default = record { id = id; need = need; kind = kind; name = []; default = default }

-- struct 0 { 1: i32 = 0, 2: i32, 3: i32, 4: optional string }, the tutorial's Work
abbrev pub row_work : PlainStruct
row_work = record {
  file = 0;
  name = codes "Work";
  kind = of_kind.Struct;
  fields =
      row_field (pos 1) Default kind_i32 (Some (of_i32 (pos 0))) ∷ row_field (pos 2) Default kind_i32 None ∷ row_field (pos 3) Default kind_i32 None
      ∷ row_field (pos 4) Optional kind_text None ∷ [];
}

-- union 1 { 1: i32, 2: string }
abbrev pub row_union : PlainStruct
row_union = record {
  file = 0;
  name = codes "U";
  kind = of_kind.Union;
  fields = row_field (pos 1) Optional kind_i32 (Some (of_i32 (pos 3))) ∷ row_field (pos 2) Optional kind_text None ∷ [];
}

-- struct 2 { 1: required i32 = 3 }
abbrev pub row_needy : PlainStruct
row_needy = record { file = 0; name = codes "P"; kind = of_kind.Struct; fields = row_field (pos 1) Required kind_i32 (Some (of_i32 (pos 3))) ∷ [] }

-- a list of lists and so on, of i32
abbrev pub nested_kind : ℕ → PlainKind
nested_kind zero = kind_i32
nested_kind (suc n) = kind_list (nested_kind n)

-- struct 3 { 1: i32, 2: Work, 3: P, 4: U, 5: list<Work>, 6: map<string, i32>, 7: set<i32>, 8: list<list<..>> of 64 levels, 9: list<P> }
abbrev pub row_args : PlainStruct
row_args = record {
  file = 0;
  name = codes "f";
  kind = of_kind.Args;
  fields =
      row_field (pos 1) Default kind_i32 None ∷ row_field (pos 2) Default (kind_struct 0) None ∷ row_field (pos 3) Default (kind_struct 2) None
      ∷ row_field (pos 4) Default (kind_struct 1) None ∷ row_field (pos 5) Default (kind_list (kind_struct 0)) None
      ∷ row_field (pos 6) Default (kind_map kind_text kind_i32) None ∷ row_field (pos 7) Default (kind_set kind_i32) None
      ∷ row_field (pos 8) Default (nested_kind 64) None ∷ row_field (pos 9) Default (kind_list (kind_struct 2)) None ∷ [];
}

-- lists in one another, so many, with a number in the innermost; the innermost of none is the number
abbrev pub row_lists : ℕ → Tree
row_lists zero = of_i32 (pos 7)
row_lists (suc zero) = of_list tag.I32 (item (row_lists zero) no_items)
row_lists (suc n) = of_list tag.List (item (row_lists n) no_items)

-- union 4 { 1: P, 2: i32 }
abbrev pub row_either : PlainStruct
row_either = record {
  file = 0;
  name = codes "E";
  kind = of_kind.Union;
  fields = row_field (pos 1) Optional (kind_struct 2) None ∷ row_field (pos 2) Optional kind_i32 None ∷ [];
}

-- struct 5 { 1: map<string, P>, 2: map<P, i32> }
abbrev pub row_maps : PlainStruct
row_maps = record {
  file = 0;
  name = codes "M";
  kind = of_kind.Struct;
  fields = row_field (pos 1) Default (kind_map kind_text (kind_struct 2)) None ∷ row_field (pos 2) Default (kind_map (kind_struct 2) kind_i32) None ∷ [];
}

-- struct 6 { 1: optional list<list<..>> of 64 levels = [[..]] }
abbrev pub row_deep : PlainStruct
row_deep = record { file = 0; name = codes "D"; kind = of_kind.Struct; fields = row_field (pos 1) Optional (nested_kind 64) (Some (row_lists 64)) ∷ [] }

-- the schema of these
abbrev pub row_schema : PlainSchema
row_schema = record {
  files = [];
  structs = row_work ∷ row_union ∷ row_needy ∷ row_args ∷ row_either ∷ row_maps ∷ row_deep ∷ [];
  enums = [];
  services = [];
  aliases = [];
  constants = [];
}

-- arguments with one field
abbrev pub sent_one : ℕ → Tree → Tree
sent_one id value = of_struct (field (pos id) value no_fields)

-- the same with an empty innermost list that names this tag
abbrev pub nested_empty : Tag → ℕ → Tree
nested_empty t zero = of_list t no_items
nested_empty t (suc n) = of_list tag.List (item (nested_empty t n) no_items)
