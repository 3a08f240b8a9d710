-- What is kept of a value that one schema wrote, where another reads it.
use Rattle.std.specs.Prelude.{◌≡◌, ⊤, ℕ, ℤ, cond, List, [], Option, Some, None, unwrap_or, MatchOption, Result, Ok, Err}
use Rattle.std.specs.List.{slice_get}
use Rattle.std.specs.Option.{option_map}
use Rattle.std.specs.Ordering.{int_eq}
use Rattle.std.specs.declared.cmp.Ordering.TheVariants.{Equal}
use Rattle.thrift_value.specs.Order.{tree_cmp}
use Rattle.thrift_value.specs.Plain.{plain}
use Rattle.thrift_value.specs.Tidy.{IsTidy}
use Rattle.thrift_value.specs.Tree.{Tree, of_struct, of_map, of_list, FieldTrees, no_fields, field, ItemTrees, no_items, item, PairTrees, no_pairs, pair}
use Rattle.schema.specs.PlainKind.{PlainKind, kind_struct, kind_map, kind_list}
use Rattle.schema.specs.PlainSchema.{PlainField, PlainStruct, PlainSchema}
use Rattle.schema.specs.WrittenAs.{field_with_id, IsWrittenAs}
use Rattle.struct_skew.specs.declared.fault.SkewFault.{SkewFault}
use Rattle.struct_skew.specs.declared.fault.SkewFault.TheVariants.{TooDeep, TooMany}
use Rattle.struct_skew.specs.Projection.{projection}

-- the value under an id
abbrev pub value_under_id : ℤ → FieldTrees → Option Tree
value_under_id id no_fields = None
value_under_id id (field next value more) = cond (int_eq next id) (Some value) (value_under_id id more)

-- the fields of the struct at a number
abbrev pub declared_at : List PlainStruct → ℕ → List PlainField
declared_at structs which = unwrap_or (option_map (λ (d : PlainStruct). d.fields) (slice_get structs which)) []

abbrev mutual
  -- a value that was written is kept in the one that is read under a type: a list element by element, a map by equal keys and kept values, of a
  -- struct each field that the reader declares; other values are equal in the order of values
  pub IsKeptUnder : List PlainStruct → PlainKind → Tree → Tree → Type 0
  IsKeptUnder structs (kind_struct which) (of_struct fields) (of_struct others) = AreFieldsKeptUnder structs (declared_at structs which) fields others
  IsKeptUnder structs (kind_map _ kind) (of_map _ _ pairs) (of_map _ _ others) = ArePairsKeptUnder structs kind pairs others
  IsKeptUnder structs (kind_list kind) (of_list _ items) (of_list _ others) = AreItemsKeptUnder structs kind items others
  IsKeptUnder structs kind value other = tree_cmp value other ≡ Equal

  -- each field of the value that the reader declares is there, and kept
  pub AreFieldsKeptUnder : List PlainStruct → List PlainField → FieldTrees → FieldTrees → Type 0
  AreFieldsKeptUnder structs declared no_fields others = ⊤
  AreFieldsKeptUnder structs declared (field id value more) others =
      MatchOption (field_with_id id declared) ⊤ (λ f. MatchOption (value_under_id id others) ⊥ (IsKeptUnder structs f.kind value))
      × AreFieldsKeptUnder structs declared more others

  -- as many elements, each kept
  pub AreItemsKeptUnder : List PlainStruct → PlainKind → ItemTrees → ItemTrees → Type 0
  AreItemsKeptUnder structs kind no_items no_items = ⊤
  AreItemsKeptUnder structs kind (item value more) (item other others) = IsKeptUnder structs kind value other × AreItemsKeptUnder structs kind more others
  AreItemsKeptUnder structs kind _ _ = ⊥

  -- as many pairs, each with an equal key and its value kept
  pub ArePairsKeptUnder : List PlainStruct → PlainKind → PairTrees → PairTrees → Type 0
  ArePairsKeptUnder structs kind no_pairs no_pairs = ⊤
  ArePairsKeptUnder structs kind (pair key value more) (pair other_key other others) =
      (tree_cmp key other_key ≡ Equal) × IsKeptUnder structs kind value other × ArePairsKeptUnder structs kind more others
  ArePairsKeptUnder structs kind _ _ = ⊥

-- a struct is kept in its projection, or this has too many levels or values
abbrev pub IsKeptOrTooLarge : PlainSchema → ℕ → Tree → Result Tree SkewFault → Type 0
IsKeptOrTooLarge t other value (Ok read) = IsKeptUnder t.structs (kind_struct other) value read
IsKeptOrTooLarge t other value (Err TooDeep) = ⊤
IsKeptOrTooLarge t other value (Err TooMany) = ⊤
IsKeptOrTooLarge t other value (Err _) = ⊥

-- each value of a struct of one schema is kept where it is read as a struct of another
abbrev pub KeepsValues : PlainSchema → ℕ → PlainSchema → ℕ → Type 0
KeepsValues s which t other =
    (value : Tree) → IsTidy value → IsWrittenAs s.structs (kind_struct which) value → IsKeptOrTooLarge t other value (projection t other (plain value))
