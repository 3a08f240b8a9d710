-- Which values are of a type, where the parts of the type are known or known to be none.
use Rattle.std.proofs.Common.{◌≡◌, ℕ, Bool, true, false, List, Option, Some, None, refl, sym, ap, ◌∙◌}
use Rattle.std.specs.Prelude.{◌&&◌}
use Rattle.std.specs.List.{slice_get}
use Rattle.thrift_value.specs.declared.tag.Tag.{Tag}
use Rattle.thrift_value.specs.Tags.{tag_of}
use Rattle.thrift_value.specs.declared.value.Value as value
use Rattle.thrift_value.specs.declared.value.Value.{Value}
use Rattle.thrift_value.specs.declared.value.Fields.{Fields}
use Rattle.thrift_value.specs.declared.value.Items.{Items}
use Rattle.thrift_value.specs.declared.value.Pairs.{Pairs}
use Rattle.thrift_value.specs.TreeOf.{tree_of, fields_tree, items_tree, pairs_tree}
use Rattle.thrift_value.proofs.Trees.{tree_of-is_Struct, tree_of-is_Map, tree_of-is_Set, tree_of-is_List}
use Rattle.thrift_value.specs.Tree.{Tree, of_struct, of_map, of_set, of_list, FieldTrees, ItemTrees, PairTrees}
use Rattle.schema.specs.PlainKind.{PlainKind, kind_bool, kind_i8, kind_i16, kind_i32, kind_i64, kind_double, kind_text, kind_binary, kind_uuid, kind_enum, kind_struct, kind_map, kind_set, kind_list}
use Rattle.schema.specs.PlainSchema.{PlainStruct}
use Rattle.known_parts.specs.Parts.{tag_of_kind, are_same_tags, struct_of_kind, map_of_kind, set_of_kind, list_of_kind}
use Rattle.struct_skew.specs.WrittenTests.{is_written_as, is_struct_written, are_items_written_as, are_pairs_written_as}
use Rattle.struct_skew.proofs.MeaningsOfKinds.{IsScalar}

-- a struct, a map, a set and a list under a type of parts that are known, or of none
abbrev pub struct_written : List PlainStruct → FieldTrees → Option ℕ → Bool
struct_written structs held (Some which) = is_struct_written structs (slice_get structs which) held
struct_written structs held None = false

abbrev pub map_written : List PlainStruct → PairTrees → Option (PlainKind × PlainKind) → Bool
map_written structs pairs (Some p) = are_pairs_written_as structs p.0 p.1 pairs
map_written structs pairs None = false

abbrev pub items_written : List PlainStruct → ItemTrees → Option PlainKind → Bool
items_written structs items (Some kind) = are_items_written_as structs kind items
items_written structs items None = false

pub written_struct : (structs : List PlainStruct) (kind : PlainKind) (fields : FieldTrees) → is_written_as structs kind (of_struct fields) ≡ struct_written structs fields (struct_of_kind kind)
written_struct structs (kind_struct _) _ = refl
written_struct structs _ _ = refl

pub written_map : (structs : List PlainStruct) (kind : PlainKind) (k v : Tag) (pairs : PairTrees) → is_written_as structs kind (of_map k v pairs) ≡ map_written structs pairs (map_of_kind kind)
written_map structs (kind_map key value) k v pairs = refl
written_map structs _ k v pairs = refl

pub written_set : (structs : List PlainStruct) (kind : PlainKind) (t : Tag) (items : ItemTrees) → is_written_as structs kind (of_set t items) ≡ items_written structs items (set_of_kind kind)
written_set structs (kind_set member) t items = refl
written_set structs _ t items = refl

pub written_list : (structs : List PlainStruct) (kind : PlainKind) (t : Tag) (items : ItemTrees) → is_written_as structs kind (of_list t items) ≡ items_written structs items (list_of_kind kind)
written_list structs (kind_list element) t items = refl
written_list structs _ t items = refl

pub written_scalar : (structs : List PlainStruct) (kind : PlainKind) (value : Tree) → IsScalar value → is_written_as structs kind value ≡ are_same_tags (tag_of_kind kind) (tag_of value)
written_scalar structs kind (of_struct _) h = absurd h
written_scalar structs kind (of_map _ _ _) h = absurd h
written_scalar structs kind (of_set _ _) h = absurd h
written_scalar structs kind (of_list _ _) h = absurd h
written_scalar structs kind_bool _ h = refl
written_scalar structs kind_i8 _ h = refl
written_scalar structs kind_i16 _ h = refl
written_scalar structs kind_i32 _ h = refl
written_scalar structs kind_i64 _ h = refl
written_scalar structs kind_double _ h = refl
written_scalar structs kind_uuid _ h = refl
written_scalar structs kind_text _ h = refl
written_scalar structs kind_binary _ h = refl
written_scalar structs (kind_enum _) _ h = refl
written_scalar structs (kind_struct _) _ h = refl
written_scalar structs (kind_map _ _) _ h = refl
written_scalar structs (kind_set _) _ h = refl
written_scalar structs (kind_list _) _ h = refl

-- values in memory, by the parts of their types
module _ (structs : List PlainStruct) (kind : PlainKind) (v : Value) (r : Bool) where
  pub struct_by_part : (fields : Fields) (part : Option ℕ) → v ≡ value.Struct fields → part ≡ struct_of_kind kind → r ≡ struct_written structs (fields_tree fields) part
      → r ≡ is_written_as structs kind (tree_of v)
  struct_by_part fields part is known here =
      here ∙ sym (ap (is_written_as structs kind) (tree_of-is_Struct v fields is) ∙ written_struct structs kind (fields_tree fields) ∙ ap (struct_written structs (fields_tree fields)) (sym known))

  pub map_by_parts : (k t : Tag) (pairs : Pairs) (parts : Option (PlainKind × PlainKind)) → v ≡ value.Map k t pairs → parts ≡ map_of_kind kind → r ≡ map_written structs (pairs_tree pairs) parts
      → r ≡ is_written_as structs kind (tree_of v)
  map_by_parts k t pairs parts is known here =
      here ∙ sym (ap (is_written_as structs kind) (tree_of-is_Map v k t pairs is) ∙ written_map structs kind k t (pairs_tree pairs) ∙ ap (map_written structs (pairs_tree pairs)) (sym known))

  pub set_by_part : (t : Tag) (items : Items) (part : Option PlainKind) → v ≡ value.Set t items → part ≡ set_of_kind kind → r ≡ items_written structs (items_tree items) part
      → r ≡ is_written_as structs kind (tree_of v)
  set_by_part t items part is known here =
      here ∙ sym (ap (is_written_as structs kind) (tree_of-is_Set v t items is) ∙ written_set structs kind t (items_tree items) ∙ ap (items_written structs (items_tree items)) (sym known))

  pub list_by_part : (t : Tag) (items : Items) (part : Option PlainKind) → v ≡ value.List t items → part ≡ list_of_kind kind → r ≡ items_written structs (items_tree items) part
      → r ≡ is_written_as structs kind (tree_of v)
  list_by_part t items part is known here =
      here ∙ sym (ap (is_written_as structs kind) (tree_of-is_List v t items is) ∙ written_list structs kind t (items_tree items) ∙ ap (items_written structs (items_tree items)) (sym known))

-- two tests, the last of which was tried first
pub first_decides : (first last answer : Bool) → answer ≡ first → true ≡ last → answer ≡ (first && last)
first_decides true last answer is passes = is ∙ passes
first_decides false last answer is passes = is

pub last_fails : (first last : Bool) → false ≡ last → false ≡ (first && last)
last_fails true last fails = fails
last_fails false last fails = refl
