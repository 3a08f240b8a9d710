-- What raw values mean, by the parts of a type.
use Rattle.std.proofs.Common.{◌≡◌, ℕ, List, Option, Some, None, Result, Ok, refl, sym, ap, subst, ◌∙◌}
use Rattle.std.specs.Prelude.{⊤}
use Rattle.std.specs.List.{slice_get}
use Rattle.thrift_value.specs.declared.tag.Tag.{Tag}
use Rattle.thrift_value.specs.declared.value.Value as value
use Rattle.thrift_value.specs.declared.value.Value.{Value}
use Rattle.thrift_value.specs.declared.value.Fields.{Fields}
use Rattle.thrift_value.specs.declared.value.Items.{Items}
use Rattle.thrift_value.specs.declared.value.Pairs.{Pairs}
use Rattle.thrift_value.specs.TreeOf.{tree_of, fields_tree, items_tree, pairs_tree}
use Rattle.thrift_value.specs.Tree.{Tree, of_struct, of_map, of_set, of_list, FieldTrees, ItemTrees, PairTrees}
use Rattle.thrift_value.proofs.Trees.{tree_of-Struct, tree_of-Map, tree_of-Set, tree_of-List}
use Rattle.schema.specs.PlainKind.{PlainKind, kind_struct, kind_map, kind_set, kind_list}
use Rattle.schema.specs.PlainSchema.{PlainStruct}
use Rattle.struct_skew.specs.declared.fault.SkewFault.{SkewFault}
use Rattle.known_parts.specs.Parts.{struct_of_kind, map_of_kind, set_of_kind, list_of_kind}
use Rattle.struct_skew.specs.Projection.{meaning_of, offers_of, item_meanings, pair_meanings, struct_value, map_meaning, set_meaning, list_meaning}
use Rattle.struct_skew.specs.Results.{with_value}

-- a struct, a map, a set and a list under a type of parts that are known, or of none
abbrev pub struct_meant : List PlainStruct → FieldTrees → Option ℕ → Result Tree SkewFault
struct_meant structs fields (Some which) = struct_value which (slice_get structs which) (offers_of structs fields)
struct_meant structs fields None = Ok (of_struct fields)

abbrev pub map_meant_by : List PlainStruct → Tag → Tag → PairTrees → Option (PlainKind × PlainKind) → Result Tree SkewFault
map_meant_by structs k v pairs (Some p) = with_value (map_meaning p.0 p.1) (pair_meanings structs pairs p.0 p.1)
map_meant_by structs k v pairs None = Ok (of_map k v pairs)

abbrev pub set_meant_by : List PlainStruct → Tag → ItemTrees → Option PlainKind → Result Tree SkewFault
set_meant_by structs t items (Some kind) = with_value (set_meaning kind) (item_meanings structs items kind)
set_meant_by structs t items None = Ok (of_set t items)

abbrev pub list_meant_by : List PlainStruct → Tag → ItemTrees → Option PlainKind → Result Tree SkewFault
list_meant_by structs t items (Some kind) = with_value (list_meaning kind) (item_meanings structs items kind)
list_meant_by structs t items None = Ok (of_list t items)

pub meaning_of_struct : (structs : List PlainStruct) (kind : PlainKind) (sent : FieldTrees) → meaning_of structs (of_struct sent) kind ≡ struct_meant structs sent (struct_of_kind kind)
meaning_of_struct structs (kind_struct which) sent = refl
meaning_of_struct structs _ sent = refl

pub meaning_of_map : (structs : List PlainStruct) (kind : PlainKind) (k v : Tag) (pairs : PairTrees) → meaning_of structs (of_map k v pairs) kind ≡ map_meant_by structs k v pairs (map_of_kind kind)
meaning_of_map structs (kind_map key value) k v pairs = refl
meaning_of_map structs _ k v pairs = refl

pub meaning_of_set : (structs : List PlainStruct) (kind : PlainKind) (t : Tag) (items : ItemTrees) → meaning_of structs (of_set t items) kind ≡ set_meant_by structs t items (set_of_kind kind)
meaning_of_set structs (kind_set member) t items = refl
meaning_of_set structs _ t items = refl

pub meaning_of_list : (structs : List PlainStruct) (kind : PlainKind) (t : Tag) (items : ItemTrees) → meaning_of structs (of_list t items) kind ≡ list_meant_by structs t items (list_of_kind kind)
meaning_of_list structs (kind_list element) t items = refl
meaning_of_list structs _ t items = refl

-- a number, a bool or bytes
abbrev pub IsScalar : Tree → Type 0
IsScalar (of_struct _) = ⊥
IsScalar (of_map _ _ _) = ⊥
IsScalar (of_set _ _) = ⊥
IsScalar (of_list _ _) = ⊥
IsScalar _ = ⊤

pub meaning_of_scalar : (structs : List PlainStruct) (value : Tree) (kind : PlainKind) → IsScalar value → meaning_of structs value kind ≡ Ok value
meaning_of_scalar structs (of_struct _) kind h = absurd h
meaning_of_scalar structs (of_map _ _ _) kind h = absurd h
meaning_of_scalar structs (of_set _ _) kind h = absurd h
meaning_of_scalar structs (of_list _ _) kind h = absurd h
meaning_of_scalar structs _ kind h = refl

-- values in memory that are handed on
module _ (structs : List PlainStruct) (kind : PlainKind) where
  pub struct_kept : (fields : Fields) → None ≡ struct_of_kind kind → meaning_of structs (of_struct (fields_tree fields)) kind ≡ Ok (tree_of (value.Struct fields))
  struct_kept fields none = meaning_of_struct structs kind (fields_tree fields) ∙ ap (struct_meant structs (fields_tree fields)) (sym none) ∙ ap Ok (sym (tree_of-Struct fields))

  pub map_kept : (k v : Tag) (pairs : Pairs) → None ≡ map_of_kind kind → meaning_of structs (of_map k v (pairs_tree pairs)) kind ≡ Ok (tree_of (value.Map k v pairs))
  map_kept k v pairs none = meaning_of_map structs kind k v (pairs_tree pairs) ∙ ap (map_meant_by structs k v (pairs_tree pairs)) (sym none) ∙ ap Ok (sym (tree_of-Map k v pairs))

  pub set_kept : (t : Tag) (items : Items) → None ≡ set_of_kind kind → meaning_of structs (of_set t (items_tree items)) kind ≡ Ok (tree_of (value.Set t items))
  set_kept t items none = meaning_of_set structs kind t (items_tree items) ∙ ap (set_meant_by structs t (items_tree items)) (sym none) ∙ ap Ok (sym (tree_of-Set t items))

  pub list_kept : (t : Tag) (items : Items) → None ≡ list_of_kind kind → meaning_of structs (of_list t (items_tree items)) kind ≡ Ok (tree_of (value.List t items))
  list_kept t items none = meaning_of_list structs kind t (items_tree items) ∙ ap (list_meant_by structs t (items_tree items)) (sym none) ∙ ap Ok (sym (tree_of-List t items))

  pub scalar_kept : (raw out : Value) (x : Tree) → raw ≡ out → tree_of out ≡ x → IsScalar x → meaning_of structs (tree_of raw) kind ≡ Ok (tree_of out)
  scalar_kept raw out x same is scalar =
      ap (λ v. meaning_of structs (tree_of v) kind) same ∙ subst (λ y. meaning_of structs y kind ≡ Ok y) (sym is) (meaning_of_scalar structs x kind scalar)
