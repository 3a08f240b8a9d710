-- What types ask of raw values, where the parts of a type are known or known to be none.
use Rattle.std.proofs.Common.{◌≡◌, Bool, false, Option, Some, None, refl, sym, ap, ◌∙◌}
use Rattle.std.specs.Prelude.{⊤}
use Rattle.thrift_value.specs.declared.tag.Tag.{Tag}
use Rattle.thrift_value.specs.declared.value.Value as value
use Rattle.thrift_value.specs.declared.value.Value.{Value}
use Rattle.thrift_value.specs.declared.value.Items.{Items}
use Rattle.thrift_value.specs.declared.value.Pairs.{Pairs}
use Rattle.thrift_value.specs.Tags.{tag_of}
use Rattle.thrift_value.specs.TreeOf.{tree_of, items_tree, pairs_tree}
use Rattle.thrift_value.proofs.Trees.{tree_of-is_Map, tree_of-is_Set, tree_of-is_List}
use Rattle.thrift_value.specs.Tree.{Tree, of_map, of_set, of_list, ItemTrees, PairTrees}
use Rattle.schema.specs.PlainKind.{PlainKind, kind_map, kind_set, kind_list}
use Rattle.struct_skew.specs.Fits.{each_item, each_pair, fits_kind}
use Rattle.known_parts.specs.Parts.{tag_of_kind, are_same_tags, map_of_kind, set_of_kind, list_of_kind}

-- a map, a set and a list under a type of parts that are known, or of none
abbrev pub map_test : PairTrees → Option (PlainKind × PlainKind) → Bool
map_test pairs (Some p) = each_pair (fits_kind p.0) (fits_kind p.1) pairs
map_test pairs None = false

abbrev pub items_test : ItemTrees → Option PlainKind → Bool
items_test items (Some kind) = each_item (fits_kind kind) items
items_test items None = false

pub fits_map : (kind : PlainKind) (k v : Tag) (pairs : PairTrees) → fits_kind kind (of_map k v pairs) ≡ map_test pairs (map_of_kind kind)
fits_map (kind_map key value) k v pairs = refl
fits_map _ k v pairs = refl

pub fits_set : (kind : PlainKind) (t : Tag) (items : ItemTrees) → fits_kind kind (of_set t items) ≡ items_test items (set_of_kind kind)
fits_set (kind_set member) t items = refl
fits_set _ t items = refl

pub fits_list : (kind : PlainKind) (t : Tag) (items : ItemTrees) → fits_kind kind (of_list t items) ≡ items_test items (list_of_kind kind)
fits_list (kind_list element) t items = refl
fits_list _ t items = refl

-- a value is no map, set or list
abbrev pub IsNoContainer : Tree → Type 0
IsNoContainer (of_map _ _ _) = ⊥
IsNoContainer (of_set _ _) = ⊥
IsNoContainer (of_list _ _) = ⊥
IsNoContainer _ = ⊤

pub fits_by_tag : (kind : PlainKind) (value : Tree) → IsNoContainer value → fits_kind kind value ≡ are_same_tags (tag_of_kind kind) (tag_of value)
fits_by_tag (kind_map _ _) (of_map _ _ _) h = absurd h
fits_by_tag (kind_set _) (of_set _ _) h = absurd h
fits_by_tag (kind_list _) (of_list _ _) h = absurd h
fits_by_tag _ _ h = refl

-- values in memory, by the parts of their types
module _ (kind : PlainKind) (v : Value) (r : Bool) where
  pub map_by_parts : (k t : Tag) (pairs : Pairs) (parts : Option (PlainKind × PlainKind)) → v ≡ value.Map k t pairs → parts ≡ map_of_kind kind → r ≡ map_test (pairs_tree pairs) parts
      → r ≡ fits_kind kind (tree_of v)
  map_by_parts k t pairs parts is known here =
      here ∙ sym (ap (fits_kind kind) (tree_of-is_Map v k t pairs is) ∙ fits_map kind k t (pairs_tree pairs) ∙ ap (map_test (pairs_tree pairs)) (sym known))

  pub set_by_part : (t : Tag) (items : Items) (part : Option PlainKind) → v ≡ value.Set t items → part ≡ set_of_kind kind → r ≡ items_test (items_tree items) part
      → r ≡ fits_kind kind (tree_of v)
  set_by_part t items part is known here =
      here ∙ sym (ap (fits_kind kind) (tree_of-is_Set v t items is) ∙ fits_set kind t (items_tree items) ∙ ap (items_test (items_tree items)) (sym known))

  pub list_by_part : (t : Tag) (items : Items) (part : Option PlainKind) → v ≡ value.List t items → part ≡ list_of_kind kind → r ≡ items_test (items_tree items) part
      → r ≡ fits_kind kind (tree_of v)
  list_by_part t items part is known here =
      here ∙ sym (ap (fits_kind kind) (tree_of-is_List v t items is) ∙ fits_list kind t (items_tree items) ∙ ap (items_test (items_tree items)) (sym known))
