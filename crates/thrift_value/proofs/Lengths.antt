-- The number of elements of a tree and of the list that it is made of.
use Rattle.std.proofs.Common.{◌≡◌, suc, List, [], ◌∷◌, map, length, refl, ap}
use Rattle.thrift_value.specs.declared.value.Value.{Value}
use Rattle.thrift_value.specs.Sizes.{items_len, pairs_len}
use Rattle.thrift_value.specs.TreeOf.{tree_of, pair_tree, item_trees, pair_trees}

pub len_items : (xs : List Value) → items_len (item_trees (map tree_of xs)) ≡ length xs
len_items [] = refl
len_items (x ∷ xs) = ap suc (len_items xs)

pub len_pairs : (ps : List (Value × Value)) → pairs_len (pair_trees (map pair_tree ps)) ≡ length ps
len_pairs [] = refl
len_pairs (p ∷ ps) = ap suc (len_pairs ps)

pub ruleset tree_lengths = (len_items, len_pairs)
