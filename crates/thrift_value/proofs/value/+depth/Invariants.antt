use Rattle.std.proofs.Common.{◌≡◌, ◌≤◌, ◌-◌, ◌^◌, drop, map, min, max}
use Rattle.thrift_value.specs.Measures.{fields_depth, items_depth, pairs_depth}
use Rattle.thrift_value.specs.TreeOf.{tree_of, field_tree, pair_tree, field_trees, item_trees, pair_trees, fields_tree, items_tree, pairs_tree}
use Rattle.thrift_value.proofs.value.+depth.Given as goal

-- the depth so far or that of what is left is the depth of the whole, as far as the type goes
abbrev pub invariant-Fields::depth-loop-value : goal.invariant-Fields::depth-loop-value
invariant-Fields::depth-loop-value l =
    (l.depth ≤ 2 ^ 32 - 1) ×
    (min (max l.depth (fields_depth (field_trees (map field_tree (drop l.value-index l.value-items))))) (2 ^ 32 - 1)
    ≡ min (fields_depth (fields_tree l.self)) (2 ^ 32 - 1))

abbrev pub invariant-Items::depth-loop-value : goal.invariant-Items::depth-loop-value
invariant-Items::depth-loop-value l =
    (l.depth ≤ 2 ^ 32 - 1) ×
    (min (max l.depth (items_depth (item_trees (map tree_of (drop l.value-index l.value-items))))) (2 ^ 32 - 1)
    ≡ min (items_depth (items_tree l.self)) (2 ^ 32 - 1))

abbrev pub invariant-Pairs::depth-loop-key : goal.invariant-Pairs::depth-loop-key
invariant-Pairs::depth-loop-key l =
    (l.depth ≤ 2 ^ 32 - 1) ×
    (min (max l.depth (pairs_depth (pair_trees (map pair_tree (drop l.key-index l.key-items))))) (2 ^ 32 - 1)
    ≡ min (pairs_depth (pairs_tree l.self)) (2 ^ 32 - 1))
