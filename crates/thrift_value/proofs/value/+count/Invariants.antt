use Rattle.std.proofs.Common.{◌≡◌, ◌≤◌, ◌+◌, ◌-◌, ◌^◌, drop, map, min}
use Rattle.thrift_value.specs.Measures.{fields_count, items_count, pairs_count}
use Rattle.thrift_value.specs.TreeOf.{tree_of, field_tree, pair_tree, field_trees, item_trees, pair_trees, fields_tree, items_tree, pairs_tree}
use Rattle.thrift_value.proofs.value.+count.Given as goal

-- the count so far and that of what is left make the whole, as far as the type goes
abbrev pub invariant-Fields::count-loop-value : goal.invariant-Fields::count-loop-value
invariant-Fields::count-loop-value l =
    (l.count ≤ 2 ^ 64 - 1) ×
    (min (l.count + fields_count (field_trees (map field_tree (drop l.value-index l.value-items)))) (2 ^ 64 - 1)
    ≡ min (fields_count (fields_tree l.self)) (2 ^ 64 - 1))

abbrev pub invariant-Items::count-loop-value : goal.invariant-Items::count-loop-value
invariant-Items::count-loop-value l =
    (l.count ≤ 2 ^ 64 - 1) ×
    (min (l.count + items_count (item_trees (map tree_of (drop l.value-index l.value-items)))) (2 ^ 64 - 1)
    ≡ min (items_count (items_tree l.self)) (2 ^ 64 - 1))

abbrev pub invariant-Pairs::count-loop-key : goal.invariant-Pairs::count-loop-key
invariant-Pairs::count-loop-key l =
    (l.count ≤ 2 ^ 64 - 1) ×
    (min (l.count + pairs_count (pair_trees (map pair_tree (drop l.key-index l.key-items)))) (2 ^ 64 - 1)
    ≡ min (pairs_count (pairs_tree l.self)) (2 ^ 64 - 1))
