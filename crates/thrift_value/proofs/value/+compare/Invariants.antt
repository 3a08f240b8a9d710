use Rattle.std.proofs.Common.{◌≡◌, drop, map}
use Rattle.thrift_value.specs.Order.{fields_cmp, items_cmp, pairs_cmp}
use Rattle.thrift_value.specs.TreeOf.{tree_of, field_tree, pair_tree, field_trees, item_trees, pair_trees, fields_tree, items_tree, pairs_tree, fields_of, items_of, pairs_of}
use Rattle.thrift_value.proofs.value.+compare.Given as goal

-- so far they were alike, so what is left decides
abbrev pub invariant-Fields::compare-loop-i : goal.invariant-Fields::compare-loop-i
invariant-Fields::compare-loop-i l =
    fields_cmp (field_trees (map field_tree (drop l.i (fields_of l.self)))) (field_trees (map field_tree (drop l.i (fields_of l.other))))
    ≡ fields_cmp (fields_tree l.self) (fields_tree l.other)

abbrev pub invariant-Items::compare-loop-i : goal.invariant-Items::compare-loop-i
invariant-Items::compare-loop-i l =
    items_cmp (item_trees (map tree_of (drop l.i (items_of l.self)))) (item_trees (map tree_of (drop l.i (items_of l.other))))
    ≡ items_cmp (items_tree l.self) (items_tree l.other)

abbrev pub invariant-Pairs::compare-loop-i : goal.invariant-Pairs::compare-loop-i
invariant-Pairs::compare-loop-i l =
    pairs_cmp (pair_trees (map pair_tree (drop l.i (pairs_of l.self)))) (pair_trees (map pair_tree (drop l.i (pairs_of l.other))))
    ≡ pairs_cmp (pairs_tree l.self) (pairs_tree l.other)
