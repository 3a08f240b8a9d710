use Rattle.std.specs.Prelude.{◌↔◌}
use Rattle.std.proofs.Common.{drop, map}
use Rattle.thrift_value.specs.Tidy.{AreTidyFields, AreTidyItems, AreTidyPairs}
use Rattle.thrift_value.specs.TreeOf.{tree_of, field_tree, pair_tree, field_trees, item_trees, pair_trees, fields_tree, items_tree, pairs_tree}
use Rattle.thrift_value.proofs.value.+tidy.Given as goal

-- what is left is tidy exactly where the whole is
abbrev pub invariant-Fields::are_tidy-loop-value : goal.invariant-Fields::are_tidy-loop-value
invariant-Fields::are_tidy-loop-value l =
    AreTidyFields (field_trees (map field_tree (drop l.value-index l.value-items))) ↔ AreTidyFields (fields_tree l.self)

abbrev pub invariant-Items::are_tidy-loop-value : goal.invariant-Items::are_tidy-loop-value
invariant-Items::are_tidy-loop-value l =
    AreTidyItems l.element (item_trees (map tree_of (drop l.value-index l.value-items))) ↔ AreTidyItems l.element (items_tree l.self)

abbrev pub invariant-Pairs::are_tidy-loop-k : goal.invariant-Pairs::are_tidy-loop-k
invariant-Pairs::are_tidy-loop-k l =
    AreTidyPairs l.key l.value (pair_trees (map pair_tree (drop l.k-index l.k-items))) ↔ AreTidyPairs l.key l.value (pairs_tree l.self)
