use Rattle.std.specs.Prelude.{◌↔◌}
use Rattle.std.proofs.Common.{drop, map}
use Rattle.thrift_value.specs.Sizes.{HaveFieldsSmallSizes, HaveItemsSmallSizes, HavePairsSmallSizes}
use Rattle.thrift_value.specs.TreeOf.{tree_of, field_tree, pair_tree, field_trees, item_trees, pair_trees, fields_tree, items_tree, pairs_tree}
use Rattle.thrift_value.proofs.value.+sizes.Given as goal

-- what is left has small sizes exactly where the whole has
abbrev pub invariant-Fields::have_small_sizes-loop-value : goal.invariant-Fields::have_small_sizes-loop-value
invariant-Fields::have_small_sizes-loop-value l =
    HaveFieldsSmallSizes (field_trees (map field_tree (drop l.value-index l.value-items))) ↔ HaveFieldsSmallSizes (fields_tree l.self)

abbrev pub invariant-Items::have_small_sizes-loop-value : goal.invariant-Items::have_small_sizes-loop-value
invariant-Items::have_small_sizes-loop-value l =
    HaveItemsSmallSizes (item_trees (map tree_of (drop l.value-index l.value-items))) ↔ HaveItemsSmallSizes (items_tree l.self)

abbrev pub invariant-Pairs::have_small_sizes-loop-key : goal.invariant-Pairs::have_small_sizes-loop-key
invariant-Pairs::have_small_sizes-loop-key l =
    HavePairsSmallSizes (pair_trees (map pair_tree (drop l.key-index l.key-items))) ↔ HavePairsSmallSizes (pairs_tree l.self)
