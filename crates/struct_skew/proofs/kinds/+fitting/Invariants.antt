use Rattle.std.proofs.Common.{◌≡◌, map, drop}
use Rattle.thrift_value.specs.TreeOf.{tree_of, item_trees, pair_tree, pair_trees}
use Rattle.schema.specs.PlainKind.{kind_of}
use Rattle.struct_skew.specs.Fits.{each_item, each_pair, fits_kind}
use Rattle.struct_skew.proofs.kinds.+fitting.Given as goal

-- what is left fits exactly where the whole does
abbrev pub invariant-items_fit-loop-value : goal.invariant-items_fit-loop-value
invariant-items_fit-loop-value l =
    each_item (fits_kind (kind_of l.kind)) (item_trees (map tree_of (drop l.value-index l.items))) ≡ each_item (fits_kind (kind_of l.kind)) (item_trees (map tree_of l.items))

abbrev pub invariant-pairs_fit-loop-key : goal.invariant-pairs_fit-loop-key
invariant-pairs_fit-loop-key l =
    each_pair (fits_kind (kind_of l.key_kind)) (fits_kind (kind_of l.value_kind)) (pair_trees (map pair_tree (drop l.key-index l.pairs)))
    ≡ each_pair (fits_kind (kind_of l.key_kind)) (fits_kind (kind_of l.value_kind)) (pair_trees (map pair_tree l.pairs))
