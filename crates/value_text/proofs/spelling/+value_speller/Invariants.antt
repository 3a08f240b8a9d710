use Rattle.std.proofs.Common.{map, drop}
use Rattle.std.specs.List.{flat_map}
use Rattle.thrift_value.specs.TreeOf.{tree_of, pair_tree, item_trees, pair_trees}
use Rattle.value_text.specs.Handing.{HandsOver}
use Rattle.value_text.specs.ValueText.{listed_items, listed_pairs}
use Rattle.value_text.proofs.Handed.{opened_fields, next_field, next_item, next_pair}
use Rattle.value_text.proofs.spelling.+value_speller.Given as goal

-- what is left to be taken is the text of what is left

abbrev pub invariant-spell_fields-loop-id : goal.invariant-spell_fields-loop-id
invariant-spell_fields-loop-id g l =
    HandsOver (g.K.Sink.taken l.fn.out) (g.K.Sink.taken l.out) (g.K.Sink.faults l.fn.out) (g.K.Sink.faults l.out)
    (opened_fields l.fn.fields) (flat_map next_field (drop l.id-index l.more))

abbrev pub invariant-spell_items-loop-item : goal.invariant-spell_items-loop-item
invariant-spell_items-loop-item g l =
    HandsOver (g.K.Sink.taken l.fn.out) (g.K.Sink.taken l.out) (g.K.Sink.faults l.fn.out) (g.K.Sink.faults l.out)
    (listed_items (item_trees (map tree_of l.fn.items))) (flat_map next_item (drop l.item-index l.more))

abbrev pub invariant-spell_pairs-loop-key : goal.invariant-spell_pairs-loop-key
invariant-spell_pairs-loop-key g l =
    HandsOver (g.K.Sink.taken l.fn.out) (g.K.Sink.taken l.out) (g.K.Sink.faults l.fn.out) (g.K.Sink.faults l.out)
    (listed_pairs (pair_trees (map pair_tree l.fn.pairs))) (flat_map next_pair (drop l.key-index l.more))
