use Rattle.std.proofs.Common.{◌+◌, ◌*◌, drop, map}
use Rattle.thrift_value.specs.Measures.{depth_of, fields_depth, items_depth, pairs_depth}
use Rattle.thrift_value.specs.TreeOf.{tree_of, field_tree, pair_tree, field_trees, item_trees, pair_trees}
use Rattle.wire_walk.proofs.Written.{AreFieldsWritten, AreItemsWritten, ArePairsWritten}
use Rattle.wire_walk.proofs.writing.+writing.Given as goal

-- levels, and what is called by what within one
abbrev pub decreases-put : goal.decreases-put
decreases-put g l = 3 * depth_of (tree_of l.value.now)

abbrev pub decreases-put_behind : goal.decreases-put_behind
decreases-put_behind g l = 3 * depth_of (tree_of l.value.now) + 1

abbrev pub decreases-put_fields : goal.decreases-put_fields
decreases-put_fields g l = 3 * fields_depth (field_trees (map field_tree l.fields.now)) + 2

abbrev pub decreases-put_items : goal.decreases-put_items
decreases-put_items g l = 3 * items_depth (item_trees (map tree_of l.items.now)) + 2

abbrev pub decreases-put_pairs : goal.decreases-put_pairs
decreases-put_pairs g l = 3 * pairs_depth (pair_trees (map pair_tree l.pairs.now)) + 2

-- what was written, and the text of what is left, is the text of all
abbrev pub invariant-put_fields-loop-id : goal.invariant-put_fields-loop-id
invariant-put_fields-loop-id g l = AreFieldsWritten g.C.WireProtocol.encoder l.last (drop l.id-index l.fields) l.fields l.fn.into.items l.into.items

abbrev pub invariant-put_items-loop-value : goal.invariant-put_items-loop-value
invariant-put_items-loop-value g l = AreItemsWritten g.C.WireProtocol.encoder (drop l.value-index l.items) l.items l.initial.into.items l.into.items

abbrev pub invariant-put_pairs-loop-key : goal.invariant-put_pairs-loop-key
invariant-put_pairs-loop-key g l = ArePairsWritten g.C.WireProtocol.encoder (drop l.key-index l.pairs) l.pairs l.initial.into.items l.into.items
