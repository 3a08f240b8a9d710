use Rattle.std.proofs.Common.{◌≡◌, map, drop}
use Rattle.thrift_value.specs.TreeOf.{tree_of, field_tree, field_trees, item_trees, pair_tree, pair_trees}
use Rattle.schema.specs.PlainKind.{kind_of}
use Rattle.schema.specs.SchemaOf.{schema_of, plain_field}
use Rattle.struct_skew.specs.OutgoingTests.{do_fields_go_out, do_items_go_out, do_pairs_go_out}
use Rattle.struct_skew.proofs.outgoing.+outgoing.Given as goal

-- what is left goes out exactly where the whole does
abbrev pub invariant-fields_go_out-loop-id : goal.invariant-fields_go_out-loop-id
invariant-fields_go_out-loop-id l =
    do_fields_go_out (schema_of l.schema).structs l.levels (map plain_field l.declared) (field_trees (map field_tree (drop l.id-index l.fields)))
    ≡ do_fields_go_out (schema_of l.schema).structs l.levels (map plain_field l.declared) (field_trees (map field_tree l.fields))

abbrev pub invariant-items_go_out-loop-value : goal.invariant-items_go_out-loop-value
invariant-items_go_out-loop-value l =
    do_items_go_out (schema_of l.schema).structs l.levels (kind_of l.kind) (item_trees (map tree_of (drop l.value-index l.items)))
    ≡ do_items_go_out (schema_of l.schema).structs l.levels (kind_of l.kind) (item_trees (map tree_of l.items))

abbrev pub invariant-pairs_go_out-loop-key : goal.invariant-pairs_go_out-loop-key
invariant-pairs_go_out-loop-key l =
    do_pairs_go_out (schema_of l.schema).structs l.levels (kind_of l.key_kind) (kind_of l.value_kind) (pair_trees (map pair_tree (drop l.key-index l.pairs)))
    ≡ do_pairs_go_out (schema_of l.schema).structs l.levels (kind_of l.key_kind) (kind_of l.value_kind) (pair_trees (map pair_tree l.pairs))
