use Rattle.std.proofs.Common.{◌≡◌, map, drop}
use Rattle.thrift_value.specs.TreeOf.{tree_of, field_tree, field_trees, item_trees, pair_tree, pair_trees}
use Rattle.schema.specs.LookUp.{fields_at}
use Rattle.schema.specs.PlainKind.{kind_of}
use Rattle.schema.specs.SchemaOf.{schema_of}
use Rattle.struct_skew.specs.FilledTests.{are_fields_filled, are_items_filled, are_pairs_filled}
use Rattle.struct_skew.proofs.settled.+filling.Given as goal

-- what is left is filled exactly where the whole is
abbrev pub invariant-fields_are_filled-loop-id : goal.invariant-fields_are_filled-loop-id
invariant-fields_are_filled-loop-id l =
    are_fields_filled (schema_of l.schema).structs (fields_at (schema_of l.schema) l.which) (field_trees (map field_tree (drop l.id-index l.fields)))
    ≡ are_fields_filled (schema_of l.schema).structs (fields_at (schema_of l.schema) l.which) (field_trees (map field_tree l.fields))

abbrev pub invariant-items_are_filled-loop-value : goal.invariant-items_are_filled-loop-value
invariant-items_are_filled-loop-value l =
    are_items_filled (schema_of l.schema).structs (kind_of l.kind) (item_trees (map tree_of (drop l.value-index l.items)))
    ≡ are_items_filled (schema_of l.schema).structs (kind_of l.kind) (item_trees (map tree_of l.items))

abbrev pub invariant-pairs_are_filled-loop-key : goal.invariant-pairs_are_filled-loop-key
invariant-pairs_are_filled-loop-key l =
    are_pairs_filled (schema_of l.schema).structs (kind_of l.key_kind) (kind_of l.value_kind) (pair_trees (map pair_tree (drop l.key-index l.pairs)))
    ≡ are_pairs_filled (schema_of l.schema).structs (kind_of l.key_kind) (kind_of l.value_kind) (pair_trees (map pair_tree l.pairs))
