use Rattle.std.proofs.Common.{◌≡◌, map, drop}
use Rattle.thrift_value.specs.TreeOf.{tree_of, field_tree, field_trees, item_trees, pair_tree, pair_trees}
use Rattle.schema.specs.LookUp.{fields_at}
use Rattle.schema.specs.PlainKind.{kind_of}
use Rattle.schema.specs.SchemaOf.{schema_of}
use Rattle.struct_skew.specs.WrittenTests.{are_fields_written_as, are_items_written_as, are_pairs_written_as}
use Rattle.struct_skew.proofs.written.+writing.Given as goal

-- what is left is of its type exactly where the whole is
abbrev pub invariant-fields_are_written-loop-id : goal.invariant-fields_are_written-loop-id
invariant-fields_are_written-loop-id l =
    are_fields_written_as (schema_of l.schema).structs (fields_at (schema_of l.schema) l.which) (field_trees (map field_tree (drop l.id-index l.fields)))
    ≡ are_fields_written_as (schema_of l.schema).structs (fields_at (schema_of l.schema) l.which) (field_trees (map field_tree l.fields))

abbrev pub invariant-items_are_written-loop-value : goal.invariant-items_are_written-loop-value
invariant-items_are_written-loop-value l =
    are_items_written_as (schema_of l.schema).structs (kind_of l.kind) (item_trees (map tree_of (drop l.value-index l.items)))
    ≡ are_items_written_as (schema_of l.schema).structs (kind_of l.kind) (item_trees (map tree_of l.items))

abbrev pub invariant-pairs_are_written-loop-key : goal.invariant-pairs_are_written-loop-key
invariant-pairs_are_written-loop-key l =
    are_pairs_written_as (schema_of l.schema).structs (kind_of l.key_kind) (kind_of l.value_kind) (pair_trees (map pair_tree (drop l.key-index l.pairs)))
    ≡ are_pairs_written_as (schema_of l.schema).structs (kind_of l.key_kind) (kind_of l.value_kind) (pair_trees (map pair_tree l.pairs))
