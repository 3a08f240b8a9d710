use Rattle.std.proofs.Common.{◌≡◌, map, drop}
use Rattle.thrift_value.specs.TreeOf.{field_tree, field_trees}
use Rattle.schema.specs.SchemaOf.{plain_field}
use Rattle.struct_skew.specs.WrittenTests.{has_required_fields}
use Rattle.struct_skew.proofs.written.has_all_required.Given as goal

-- what is left is there exactly where the whole is
abbrev pub invariant-loop-field : goal.invariant-loop-field
invariant-loop-field l =
    has_required_fields (map plain_field (drop l.field-index l.declared)) (field_trees (map field_tree l.fields))
    ≡ has_required_fields (map plain_field l.declared) (field_trees (map field_tree l.fields))
