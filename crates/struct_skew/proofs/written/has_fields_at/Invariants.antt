use Rattle.std.proofs.Common.{◌≡◌, map, drop}
use Rattle.thrift_value.specs.TreeOf.{field_tree, field_trees}
use Rattle.schema.specs.SchemaOf.{plain_field}
use Rattle.struct_skew.specs.WrittenTests.{has_fields_at}
use Rattle.struct_skew.proofs.written.has_fields_at.Given as goal

-- what is left is there exactly where the whole is
abbrev pub invariant-loop-place : goal.invariant-loop-place
invariant-loop-place l =
    has_fields_at (map plain_field l.declared) (drop l.place-index l.places) (field_trees (map field_tree l.fields))
    ≡ has_fields_at (map plain_field l.declared) l.places (field_trees (map field_tree l.fields))
