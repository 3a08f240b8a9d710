use Rattle.std.proofs.Common.{◌≡◌, map, drop}
use Rattle.thrift_value.specs.TreeOf.{field_tree, field_trees}
use Rattle.struct_skew.specs.WrittenTests.{has_field_tree}
use Rattle.struct_skew.proofs.written.has_field.Given as goal

-- what is left has the id exactly where the whole has
abbrev pub invariant-loop-other : goal.invariant-loop-other
invariant-loop-other l =
    has_field_tree l.id (field_trees (map field_tree (drop l.other-index l.fields))) ≡ has_field_tree l.id (field_trees (map field_tree l.fields))
