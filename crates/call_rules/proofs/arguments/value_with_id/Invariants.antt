use Rattle.std.proofs.Common.{◌≡◌, map, drop}
use Rattle.thrift_value.specs.TreeOf.{field_tree, field_trees}
use Rattle.call_rules.specs.Arguments.{value_with_id}
use Rattle.call_rules.proofs.arguments.value_with_id.Given as goal

-- what is found in what is left is what is found in all
abbrev pub invariant-loop-number : goal.invariant-loop-number
invariant-loop-number l =
    value_with_id l.id (field_trees (map field_tree (drop l.number-index l.fields))) ≡ value_with_id l.id (field_trees (map field_tree l.fields))
