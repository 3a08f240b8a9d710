use Rattle.std.proofs.Common.{◌≡◌, map, drop}
use Rattle.schema.specs.SchemaOf.{plain_field}
use Rattle.thrift_value.specs.TreeOf.{field_tree, field_trees}
use Rattle.client_desk.specs.Hearing.{first_thrown}
use Rattle.client_desk.proofs.replies.first_thrown.Given as goal

-- the first of what is left is the first of all
abbrev pub invariant-loop-declared : goal.invariant-loop-declared
invariant-loop-declared l =
    first_thrown (map plain_field (drop l.declared-index l.throws)) (field_trees (map field_tree l.fields))
    ≡ first_thrown (map plain_field l.throws) (field_trees (map field_tree l.fields))
