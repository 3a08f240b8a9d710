use Rattle.std.proofs.Common.{◌≡◌, map, drop}
use Rattle.std.specs.Option.{option_map, option_or}
use Rattle.thrift_value.specs.TreeOf.{field_tree, field_trees}
use Rattle.client_desk.specs.Hearing.{as_bytes, last_as}
use Rattle.client_desk.proofs.replies.last_bytes.Given as goal

-- the last of what is left, or what was found before it, is the last of all
abbrev pub invariant-loop-other : goal.invariant-loop-other
invariant-loop-other l =
    option_or (last_as as_bytes l.id (field_trees (map field_tree (drop l.other-index l.fields)))) (option_map (λ bytes. bytes.now) l.found)
    ≡ last_as as_bytes l.id (field_trees (map field_tree l.fields))
