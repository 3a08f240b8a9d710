use Rattle.std.proofs.Common.{◌≡◌, ◌++◌, map, drop, codes}
use Rattle.std.specs.List.{flat_map}
use Rattle.schema.specs.SchemaOf.{plain_field}
use Rattle.schema.specs.Shapes.{id_and_tags}
use Rattle.schema.proofs.shapes.put_separated.Given as goal

-- what was written, and the text of what is left, is the text of all
abbrev pub invariant-loop-field : goal.invariant-loop-field
invariant-loop-field l =
    l.into.items ++ flat_map (λ y. codes "," ++ y) (map id_and_tags (map plain_field (drop l.field-index l.more)))
    ≡ l.initial.into.items ++ flat_map (λ y. codes "," ++ y) (map id_and_tags (map plain_field l.more))
