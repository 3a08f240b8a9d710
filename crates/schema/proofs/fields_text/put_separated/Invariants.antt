use Rattle.std.proofs.Common.{◌≡◌, ◌++◌, map, drop, codes}
use Rattle.std.specs.List.{flat_map}
use Rattle.schema.specs.SchemaOf.{schema_of, plain_field}
use Rattle.schema.specs.SchemaText.{field_in_text}
use Rattle.schema.proofs.fields_text.put_separated.Given as goal

-- what was written, and the text of what is left, is the text of all
abbrev pub invariant-loop-field : goal.invariant-loop-field
invariant-loop-field l =
    l.into.items ++ flat_map (λ y. codes ", " ++ y) (map (field_in_text (schema_of l.schema)) (map plain_field (drop l.field-index l.more)))
    ≡ l.initial.into.items ++ flat_map (λ y. codes ", " ++ y) (map (field_in_text (schema_of l.schema)) (map plain_field l.more))
