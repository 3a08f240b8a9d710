use Rattle.std.proofs.Common.{◌≡◌, ◌++◌, map, drop}
use Rattle.std.specs.List.{flat_map}
use Rattle.schema.specs.SchemaOf.{schema_of, plain_field}
use Rattle.schema.specs.SchemaText.{field_line_of}
use Rattle.schema.proofs.fields_text.put_field_lines.Given as goal

-- what was written, and the text of what is left, is the text of all
abbrev pub invariant-loop-field : goal.invariant-loop-field
invariant-loop-field l =
    l.into.items ++ flat_map (field_line_of (schema_of l.schema)) (map plain_field (drop l.field-index l.fields))
    ≡ l.fn.into.items ++ flat_map (field_line_of (schema_of l.schema)) (map plain_field l.fields)
