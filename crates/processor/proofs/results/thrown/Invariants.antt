use Rattle.std.proofs.Common.{◌≡◌, map, drop}
use Rattle.schema.specs.SchemaOf.{plain_field}
use Rattle.schema.specs.WrittenAs.{field_with_id}
use Rattle.processor.proofs.results.thrown.Given as goal

-- what is found in what is left is what is found in all
abbrev pub invariant-loop-field : goal.invariant-loop-field
invariant-loop-field l =
    field_with_id l.id (map plain_field (drop l.field-index l.throws)) ≡ field_with_id l.id (map plain_field l.throws)
