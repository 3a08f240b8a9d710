use Rattle.std.proofs.Common.{◌≡◌, ◌++◌, map, drop}
use Rattle.std.specs.Prelude.{flat_map}
use Rattle.schema.specs.LookUp.{field_at}
use Rattle.schema.specs.PlainSchema.{PlainField}
use Rattle.schema.specs.SchemaOf.{schema_of, plain_field}
use Rattle.compat_model.specs.StructPairs.{field_places, pairs_at}
use Rattle.compat_check.specs.Plain.{plain_pair}
use Rattle.compat_check.proofs.pairs.push_fields_within.Given as goal

-- what was appended, and what is left, is all
abbrev pub invariant-loop-field : goal.invariant-loop-field
invariant-loop-field l =
    map plain_pair l.into.items ++ flat_map (λ (f : PlainField). pairs_at l.backward (field_places f (field_at (schema_of l.reader) l.read f.id))) (map plain_field (drop l.field-index l.fields))
    ≡ map plain_pair l.fn.into.items ++ flat_map (λ (f : PlainField). pairs_at l.backward (field_places f (field_at (schema_of l.reader) l.read f.id))) (map plain_field l.fields)
