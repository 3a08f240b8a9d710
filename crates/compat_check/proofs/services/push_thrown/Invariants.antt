use Rattle.std.proofs.Common.{◌≡◌, ◌++◌, true, map, drop}
use Rattle.std.specs.Prelude.{flat_map}
use Rattle.schema.specs.PlainSchema.{PlainField}
use Rattle.schema.specs.SchemaOf.{plain_field}
use Rattle.schema.specs.WrittenAs.{field_with_id}
use Rattle.compat_model.specs.StructPairs.{field_places, pairs_at}
use Rattle.compat_check.specs.Plain.{plain_pair}
use Rattle.compat_check.proofs.services.push_thrown.Given as goal

-- what was appended, and what is left, is all
abbrev pub invariant-loop-field : goal.invariant-loop-field
invariant-loop-field l =
    map plain_pair l.into.items ++ flat_map (λ (t : PlainField). pairs_at true (field_places t (field_with_id t.id (map plain_field l.known)))) (map plain_field (drop l.field-index l.thrown))
    ≡ map plain_pair l.fn.into.items ++ flat_map (λ (t : PlainField). pairs_at true (field_places t (field_with_id t.id (map plain_field l.known)))) (map plain_field l.thrown)
