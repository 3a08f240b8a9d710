use Rattle.std.proofs.Common.{◌≡◌, map, drop}
use Rattle.schema.specs.LookUp.{fields_at}
use Rattle.schema.specs.SchemaOf.{schema_of, plain_field}
use Rattle.compat_model.specs.declared.break_kind.BreakKind.TheVariants as breaks
use Rattle.compat_model.specs.Faults.{first_at_fault, is_unknown}
use Rattle.compat_check.proofs.faults.first_unknown.Given as goal

-- the first of what is left is the first of all
abbrev pub invariant-loop-field : goal.invariant-loop-field
invariant-loop-field l =
    first_at_fault breaks.UnionField (is_unknown (fields_at (schema_of l.reader) l.read)) (map plain_field (drop l.field-index l.fields))
    ≡ first_at_fault breaks.UnionField (is_unknown (fields_at (schema_of l.reader) l.read)) (map plain_field l.fields)
