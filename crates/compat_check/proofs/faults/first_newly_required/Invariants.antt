use Rattle.std.proofs.Common.{◌≡◌, map, drop}
use Rattle.schema.specs.LookUp.{fields_at}
use Rattle.schema.specs.SchemaOf.{schema_of, plain_field}
use Rattle.compat_model.specs.declared.break_kind.BreakKind.TheVariants as breaks
use Rattle.compat_model.specs.Faults.{first_at_fault, is_newly_required}
use Rattle.compat_check.proofs.faults.first_newly_required.Given as goal

-- the first of what is left is the first of all
abbrev pub invariant-loop-field : goal.invariant-loop-field
invariant-loop-field l =
    first_at_fault breaks.NewRequired (is_newly_required (fields_at (schema_of l.writer) l.written)) (map plain_field (drop l.field-index l.fields))
    ≡ first_at_fault breaks.NewRequired (is_newly_required (fields_at (schema_of l.writer) l.written)) (map plain_field l.fields)
