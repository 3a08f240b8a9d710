use Rattle.std.proofs.Common.{◌≡◌, map, drop}
use Rattle.std.specs.Prelude.{find}
use Rattle.schema.specs.SchemaOf.{plain_field}
use Rattle.compat_model.specs.Breaks.{is_unknown_exception}
use Rattle.compat_check.proofs.served.first_unknown_exception.Given as goal

-- what is found in what is left is what is found in all
abbrev pub invariant-loop-field : goal.invariant-loop-field
invariant-loop-field l =
    find (is_unknown_exception (map plain_field l.known)) (map plain_field (drop l.field-index l.thrown)) ≡ find (is_unknown_exception (map plain_field l.known)) (map plain_field l.thrown)
