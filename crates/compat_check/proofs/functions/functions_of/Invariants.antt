use Rattle.std.proofs.Common.{◌≡◌, ◌++◌, ◌-◌, length, map}
use Rattle.schema.specs.Inherited.{functions_of}
use Rattle.schema.specs.SchemaOf.{schema_of}
use Rattle.schema.specs.Shapes.{shown_function}
use Rattle.schema.proofs.Lines.{functions_from}
use Rattle.compat_check.proofs.functions.functions_of.Given as goal

-- what was gathered, and the functions from the next service on, are all
abbrev pub invariant-loop-steps : goal.invariant-loop-steps
invariant-loop-steps l =
    map shown_function l.all.items ++ functions_from (length l.schema.services - l._steps) (schema_of l.schema).services l.next ≡ functions_of (schema_of l.schema).services l.service
