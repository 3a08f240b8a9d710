use Rattle.std.proofs.Common.{◌≡◌, ◌-◌, length}
use Rattle.std.specs.List.{find}
use Rattle.schema.specs.LookUp.{function_named, is_named}
use Rattle.schema.specs.SchemaOf.{schema_of}
use Rattle.schema.proofs.Lines.{functions_from}
use Rattle.processor.proofs.functions.function_by_name.Given as goal

-- what is found from the next service on is what is found of all
abbrev pub invariant-loop-steps : goal.invariant-loop-steps
invariant-loop-steps l =
    find (is_named l.name) (functions_from (length l.schema.services - l._steps) (schema_of l.schema).services l.next) ≡ function_named (schema_of l.schema) l.service l.name
