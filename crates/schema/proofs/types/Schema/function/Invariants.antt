use Rattle.std.proofs.Common.{◌≡◌, ◌-◌, length}
use Rattle.std.specs.List.{find}
use Rattle.schema.specs.LookUp.{function_named, is_named}
use Rattle.schema.specs.SchemaOf.{schema_of}
use Rattle.schema.proofs.Lines.{functions_from}
use Rattle.schema.proofs.types.Schema.function.Given as goal

-- what is found from the next service on is what is found of all
abbrev pub invariant-loop-steps : goal.invariant-loop-steps
invariant-loop-steps l =
    find (is_named l.name) (functions_from (length l.self.services - l._steps) (schema_of l.self).services l.next) ≡ function_named (schema_of l.self) l.service l.name
