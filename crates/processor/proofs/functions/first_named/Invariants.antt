use Rattle.std.proofs.Common.{◌≡◌, map, drop}
use Rattle.std.specs.List.{find}
use Rattle.schema.specs.LookUp.{is_named}
use Rattle.schema.specs.SchemaOf.{plain_function}
use Rattle.processor.proofs.functions.first_named.Given as goal

-- what is found in what is left is what is found in all
abbrev pub invariant-loop-function : goal.invariant-loop-function
invariant-loop-function l =
    find (is_named l.name) (map plain_function (drop l.function-index l.functions)) ≡ find (is_named l.name) (map plain_function l.functions)
