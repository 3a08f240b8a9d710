use Rattle.std.proofs.Common.{◌≡◌, ◌++◌, map, drop}
use Rattle.schema.specs.SchemaOf.{plain_function}
use Rattle.schema.specs.Shapes.{shown_function}
use Rattle.compat_check.proofs.functions.add_functions.Given as goal

-- what was added, and what is left, is all
abbrev pub invariant-loop-function : goal.invariant-loop-function
invariant-loop-function l =
    map shown_function l.all.items ++ map plain_function (drop l.function-index l.functions) ≡ map shown_function l.fn.all.items ++ map plain_function l.functions
