use Rattle.std.proofs.Common.{◌≡◌, ◌++◌, map, drop}
use Rattle.std.specs.Prelude.{flat_map}
use Rattle.schema.specs.Shapes.{shown_function}
use Rattle.compat_model.specs.StructPairs.{argument_pairs}
use Rattle.compat_check.specs.Plain.{plain_pair}
use Rattle.compat_check.specs.Tables.{tabled_function, pairs_looked_up}
use Rattle.compat_check.proofs.services.push_all_arguments.Given as goal

-- what was appended, and what is left, is all
abbrev pub invariant-loop-function : goal.invariant-loop-function
invariant-loop-function l =
    map plain_pair l.into.items ++ flat_map (pairs_looked_up argument_pairs (tabled_function l.table)) (map shown_function (drop l.function-index l.functions))
    ≡ map plain_pair l.fn.into.items ++ flat_map (pairs_looked_up argument_pairs (tabled_function l.table)) (map shown_function l.functions)
