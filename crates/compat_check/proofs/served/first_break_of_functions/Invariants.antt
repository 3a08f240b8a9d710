use Rattle.std.proofs.Common.{◌≡◌, map, drop}
use Rattle.schema.specs.Shapes.{shown_function}
use Rattle.compat_model.specs.InOrder.{first_answer}
use Rattle.compat_check.specs.Plain.{change_of}
use Rattle.compat_check.specs.Tables.{break_looked_up, tabled_function}
use Rattle.compat_check.proofs.served.first_break_of_functions.Given as goal

-- the first break of what is left is the first of all
abbrev pub invariant-loop-function : goal.invariant-loop-function
invariant-loop-function l =
    first_answer (break_looked_up (change_of l.change) (tabled_function l.table)) (map shown_function (drop l.function-index l.functions))
    ≡ first_answer (break_looked_up (change_of l.change) (tabled_function l.table)) (map shown_function l.functions)
