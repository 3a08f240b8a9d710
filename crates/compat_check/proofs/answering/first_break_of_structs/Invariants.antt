use Rattle.std.proofs.Common.{◌≡◌, map, drop}
use Rattle.schema.specs.SchemaOf.{plain_struct}
use Rattle.compat_model.specs.Breaks.{break_of_struct}
use Rattle.compat_model.specs.InOrder.{first_answer_from}
use Rattle.compat_check.specs.Plain.{change_of}
use Rattle.compat_check.proofs.answering.first_break_of_structs.Given as goal

-- the first break of what is left is the first of all
abbrev pub invariant-loop-place : goal.invariant-loop-place
invariant-loop-place l =
    first_answer_from (break_of_struct (change_of l.change)) l.place (map plain_struct (drop l.place l.structs))
    ≡ first_answer_from (break_of_struct (change_of l.change)) 0 (map plain_struct l.structs)
