use Rattle.std.proofs.Common.{◌≡◌, map, drop}
use Rattle.schema.specs.SchemaOf.{plain_service}
use Rattle.compat_model.specs.Breaks.{break_of_service}
use Rattle.compat_model.specs.InOrder.{first_answer_from}
use Rattle.compat_check.specs.Plain.{change_of}
use Rattle.compat_check.proofs.answering.first_break_of_services.Given as goal

-- the first break of what is left is the first of all
abbrev pub invariant-loop-place : goal.invariant-loop-place
invariant-loop-place l =
    first_answer_from (break_of_service (change_of l.change)) l.place (map plain_service (drop l.place l.services))
    ≡ first_answer_from (break_of_service (change_of l.change)) 0 (map plain_service l.services)
