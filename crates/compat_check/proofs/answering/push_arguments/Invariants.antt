use Rattle.std.proofs.Common.{◌≡◌, ◌++◌, map, drop}
use Rattle.schema.specs.SchemaOf.{plain_service}
use Rattle.compat_model.specs.InOrder.{gathered_from}
use Rattle.compat_model.specs.StructPairs.{argument_pairs, pairs_of_service}
use Rattle.compat_check.specs.Plain.{change_of, plain_pair}
use Rattle.compat_check.proofs.answering.push_arguments.Given as goal

-- what was appended, and what is left, is all
abbrev pub invariant-loop-place : goal.invariant-loop-place
invariant-loop-place l =
    map plain_pair l.into.items ++ gathered_from (pairs_of_service (change_of l.change) argument_pairs) l.place (map plain_service (drop l.place l.services))
    ≡ map plain_pair l.fn.into.items ++ gathered_from (pairs_of_service (change_of l.change) argument_pairs) 0 (map plain_service l.services)
