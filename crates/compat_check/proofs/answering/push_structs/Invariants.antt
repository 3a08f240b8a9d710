use Rattle.std.proofs.Common.{◌≡◌, ◌++◌, map, drop}
use Rattle.schema.specs.SchemaOf.{plain_struct}
use Rattle.compat_model.specs.InOrder.{gathered_from}
use Rattle.compat_model.specs.StructPairs.{pairs_of_struct}
use Rattle.compat_check.specs.Plain.{change_of, plain_pair}
use Rattle.compat_check.proofs.answering.push_structs.Given as goal

-- what was appended, and what is left, is all
abbrev pub invariant-loop-place : goal.invariant-loop-place
invariant-loop-place l =
    map plain_pair l.into.items ++ gathered_from (pairs_of_struct (change_of l.change)) l.place (map plain_struct (drop l.place l.structs))
    ≡ map plain_pair l.fn.into.items ++ gathered_from (pairs_of_struct (change_of l.change)) 0 (map plain_struct l.structs)
