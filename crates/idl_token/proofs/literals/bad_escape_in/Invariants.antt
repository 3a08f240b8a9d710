use Rattle.std.proofs.Common.{◌≡◌, drop, false}
use Rattle.idl_token.specs.Lengths.{bad_escape_from}
use Rattle.idl_token.proofs.literals.bad_escape_in.Given as goal

-- what is found from here is what is found from the front
abbrev pub invariant-loop-i : goal.invariant-loop-i
invariant-loop-i l = bad_escape_from l.i l.taken (drop l.i l.literal) ≡ bad_escape_from 0 false l.literal
