use Rattle.std.proofs.Common.{◌≡◌, ◌+◌, drop, false}
use Rattle.idl_token.specs.Lengths.{closed_from}
use Rattle.idl_token.proofs.literals.closed_len.Given as goal

-- what is found from here is what is found from the front
abbrev pub invariant-loop-i : goal.invariant-loop-i
invariant-loop-i l = closed_from (l.i + 1) l.quote l.taken (drop l.i l.inside) ≡ closed_from 1 l.quote false l.inside
