use Rattle.std.proofs.Common.{◌≡◌, drop}
use Rattle.idl_token.specs.Lengths.{comment_from}
use Rattle.idl_token.proofs.blanks.comment_end.Given as goal

-- what is found from here is what is found from the front
abbrev pub invariant-loop-i : goal.invariant-loop-i
invariant-loop-i l = comment_from l.i (drop l.i l.text) ≡ comment_from 0 l.text
