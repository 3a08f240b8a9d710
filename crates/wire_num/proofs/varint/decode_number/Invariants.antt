use Rattle.wire_num.proofs.Counted.{Counted}
use Rattle.wire_num.proofs.varint.decode_number.Given as goal

abbrev pub invariant-loop-i : goal.invariant-loop-i
invariant-loop-i l = Counted l.bytes l.most l.number l.weight l.i
