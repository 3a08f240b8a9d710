use Rattle.wire_num.proofs.Counted.{Put}
use Rattle.std.proofs.Common.{◌≡◌}
use Rattle.wire_num.proofs.varint.put_groups.Given as goal

abbrev pub invariant-loop-i : goal.invariant-loop-i
invariant-loop-i l = Put l.number l.most l.bytes l.rest l.i × (l.into.items ≡ l.fn.into.items)
