use Rattle.std.proofs.Common.{◌≡◌, ◌++◌, drop, false}
use Rattle.idl_parser.specs.Leaves.{unescaped}
use Rattle.idl_parser.proofs.leaves.unescaped.Given as goal

abbrev pub invariant-loop-byte : goal.invariant-loop-byte
invariant-loop-byte l = l.all.items ++ unescaped l.taken (drop l.byte-index l.bytes) ≡ unescaped false l.bytes
