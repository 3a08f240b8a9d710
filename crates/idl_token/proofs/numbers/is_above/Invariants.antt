use Rattle.std.proofs.Common.{◌≡◌, ◌≤◌, drop}
use Rattle.idl_token.specs.Numbers.{value_behind}
use Rattle.idl_token.proofs.numbers.is_above.Given as goal

-- the value so far isn't above, and the digits left complete the number
abbrev pub invariant-loop-byte : goal.invariant-loop-byte
invariant-loop-byte l = record {
  below : l.value ≤ l.most;
  number : value_behind l.radix l.value (drop l.byte-index l.digits) ≡ value_behind l.radix 0 l.digits;
}
