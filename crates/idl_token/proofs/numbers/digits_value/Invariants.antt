use Rattle.std.proofs.Common.{◌≡◌, drop}
use Rattle.idl_token.specs.Numbers.{value_behind}
use Rattle.idl_token.proofs.numbers.digits_value.Given as goal

abbrev pub invariant-loop-byte : goal.invariant-loop-byte
invariant-loop-byte l = value_behind l.radix l.value (drop l.byte-index l.digits) ≡ value_behind l.radix 0 l.digits
