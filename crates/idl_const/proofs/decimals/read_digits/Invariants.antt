use Rattle.std.proofs.Common.{◌≡◌, ◌≤◌, drop}
use Rattle.idl_token.specs.Numbers.{value_behind}
use Rattle.idl_const.specs.Digits.{capped}
use Rattle.idl_const.proofs.decimals.read_digits.Given as goal

-- the digits that are left, behind those that were read
abbrev pub invariant-loop-byte : goal.invariant-loop-byte
invariant-loop-byte l = record {
  value : capped (value_behind 10 l.value (drop l.byte-index l.digits)) ≡ capped (value_behind 10 l.before l.digits);
  most : l.value ≤ 9007199254740993;
}
