use Rattle.std.proofs.Common.{◌≡◌, ◌-◌, ◌*◌, ◌^◌, ◌≤◌}
use Rattle.idl_const.specs.Digits.{capped}
use Rattle.idl_const.proofs.decimals.with_zeros.Given as goal

-- the zeros that are left
abbrev pub invariant-loop-place : goal.invariant-loop-place
invariant-loop-place l = record {
  value : capped (l.value * 10 ^ (l.places - l.place)) ≡ capped (l.number * 10 ^ l.places);
  most : l.value ≤ 9007199254740993;
}
