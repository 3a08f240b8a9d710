use Rattle.std.proofs.Common.{◌≡◌}
use Rattle.idl_const.proofs.texts.charge_keys.Given as goal

-- only the steps change
abbrev pub invariant-loop-key : goal.invariant-loop-key
invariant-loop-key l = record {
  free : l.work.free ≡ l.fn.work.free;
  values : l.work.values ≡ l.fn.work.values;
}
