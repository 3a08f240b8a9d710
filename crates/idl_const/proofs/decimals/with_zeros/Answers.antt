use Rattle.std.proofs.Common.{◌-◌, sym, ◌∙◌, arith}
use Rattle.idl_const.proofs.WholeNumbers.{zeros_step, cap_stays}
use Rattle.idl_const.proofs.decimals.with_zeros.Goals as goal

pub returns-then-value-eq-CAP : goal.returns-then-value-eq-CAP
returns-then-value-eq-CAP c = sym (cap_stays c.loop-place.value (c.args.places - c.loop-place.place) c.if-value-eq-CAP.true) ∙ c.loop-place.invariant.value

pub loop-place-preserved : goal.loop-place-preserved
loop-place-preserved c = record {
  value = zeros_step c.loop-place.value c.min-value.result c.args.places c.loop-place.place _ c.loop-place-test.true c.min-value.ensures c.loop-place.invariant.value;
  most = omega (arith, c.min-value.ensures);
}
