use Rattle.std.proofs.Common.{arith, rules}
use Rattle.idl_const.proofs.WholeBits.{bits_are, bits_below}
use Rattle.idl_const.proofs.doubles.magnitude_bits.Goals as goal

pub overflow_mul-result : goal.overflow_mul-result
overflow_mul-result c = omega (arith, bits_below c.from.result c.power-2.result 0 (omega arith) c.power-2.ensures (omega arith))

pub overflow_add-result-2 : goal.overflow_add-result-2
overflow_add-result-2 c = omega (arith, bits_below c.from.result c.power-2.result c.fraction.result (omega arith) c.power-2.ensures (omega arith))

pub returns-clause-below : goal.returns-clause-below
returns-clause-below c = omega (arith, bits_below c.from.result c.power-2.result c.fraction.result (omega arith) c.power-2.ensures (omega arith))

pub returns-clause-value : goal.returns-clause-value
returns-clause-value c =
    bits_are c.args.number c.highest_bit-place.result c.from.result c.power-2.result c.fraction.result c.power.result c.if-number-eq0.false c.highest_bit-place.ensures.value
    (search rules) c.power-2.ensures c.power.ensures c.fraction.ensures.value
