use Rattle.std.proofs.Common.{arith}
use Rattle.idl_token.proofs.Values.{next_fits}
use Rattle.idl_token.proofs.numbers.digits_value.Goals as goal

pub overflow_mul-value : goal.overflow_mul-value
overflow_mul-value c =
    let next = next_fits c.args.radix c.loop-byte.value c.loop-byte.byte-index c.args.digits.now c.requires.some c.loop-byte-test.true
    c.loop-byte.invariant c.requires.fits in
    record { fits = omega (arith, next) }

pub overflow_add-value : goal.overflow_add-value
overflow_add-value c =
    let next = next_fits c.args.radix c.loop-byte.value c.loop-byte.byte-index c.args.digits.now c.requires.some c.loop-byte-test.true
    c.loop-byte.invariant c.requires.fits in
    record { fits = omega (arith, next, c.from.ensures, c.digit_value.ensures) }
