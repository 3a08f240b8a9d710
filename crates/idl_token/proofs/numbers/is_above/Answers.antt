use Rattle.std.proofs.Common.{arith}
use Rattle.idl_token.proofs.Values.{above}
use Rattle.idl_token.proofs.numbers.is_above.Goals as goal

pub returns-in_default : goal.returns-in_default
returns-in_default c =
    above c.args.radix c.loop-byte.value c.args.most c.loop-byte.byte-index c.args.digits.now c.requires c.loop-byte-test.true
    (omega (arith, c.in_default.ensures, c.ranges.most.fits)) c.loop-byte.invariant.number

pub returns-in_default-checked_add : goal.returns-in_default-checked_add
returns-in_default-checked_add c =
    above c.args.radix c.loop-byte.value c.args.most c.loop-byte.byte-index c.args.digits.now c.requires c.loop-byte-test.true
    (omega (arith, c.in_default-checked_add.ensures, c.in-Some.ensures, c.from.ensures, c.digit_value.ensures, c.ranges.most.fits)) c.loop-byte.invariant.number

pub returns-then-next-most : goal.returns-then-next-most
returns-then-next-most c =
    above c.args.radix c.loop-byte.value c.args.most c.loop-byte.byte-index c.args.digits.now c.requires c.loop-byte-test.true
    (omega (arith, c.if-next-most.true, c.in-Some-checked_add.ensures, c.in-Some.ensures, c.from.ensures, c.digit_value.ensures)) c.loop-byte.invariant.number
