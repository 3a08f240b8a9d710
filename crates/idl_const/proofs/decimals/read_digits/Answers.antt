use Rattle.std.proofs.Common.{◌≡◌, get_or, arith, rules}
use Rattle.idl_token.specs.Numbers.{digit_value}
use Rattle.idl_const.proofs.WholeNumbers.{digits_step}
use Rattle.idl_const.proofs.decimals.read_digits.Goals as goal

pub loop-byte-preserved : goal.loop-byte-preserved
loop-byte-preserved c =
    let digit : c.from.result ≡ digit_value (get_or c.args.digits.now c.loop-byte.byte-index 0) = search rules in
    record {
      value = digits_step c.args.digits.now c.loop-byte.byte-index c.loop-byte.value c.from.result c.min-value.result _ c.loop-byte-test.true digit c.min-value.ensures c.loop-byte.invariant.value;
      most = omega (arith, c.min-value.ensures);
    }
