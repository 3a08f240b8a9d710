use Rattle.std.proofs.Common.{arith, rules}
use Rattle.std.proofs.lemmas.Fmt.{length-decimal-le}
use Rattle.value_text.proofs.numbered.put_decimal.Goals as goal

pub write_digits-start-requires : goal.write_digits-start-requires
write_digits-start-requires c = (omega (arith, length-decimal-le 19 c.unsigned_abs.result (omega arith) (omega arith) (omega arith)), search rules)

pub returns-then-number-ge0-clause-most : goal.returns-then-number-ge0-clause-most
returns-then-number-ge0-clause-most c = omega (arith, length-decimal-le 19 c.unsigned_abs.result (omega arith) (omega arith) (omega arith))

pub put_byte-requires : goal.put_byte-requires
put_byte-requires c = (omega (arith, length-decimal-le 19 c.unsigned_abs.result (omega arith) (omega arith) (omega arith)), search rules)

pub returns-clause-most : goal.returns-clause-most
returns-clause-most c = omega (arith, length-decimal-le 19 c.unsigned_abs.result (omega arith) (omega arith) (omega arith))
