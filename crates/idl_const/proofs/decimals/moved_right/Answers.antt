use Rattle.std.proofs.Common.{sym, subst, arith}
use Rattle.idl_token.specs.Numbers.{value_behind}
use Rattle.idl_const.specs.Digits.{AreDigits}
use Rattle.idl_const.proofs.WholeNumbers.{digits_behind, capped_none, capped_some, right_none, right_some}
use Rattle.idl_const.proofs.decimals.moved_right.Goals as goal

pub returns-then-read_digits-ne0 : goal.returns-then-read_digits-ne0
returns-then-read_digits-ne0 c =
    right_none c.args.front.now c.args.fraction.now c.split_at.result.0.now c.split_at.result.1.now c.args.places c.min-taken.result
    c.split_at.ensures.by_index.0 c.split_at.ensures.front_len c.min-taken.ensures
    (subst AreDigits (sym c.split_at.ensures.back) (digits_behind c.min-taken.result c.args.fraction.now c.requires))
    (capped_some (value_behind 10 0 c.split_at.result.1.now) c.read_digits.result c.read_digits.ensures c.if-read_digits-ne0.true)

pub returns : goal.returns
returns c =
    right_some c.args.front.now c.args.fraction.now c.split_at.result.0.now c.split_at.result.1.now c.args.places c.min-taken.result
    c.read_digits-2.result c.read_digits-number.result c.with_zeros.result
    c.split_at.ensures.by_index.0 c.split_at.ensures.front_len (omega (arith, c.min-taken.ensures))
    (capped_none (value_behind 10 0 c.split_at.result.1.now) c.read_digits.result c.read_digits.ensures c.if-read_digits-ne0.false)
    c.read_digits-2.ensures c.read_digits-number.ensures c.with_zeros.ensures
