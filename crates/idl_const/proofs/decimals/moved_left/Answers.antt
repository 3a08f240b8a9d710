use Rattle.std.proofs.Common.{sym, subst}
use Rattle.idl_token.specs.Numbers.{value_behind}
use Rattle.idl_const.specs.Digits.{AreDigits}
use Rattle.idl_const.proofs.WholeNumbers.{digits_behind, capped_none, capped_some, left_none, left_some}
use Rattle.idl_const.proofs.decimals.moved_left.Goals as goal

pub returns-then-read_digits-ne0 : goal.returns-then-read_digits-ne0
returns-then-read_digits-ne0 c =
    left_none c.args.front.now c.args.fraction.now c.split_at.result.0.now c.split_at.result.1.now c.args.places c.saturating_sub-left.result
    c.split_at.ensures.by_index.0 c.split_at.ensures.front c.split_at.ensures.back c.saturating_sub-left.ensures c.split_at.ensures.back_len
    (subst AreDigits (sym c.split_at.ensures.back) (digits_behind c.saturating_sub-left.result c.args.front.now c.requires.front)) c.requires.fraction
    (λ none _. capped_some (value_behind 10 0 c.split_at.result.1.now) c.read_digits.result c.read_digits.ensures c.if-read_digits-ne0.true none)

pub returns-then-read_digits-ne0-2 : goal.returns-then-read_digits-ne0-2
returns-then-read_digits-ne0-2 c =
    left_none c.args.front.now c.args.fraction.now c.split_at.result.0.now c.split_at.result.1.now c.args.places c.saturating_sub-left.result
    c.split_at.ensures.by_index.0 c.split_at.ensures.front c.split_at.ensures.back c.saturating_sub-left.ensures c.split_at.ensures.back_len
    (subst AreDigits (sym c.split_at.ensures.back) (digits_behind c.saturating_sub-left.result c.args.front.now c.requires.front)) c.requires.fraction
    (λ _ none. capped_some (value_behind 10 0 c.args.fraction.now) c.read_digits-2.result c.read_digits-2.ensures c.if-read_digits-ne0-2.true none)

pub returns : goal.returns
returns c =
    left_some c.args.front.now c.args.fraction.now c.split_at.result.0.now c.split_at.result.1.now c.args.places c.saturating_sub-left.result
    c.split_at.ensures.by_index.0 c.split_at.ensures.front c.split_at.ensures.back c.saturating_sub-left.ensures c.split_at.ensures.back_len
    c.read_digits-3.result
    (capped_none (value_behind 10 0 c.split_at.result.1.now) c.read_digits.result c.read_digits.ensures c.if-read_digits-ne0.false)
    (capped_none (value_behind 10 0 c.args.fraction.now) c.read_digits-2.result c.read_digits-2.ensures c.if-read_digits-ne0-2.false)
    c.read_digits-3.ensures
