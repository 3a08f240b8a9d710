use Rattle.std.proofs.Common.{take, sym, ap, ◌∙◌, subst}
use Rattle.idl_const.specs.Digits.{AreDigits}
use Rattle.idl_const.proofs.WholeNumbers.{digits_in_front}
use Rattle.idl_const.proofs.decimals.front_digits.Goals as goal

pub returns-clause-digits : goal.returns-clause-digits
returns-clause-digits c = subst AreDigits (sym (c.split_at.ensures.front ∙ ap (λ n. take n c.args.text.now) c.digits_in.ensures.value)) (digits_in_front c.args.text.now)
