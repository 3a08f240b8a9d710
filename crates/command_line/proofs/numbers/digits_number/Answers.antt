use Rattle.std.proofs.Common.{◌≤◌, ℕ, sym, subst, arith}
use Rattle.command_line.proofs.Digits.{digit_within, one_more_fits}
use Rattle.command_line.proofs.numbers.digits_number.Goals as goal

pub overflow_mul-number : goal.overflow_mul-number
overflow_mul-number c =
    let next = one_more_fits _ _ _ c.loop-digit.invariant.1 c.loop-digit-test.true c.requires.short in
    record { fits = omega (arith, next) }

pub overflow_add-number : goal.overflow_add-number
overflow_add-number c =
    let next = one_more_fits _ _ _ c.loop-digit.invariant.1 c.loop-digit-test.true c.requires.short in
    let digit : c.from.result ≤ 9 = subst (λ (x : ℕ). x ≤ 9) (sym c.from.ensures) (digit_within _ _ _ c.loop-digit-test.true c.loop-digit.invariant.2) in
    record { fits = omega (arith, next, digit) }
