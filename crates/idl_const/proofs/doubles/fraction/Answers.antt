use Rattle.std.proofs.Common.{◌≡◌, ◌*◌, ◌^◌, ◌-◌, ◌∙◌, ap, arith}
use Rattle.idl_const.proofs.WholeBits.{fraction_fits}
use Rattle.idl_const.proofs.doubles.fraction.Goals as goal

pub overflow_mul-result : goal.overflow_mul-result
overflow_mul-result c =
    let below = fraction_fits c.args.place c.args.rest c.requires.place c.requires.rest c.requires.last in
    let same : c.args.rest * c.power.result ≡ c.args.rest * 2 ^ (52 - c.args.place) =
    ap (λ n. c.args.rest * n) (c.power.ensures ∙ ap (λ n. 2 ^ n) c.saturating_sub.ensures) in
    record { fits = omega (arith, below, same) }

pub returns-clause-below : goal.returns-clause-below
returns-clause-below c =
    let below = fraction_fits c.args.place c.args.rest c.requires.place c.requires.rest c.requires.last in
    let same : c.args.rest * c.power.result ≡ c.args.rest * 2 ^ (52 - c.args.place) =
    ap (λ n. c.args.rest * n) (c.power.ensures ∙ ap (λ n. 2 ^ n) c.saturating_sub.ensures) in
    omega (arith, below, same)
