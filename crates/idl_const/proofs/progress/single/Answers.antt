use Rattle.std.proofs.lemmas.Result.{err_from_is_err_and}
use Rattle.check_model.specs.Evaluation.{judged}
use Rattle.idl_const.proofs.Counting.{single_is, single_stops}
use Rattle.idl_const.proofs.progress.single.Goals as goal

pub returns-in_err-count_value-clause-worth : goal.returns-in_err-count_value-clause-worth
returns-in_err-count_value-clause-worth c worth h =
    let p = err_from_is_err_and c.from_residual.result c.from_residual.ensures.1 in
    rw (p.1, p.2) (c.in_err-count_value.ensures.counted (λ n. judged c.args.at n worth))

pub returns-in-Ok-clause-worth : goal.returns-in-Ok-clause-worth
returns-in-Ok-clause-worth c worth h =
    single_is c.args.at c.args.work.now.values c.count_value.new.work.values c.args.one worth c.in-Ok.value c.in-Ok.is h
    (c.in_ok-count_value.ensures.counted (λ n. judged c.args.at n worth)) c.in_ok-count_value.ensures.more

pub returns-in-Err-clause-worth : goal.returns-in-Err-clause-worth
returns-in-Err-clause-worth c worth h =
    single_stops c.args.at c.args.work.now.values c.args.one worth c.in-Err.fault c.in-Err.is h
    (c.in_ok-count_value.ensures.counted (λ n. judged c.args.at n worth))
