use Rattle.std.proofs.lemmas.Result.{err_from_is_err_and}
use Rattle.idl_const.proofs.progress.unfit.Goals as goal

pub returns-in_err-opened-clause-worth : goal.returns-in_err-opened-clause-worth
returns-in_err-opened-clause-worth c inside =
    let p = err_from_is_err_and c.from_residual.result c.from_residual.ensures.1 in
    rw (p.1, p.2) (c.in_err-opened.ensures.worth inside)
