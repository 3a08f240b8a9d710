use Rattle.std.proofs.Common.{refl, ap}
use Rattle.std.proofs.lemmas.Result.{err_from_is_err_and}
use Rattle.wire_model.specs.AtPlace.{passed_over}
use Rattle.wire_walk.proofs.PassedOver.{scalar_stops}
use Rattle.wire_walk.proofs.passing.skip_text.Goals as goal

pub returns-in_err-rest : goal.returns-in_err-rest
returns-in_err-rest g c =
    let p = err_from_is_err_and c.from_residual.result c.from_residual.ensures.1 in
    rw (p.1, p.2)
    (scalar_stops c.in_err-rest.field-0.0 (g.C.WireProtocol.wire.span c.args.rest) _ refl c.in_err-rest.ensures)

pub returns : goal.returns
returns g c = ap passed_over c.in_ok-rest.ensures
