use Rattle.std.proofs.Common.{Ok, ◌∙◌, sym, ap}
use Rattle.std.proofs.lemmas.Result.{err_from_is_err_and}
use Rattle.wire_walk.proofs.Faults.{fails_on, fails_told, on_ok}
use Rattle.wire_walk.proofs.reading.read_text.Goals as goal

pub returns-in_err-text : goal.returns-in_err-text
returns-in_err-text g c =
    let p = err_from_is_err_and c.from_residual.result c.from_residual.ensures.1 in
    rw (p.1, p.2)
    (fails_on c.in_err-text.field-0.0 (g.C.WireProtocol.wire.span c.args.rest) _ (fails_told _ _ c.in_err-text.ensures))

pub returns : goal.returns
returns g c =
    on_ok (g.C.WireProtocol.wire.span c.args.rest) _ c.in_ok-text.text.now c.in_ok-text.rest c.in_ok-text.ensures
    ∙ ap (λ x. Ok (x, c.in_ok-text.rest)) (sym c.in_ok-value.ensures)
