use Rattle.std.proofs.Common.{◌≡◌, suc, ◌+◌, ◌-◌, arith}
use Rattle.std.proofs.lemmas.Result.{err_from_is_err_and}
use Rattle.wire_walk.proofs.PassedOver.{items_fail_exactly, items_pass, items_passed}
use Rattle.known_parts.proofs.passing.pass_items.Goals as goal

pub returns-in_err-rest : goal.returns-in_err-rest
returns-in_err-rest g c =
    let p = err_from_is_err_and c.from_residual.result c.from_residual.ensures.1 in
    rw (p.1, p.2)
    (items_fail_exactly g.W.WireProtocol.wire c.args.levels c.args.tag (c.args.count - c.loop-step.step) (c.args.count - (c.loop-step.step + 1)) c.loop-step.rest c.args.count c.args.rest c.in_err-rest.field-0.0
    (let more : c.args.count - c.loop-step.step ≡ suc (c.args.count - (c.loop-step.step + 1)) = omega arith in more) c.loop-step.invariant c.in_err-rest.ensures)

pub loop-step-preserved : goal.loop-step-preserved
loop-step-preserved g c =
    items_pass g.W.WireProtocol.wire c.args.levels c.args.tag (c.args.count - c.loop-step.step) (c.args.count - (c.loop-step.step + 1)) c.loop-step.rest c.in_ok-rest.rest c.args.count c.args.rest
    (let more : c.args.count - c.loop-step.step ≡ suc (c.args.count - (c.loop-step.step + 1)) = omega arith in more) c.loop-step.invariant c.in_ok-rest.ensures

pub returns : goal.returns
returns g c =
    items_passed g.W.WireProtocol.wire c.args.levels c.args.tag (c.args.count - c.loop-step.step) c.loop-step.rest c.args.count c.args.rest
    (let none : c.args.count - c.loop-step.step ≡ 0 = omega arith in none) c.loop-step.invariant
