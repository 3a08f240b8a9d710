use Rattle.std.proofs.Common.{◌≡◌, ◌-◌, ◌+◌, suc, arith}
use Rattle.std.proofs.lemmas.Result.{err_from_is_err_and}
use Rattle.value_text.specs.Reading.{most_rounds}
use Rattle.value_text.proofs.QuotedSteps.{quoted_stop, byte_put, quoted_end}
use Rattle.value_text.proofs.fronts.quoted_at.Goals as goal

pub returns-in_err-found : goal.returns-in_err-found
returns-in_err-found c =
    let p = err_from_is_err_and c.from_residual.result c.from_residual.ensures.1 in
    rw (p.1, p.2)
    (quoted_stop most_rounds c.args.text.now c.in_err-found.field-0.0 (most_rounds - c.loop-step.step) (most_rounds - (c.loop-step.step + 1)) c.loop-step.bytes.items c.loop-step.rest.now
    (let more : most_rounds - c.loop-step.step ≡ suc (most_rounds - (c.loop-step.step + 1)) = omega arith in more) c.loop-step.invariant c.in_err-found.ensures)

pub returns-in-None : goal.returns-in-None
returns-in-None c =
    quoted_end most_rounds c.args.text.now (most_rounds - c.loop-step.step) (most_rounds - (c.loop-step.step + 1)) c.loop-step.bytes.items c.loop-step.rest.now c.in_ok-found.found c.in_ok-found.behind.now
    (let more : most_rounds - c.loop-step.step ≡ suc (most_rounds - (c.loop-step.step + 1)) = omega arith in more) c.loop-step.invariant c.in_ok-found.ensures c.in-None.is

pub loop-step-preserved : goal.loop-step-preserved
loop-step-preserved c =
    byte_put most_rounds c.args.text.now (most_rounds - c.loop-step.step) (most_rounds - (c.loop-step.step + 1)) c.loop-step.bytes.items c.push.new.self.items c.loop-step.rest.now c.in_ok-found.found c.in-Some.byte c.in_ok-found.behind.now
    (let more : most_rounds - c.loop-step.step ≡ suc (most_rounds - (c.loop-step.step + 1)) = omega arith in more) c.loop-step.invariant c.in_ok-found.ensures c.in-Some.is c.in_ok-push-in-Some.ensures.items
