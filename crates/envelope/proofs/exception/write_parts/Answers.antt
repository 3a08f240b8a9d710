use Rattle.std.proofs.Common.{◌++◌, ◌∙◌, ap, arith}
use Rattle.std.proofs.lemmas.Int.{to_z-of_z}
use Rattle.std.proofs.lemmas.Result.{on_ok_weaker, on_err_weaker}
use Rattle.std.specs.Int.{w32}
use Rattle.envelope.specs.Exception.{exception_head, failure_struct}
use Rattle.envelope.proofs.Appending.{appended, still_first}
use Rattle.envelope.proofs.exception.write_parts.Goals as goal

pub returns-clause-ok : goal.returns-clause-ok
returns-clause-ok c =
    let code = to_z-of_z w32 c.args.code c.ranges.code in
    let id = to_z-of_z w32 c.args.id c.ranges.id in
    on_ok_weaker c.put_failure.result
    (λ e. appended c.args.into.now.items (exception_head c.args.protocol c.args.name.now c.args.id) c.put_exception_head.new.into.items
    (failure_struct c.args.protocol (record { text = c.args.text.now; code = c.args.code })) c.put_failure.new.into.items
    (c.in_ok-put_exception_head.ensures.ok ∙ ap (λ z. c.args.into.now.items ++ exception_head c.args.protocol c.args.name.now z) id)
    (e ∙ ap (λ z. c.put_exception_head.new.into.items ++ failure_struct c.args.protocol (record { text = c.args.text.now; code = z })) code))
    c.put_failure.ensures.ok

pub returns-clause-err : goal.returns-clause-err
returns-clause-err c =
    on_err_weaker c.put_failure.result
    (λ e. still_first _ _ c.args.into.now.items (exception_head c.args.protocol c.args.name.now _) c.put_exception_head.new.into.items c.put_failure.new.into.items
    (omega arith) (omega arith) c.in_ok-put_exception_head.ensures.ok e)
    c.put_failure.ensures.err
