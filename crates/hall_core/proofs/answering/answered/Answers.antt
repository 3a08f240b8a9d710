use Rattle.std.proofs.Common.{◌≡◌, ◌<◌, length, map, slice_set, sym, subst}
use Rattle.std.proofs.lemmas.Result.{IfOk-weaker, on_ok_weaker, on_err_weaker}
use Rattle.thrift_value.specs.TreeOf.{tree_of}
use Rattle.host_model.specs.Journal.{after_call}
use Rattle.call_rules.specs.PlainCalls.{PlainCall}
use Rattle.call_rules.specs.Answers.{plain_answer}
use Rattle.call_rules.specs.Handling.{handler_rules}
use Rattle.hall_core.specs.Answered.{IsAnswerOf}
use Rattle.hall_core.proofs.Serving.{moved_from, kept_from, answered_from}
use Rattle.hall_core.proofs.answering.answered.Goals as goal

pub returns-clause-moved : goal.returns-clause-moved
returns-clause-moved g c =
    let view : PlainCall = record { slot = c.call.inside.slot; method = c.call.inside.method; args = tree_of c.call.inside.args; silent = c.call.inside.silent } in
    let within : view.slot < length c.args.handlers.now = subst (λ (p : PlainCall). p.slot < length c.args.handlers.now) (sym c.call.view_is) c.requires.slot in
    on_ok_weaker c.answer_to.result
    (λ m. subst (λ (p : PlainCall). map g.A.AnswersCalls.state (slice_set c.args.handlers.now view.slot c.answer_to.new.self) ≡ after_call handler_rules (map g.A.AnswersCalls.state c.args.handlers.now) p) c.call.view_is
    (moved_from g.A.AnswersCalls.state c.args.handlers.now view c.index-handlers-call.result within c.index-handlers-call.is c.as_slice.result.now c.as_slice.ensures c.answer_to.new.self m))
    c.answer_to.ensures.moved

pub returns-clause-err : goal.returns-clause-err
returns-clause-err g c =
    let view : PlainCall = record { slot = c.call.inside.slot; method = c.call.inside.method; args = tree_of c.call.inside.args; silent = c.call.inside.silent } in
    let within : view.slot < length c.args.handlers.now = subst (λ (p : PlainCall). p.slot < length c.args.handlers.now) (sym c.call.view_is) c.requires.slot in
    on_err_weaker c.answer_to.result (kept_from g.A.AnswersCalls.state c.args.handlers.now view c.index-handlers-call.result within c.index-handlers-call.is c.answer_to.new.self) c.answer_to.ensures.err

pub returns-clause-answer : goal.returns-clause-answer
returns-clause-answer g c =
    let view : PlainCall = record { slot = c.call.inside.slot; method = c.call.inside.method; args = tree_of c.call.inside.args; silent = c.call.inside.silent } in
    let within : view.slot < length c.args.handlers.now = subst (λ (p : PlainCall). p.slot < length c.args.handlers.now) (sym c.call.view_is) c.requires.slot in
    IfOk-weaker c.answer_to.result _ _
    (λ answer e. subst (λ (p : PlainCall). IsAnswerOf (map g.A.AnswersCalls.state c.args.handlers.now) p (plain_answer answer)) c.call.view_is
    (answered_from g.A.AnswersCalls.state c.args.handlers.now view c.index-handlers-call.result within c.index-handlers-call.is c.as_slice.result.now c.as_slice.ensures (plain_answer answer) e))
    c.answer_to.ensures.answered
