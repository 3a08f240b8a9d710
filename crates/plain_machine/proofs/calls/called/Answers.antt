use Rattle.std.proofs.Common.{◌≡◌, Some, ap, subst}
use Rattle.std.specs.Result.{IfOk}
use Rattle.machine_model.specs.Plain.{when}
use Rattle.machine_model.specs.HallState.{HallState}
use Rattle.machine_model.specs.Machine.{with_worker}
use Rattle.machine_model.specs.Worker.{has_answer, has_none}
use Rattle.plain_machine.specs.Seen.{cell_of}
use Rattle.plain_machine.proofs.Seeing.{apply_result_answers, apply_result_lacks}
use Rattle.plain_machine.proofs.calls.called.Goals as goal

pub returns-in_ok-takes_effect-in-Answers : goal.returns-in_ok-takes_effect-in-Answers
returns-in_ok-takes_effect-in-Answers g c =
    let found = rw c.as_slice.ensures.value at c.in-Some.ensures in
    rw c.in-Answers.is (subst (λ out. IfOk c.with_worker_of-in-Answers.result (λ can. when can (Some (cell_of c.with_worker_of-in-Answers.new.cell)) ≡ out))
    (apply_result_answers (g.S.PlainServices.rules c.args.services.now) (cell_of c.args.cell.now) _ c.args.w c.args.key c.args.payload.items c.args.call c.in-Some.answer _ found
    (ap (λ (h : HallState _ _ _). record (cell_of c.args.cell.now) { hall = h; workers = with_worker (cell_of c.args.cell.now).workers c.args.w (has_answer c.args.key c.args.payload.items c.in-Some.answer) })
    (c.in_ok-takes_effect-in-Answers.ensures {u = tt})))
    c.with_worker_of-in-Answers.ensures)

pub returns-in_ok-takes_effect-in-LacksForAnswer : goal.returns-in_ok-takes_effect-in-LacksForAnswer
returns-in_ok-takes_effect-in-LacksForAnswer g c =
    let found = rw c.as_slice.ensures.value at c.in-Some-answer.ensures in
    rw c.in-LacksForAnswer.is (subst (λ out. IfOk c.with_worker_of-in-LacksForAnswer.result (λ can. when can (Some (cell_of c.with_worker_of-in-LacksForAnswer.new.cell)) ≡ out))
    (apply_result_lacks (g.S.PlainServices.rules c.args.services.now) (cell_of c.args.cell.now) _ c.args.w c.args.key c.args.payload.items c.args.call c.in-Some-answer.answer _ found
    (ap (λ (h : HallState _ _ _). record (cell_of c.args.cell.now) { hall = h; workers = with_worker (cell_of c.args.cell.now).workers c.args.w (has_none c.args.key c.args.payload.items) })
    (c.in_ok-takes_effect-in-LacksForAnswer.ensures {u = tt})))
    c.with_worker_of-in-LacksForAnswer.ensures)
