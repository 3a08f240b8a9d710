use Rattle.std.proofs.Common.{false, refl, sym, subst}
use Rattle.call_rules.specs.PlainCalls.{PlainAnswer}
use Rattle.call_rules.specs.Answers.{plain_answer}
use Rattle.call_rules.specs.Handling.{handler_rules}
use Rattle.machine_model.specs.HallRule as rule
use Rattle.machine_model.specs.HallRule.{HallAnswer}
use Rattle.machine_model.specs.SeenHall.{SeenGives}
use Rattle.hall_core.specs.Meant.{with_services}
use Rattle.hall_core.proofs.Stepping.{answered_call, breaks_with}
use Rattle.hall_core.proofs.answering.enter.Goals as goal

pub returns-clause-gives : goal.returns-clause-gives
returns-clause-gives g c = λ hall old services is moved.
    let new = with_services hall services (g.J.Journal.told c.append-entered.new.self) (g.J.Journal.faults c.append-entered.new.self) c.is_err.result in
    let before = with_services hall old (g.J.Journal.told c.args.journal.now) (g.J.Journal.faults c.args.journal.now) false in
    subst (λ (a : HallAnswer PlainAnswer). SeenGives handler_rules before (rule.apply c.args.key c.args.call) a new) (sym c.replied.ensures)
    (answered_call before c.args.key c.args.call (plain_answer c.args.answer) c.append-entered.result c.copied-copy.result services (g.J.Journal.told c.append-entered.new.self) (g.J.Journal.faults c.append-entered.new.self)
    c.is_err.result refl is moved c.append-entered.ensures.entered (breaks_with c.append-entered.result c.is_err.result c.is_err.ensures.value) c.append-entered.ensures.cause c.copied-copy.ensures)
