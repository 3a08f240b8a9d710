use Rattle.std.proofs.Common.{rules, List, map, sym, subst}
use Rattle.std.proofs.lemmas.List.{with_items_is, places}
use Rattle.call_rules.specs.Handling.{handler_rules}
use Rattle.machine_model.specs.HallRule as rule
use Rattle.machine_model.specs.SeenHall.{SeenGives}
use Rattle.hall_core.specs.Meant.{ServedHall, with_services}
use Rattle.hall_core.specs.Asked.{answer_of}
use Rattle.hall_core.proofs.answering.apply_with.Goals as goal

pub returns-clause-gives : goal.returns-clause-gives
returns-clause-gives g c = λ hall.
    let before : List g.row.A.Denot → ServedHall = λ hs. with_services hall (map g.A.AnswersCalls.state hs) (g.J.Journal.told c.args.journal.now) (g.J.Journal.faults c.args.journal.now) c.args.broken.now in
    let after : List g.row.A.Denot → ServedHall = λ hs. with_services hall (map g.A.AnswersCalls.state hs) (g.J.Journal.told c.apply.new.journal) (g.J.Journal.faults c.apply.new.journal) c.apply.new.broken in
    subst (λ (hs : List g.row.A.Denot). SeenGives handler_rules (before c.args.handlers.now.items) (rule.apply c.args.key c.args.call) (answer_of c.apply.result) (after hs))
    (sym (with_items_is c.args.handlers.now c.apply.new.handlers (search (rules, places))))
    (subst (λ (hs : List g.row.A.Denot). SeenGives handler_rules (before hs) (rule.apply c.args.key c.args.call) (answer_of c.apply.result) (after c.apply.new.handlers)) c.as_mut_slice.ensures.value
    (c.apply.ensures.gives hall))
