use Rattle.std.proofs.Common.{ℕ, Bool, Option, List, map, sym, subst}
use Rattle.call_rules.specs.Entries.{CallEntry}
use Rattle.call_rules.specs.Handling.{ServiceState, handler_rules}
use Rattle.machine_model.specs.HallRule as rule
use Rattle.machine_model.specs.SeenHall.{SeenGives}
use Rattle.hall_core.specs.Meant.{with_services}
use Rattle.hall_core.specs.Asked.{answer_of}
use Rattle.hall_core.proofs.Stepping.{not_answered}
use Rattle.hall_core.proofs.answering.apply.Goals as goal

pub returns-in-None-clause-gives : goal.returns-in-None-clause-gives
returns-in-None-clause-gives g c = λ hall.
    not_answered (with_services hall (map g.A.AnswersCalls.state c.args.handlers.now) (g.J.Journal.told c.args.journal.now) (g.J.Journal.faults c.args.journal.now) c.args.broken.now) c.args.key c.args.call
    (map g.A.AnswersCalls.state c.answered_with_room.new.handlers) (g.J.Journal.told c.answered_with_room.new.journal) (g.J.Journal.faults c.answered_with_room.new.journal) c.if-broken.false c.in-None.ensures.none
    c.answered_with_room.ensures.told c.answered_with_room.ensures.faults

pub returns-in-Some-clause-gives : goal.returns-in-Some-clause-gives
returns-in-Some-clause-gives g c = λ hall.
    let old : List ServiceState = map g.A.AnswersCalls.state c.args.handlers.now in
    let new : List ServiceState = map g.A.AnswersCalls.state c.answered_with_room.new.handlers in
    subst (λ (p : Option (List CallEntry) × ℕ × Bool). SeenGives handler_rules (with_services hall old p.0 p.1 p.2) (rule.apply c.args.key c.args.call) (answer_of c.enter.result)
    (with_services hall new (g.J.Journal.told c.enter.new.journal) (g.J.Journal.faults c.enter.new.journal) c.enter.new.broken))
    (λ i. (c.answered_with_room.ensures.told i, c.answered_with_room.ensures.faults i, sym c.if-broken.false i))
    (c.enter.ensures.gives hall old new c.in-Some.ensures.answer c.in-Some.ensures.moved)
