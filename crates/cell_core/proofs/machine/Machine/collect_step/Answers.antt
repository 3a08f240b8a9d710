use Rattle.std.proofs.Common.{true, false, refl, subst}
use Rattle.call_rules.specs.PlainCalls.{PlainAnswer}
use Rattle.call_rules.specs.Handling.{handler_rules}
use Rattle.machine_model.specs.HallRule.{HallAnswer, collect, outcome}
use Rattle.machine_model.specs.SeenHall.{SeenGives}
use Rattle.hall_core.specs.Asked.{answer_of}
use Rattle.cell_core.specs.Parts.{parts_of}
use Rattle.cell_core.proofs.FaultCount.{count_goes}
use Rattle.cell_core.proofs.Gathering.{settles_some, collect_moves, collect_rests, outcome_steps}
use Rattle.cell_core.proofs.machine.Machine.collect_step.Goals as goal

pub settle-requires-clause-asked : goal.settle-requires-clause-asked
settle-requires-clause-asked g c =
    (settles_some (parts_of c.args.self.now) c.collect-reply.new.self c.in-Some.key c.in-Some.settled c.requires.under_way
    (subst (λ (answer : HallAnswer PlainAnswer). SeenGives handler_rules c.args.self.now.hall collect answer c.collect-reply.new.self) c.in-Some.ensures c.collect-reply.ensures)).0

pub settle-requires-clause-some : goal.settle-requires-clause-some
settle-requires-clause-some g c =
    (settles_some (parts_of c.args.self.now) c.collect-reply.new.self c.in-Some.key c.in-Some.settled c.requires.under_way
    (subst (λ (answer : HallAnswer PlainAnswer). SeenGives handler_rules c.args.self.now.hall collect answer c.collect-reply.new.self) c.in-Some.ensures c.collect-reply.ensures)).1

pub returns-in-Some : goal.returns-in-Some
returns-in-Some g c =
    let gives : SeenGives handler_rules c.args.self.now.hall collect (outcome c.in-Some.key c.in-Some.settled) c.collect-reply.new.self =
    subst (λ (answer : HallAnswer PlainAnswer). SeenGives handler_rules c.args.self.now.hall collect answer c.collect-reply.new.self) c.in-Some.ensures c.collect-reply.ensures in
    outcome_steps (parts_of c.args.self.now) (record { part = c.settle.new.self; hall = c.collect-reply.new.self; workers = c.args.self.now.workers.items }) true
    (λ s one other reached comes. c.moves_are_reached.ensures.outcome s one other reached comes) c.requires.under_way
    (collect_moves c.args.self.now.part c.args.self.now.hall c.args.self.now.workers.items c.in-Some.key c.in-Some.settled c.settle.new.self c.collect-reply.new.self gives
    (c.settle.ensures.taken c.in-Some.key.i) (λ s one other reached comes. c.moves_are_reached.ensures.outcome s one other reached comes)) c.settle.ensures.room refl c.settle.ensures.feeds
    (count_goes c.args.self.now.hall c.collect-reply.new.self collect (outcome c.in-Some.key c.in-Some.settled) gives)

pub returns-in-None : goal.returns-in-None
returns-in-None g c =
    outcome_steps (parts_of c.args.self.now) (record { part = c.args.self.now.part; hall = c.collect-reply.new.self; workers = c.args.self.now.workers.items }) false
    (λ s one other reached comes. c.moves_are_reached.ensures.outcome s one other reached comes) c.requires.under_way
    (collect_rests c.args.self.now.part c.args.self.now.hall c.args.self.now.workers.items c.collect-reply.new.self (answer_of c.collect-reply.result) c.collect-reply.ensures c.in-None.ensures)
    c.requires.under_way.1.room refl refl (count_goes c.args.self.now.hall c.collect-reply.new.self collect (answer_of c.collect-reply.result) c.collect-reply.ensures)
