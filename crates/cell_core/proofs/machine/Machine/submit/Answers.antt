use Rattle.std.proofs.Common.{List, ℕ, sym, subst}
use Rattle.call_rules.specs.Handling.{handler_rules}
use Rattle.machine_model.specs.HallState.{key_of}
use Rattle.machine_model.specs.HallRule.{submit}
use Rattle.machine_model.specs.SeenHall.{SeenGives, SeenCan}
use Rattle.hall_core.specs.Asked.{answer_of}
use Rattle.cell_core.specs.Parts.{parts_of}
use Rattle.cell_core.proofs.FaultCount.{count_goes}
use Rattle.cell_core.proofs.Gathering.{hands_to, submit_moves}
use Rattle.cell_core.proofs.machine.Machine.submit.Goals as goal

pub submit-requires-after_bounds : goal.submit-requires-after_bounds
submit-requires-after_bounds g c κs within = (
  subst (λ (payload : List ℕ). SeenCan handler_rules c.args.self.now.hall (submit (key_of c.args.c c.give-i.result.0) payload)) (sym c.new.ensures)
      (hands_to (parts_of c.args.self.now) c.args.c c.give-i.result.0 c.give-i.result.1.items c.give-i.new.self c.requires.under_way c.requires.whole c.give-i.ensures.handed),
  tt,
)

pub returns-clause-moved : goal.returns-clause-moved
returns-clause-moved g c =
    submit_moves c.args.self.now.part c.args.self.now.hall c.args.self.now.workers.items c.args.c c.give-i.result.0 c.give-i.result.1.items c.give-i.new.self c.submit.new.self
    (answer_of c.submit.result) c.give-i.ensures.handed
    (subst (λ (payload : List ℕ). SeenGives handler_rules c.args.self.now.hall (submit (key_of c.args.c c.give-i.result.0) payload) (answer_of c.submit.result) c.submit.new.self) c.new.ensures c.submit.ensures)
    (λ s x one other reached comes. c.moves_are_reached.ensures.conn s x one other reached comes)

pub returns-clause-count : goal.returns-clause-count
returns-clause-count g c =
    count_goes c.args.self.now.hall c.submit.new.self (submit (key_of c.args.c c.give-i.result.0) c.give-i.result.1.items) (answer_of c.submit.result)
    (subst (λ (payload : List ℕ). SeenGives handler_rules c.args.self.now.hall (submit (key_of c.args.c c.give-i.result.0) payload) (answer_of c.submit.result) c.submit.new.self) c.new.ensures c.submit.ensures)
