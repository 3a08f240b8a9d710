use Rattle.plain_machine.specs.SeenDesk.{entry_seen}
use Rattle.plain_machine.proofs.Plainly.{answered_there, answered_nowhere}
use Rattle.plain_machine.proofs.journals.is_answered.Goals as goal

pub returns-then-slot-memories : goal.returns-then-slot-memories
returns-then-slot-memories g c =
    answered_there (g.S.PlainServices.rules c.args.services.now) c.args.memories.now c.slot-slot.result (entry_seen c.args.entry.now) c.index-memories-slot.result c.rule-answer.result
    c.is_same.result c.slot-slot.ensures c.if-slot-memories.true c.index-memories-slot.is c.rule-answer.ensures c.is_same.ensures

pub returns-else-slot-memories : goal.returns-else-slot-memories
returns-else-slot-memories g c =
    answered_nowhere (g.S.PlainServices.rules c.args.services.now) c.args.memories.now c.slot-slot.result (entry_seen c.args.entry.now) c.slot-slot.ensures c.if-slot-memories.false
