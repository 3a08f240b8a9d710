use Rattle.plain_machine.proofs.Plainly.{after_served, after_unserved}
use Rattle.plain_machine.proofs.journals.after_call.Goals as goal

pub returns-then-slot-memories : goal.returns-then-slot-memories
returns-then-slot-memories g c =
    after_served (g.S.PlainServices.rules c.args.services.now) c.args.memories.now c.slot-slot.result c.args.call c.index-memories-slot.result c.rule-memory.result
    c.slot-slot.ensures c.if-slot-memories.true c.index-memories-slot.is c.rule-memory.ensures

pub returns-else-slot-memories : goal.returns-else-slot-memories
returns-else-slot-memories g c =
    after_unserved (g.S.PlainServices.rules c.args.services.now) c.args.memories.now c.slot-slot.result c.args.call c.slot-slot.ensures c.if-slot-memories.false
