use Rattle.plain_machine.proofs.Seeing.{more_room}
use Rattle.plain_machine.proofs.workers.make_room.Goals as goal

pub room-preserved : goal.room-preserved
room-preserved g c = more_room c.args.workers.now.items c.room.workers.items c.push.new.self.items c.room.invariant ((c.in_ok-push.ensures {u = tt}).items)
