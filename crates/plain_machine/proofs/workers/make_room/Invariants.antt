use Rattle.std.proofs.Common.{◌-◌, ◌+◌, length}
use Rattle.plain_machine.proofs.Seeing.{Room}
use Rattle.plain_machine.proofs.workers.make_room.Given as goal

abbrev pub invariant-room : goal.invariant-room
invariant-room g l = Room l.fn.workers.items l.workers.items

abbrev pub decreases-room : goal.decreases-room
decreases-room g l = l.w + 1 - length l.workers.items
