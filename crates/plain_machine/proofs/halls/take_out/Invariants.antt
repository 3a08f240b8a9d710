use Rattle.plain_machine.proofs.Seeing.{Leaving}
use Rattle.plain_machine.proofs.halls.take_out.Given as goal

abbrev pub invariant-loop-place : goal.invariant-loop-place
invariant-loop-place l = Leaving l.fn.key l.fn.keys.items l.keys.items l.place
