use Rattle.plain_machine.proofs.Plainly.{Leaving}
use Rattle.plain_machine.proofs.journals.after.Given as goal

abbrev pub invariant-loop-done : goal.invariant-loop-done
invariant-loop-done g l = Leaving (g.S.PlainServices.rules l.services) l.fn.memories l.journal l.done-index l.memories
