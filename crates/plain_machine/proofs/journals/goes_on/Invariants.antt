use Rattle.plain_machine.proofs.Plainly.{Going}
use Rattle.plain_machine.proofs.journals.goes_on.Given as goal

abbrev pub invariant-loop-entry : goal.invariant-loop-entry
invariant-loop-entry g l = Going (g.S.PlainServices.rules l.services) l.fn.memories l.journal l.entry-index l.memories
