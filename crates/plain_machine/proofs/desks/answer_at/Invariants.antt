use Rattle.plain_machine.proofs.Plainly.{Seeking}
use Rattle.plain_machine.proofs.desks.answer_at.Given as goal

abbrev pub invariant-loop-entry : goal.invariant-loop-entry
invariant-loop-entry g l = Seeking l.entries l.number l.entry-index
