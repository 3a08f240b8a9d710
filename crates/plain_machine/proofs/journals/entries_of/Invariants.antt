use Rattle.plain_machine.proofs.Plainly.{Owning}
use Rattle.plain_machine.proofs.journals.entries_of.Given as goal

abbrev pub invariant-loop-entry : goal.invariant-loop-entry
invariant-loop-entry g l = Owning l.c l.journal l.entry-index l.own.items
