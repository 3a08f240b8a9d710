use Rattle.plain_machine.proofs.Plainly.{Calling}
use Rattle.plain_machine.proofs.desks.called.Given as goal

abbrev pub invariant-loop-number : goal.invariant-loop-number
invariant-loop-number g l = Calling (g.D.PlainDesk.desk l.desk) l.payloads (λ p. p.items) l.number l.calls.items
