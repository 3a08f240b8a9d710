use Rattle.plain_machine.specs.SeenDesk.{journal_seen}
use Rattle.plain_machine.proofs.Plainly.{Sending}
use Rattle.plain_machine.proofs.desks.sent.Given as goal

abbrev pub invariant-loop-number : goal.invariant-loop-number
invariant-loop-number g l = Sending (g.D.PlainDesk.desk l.desk) l.payloads (λ p. p.items) (journal_seen l.entries) l.number l.out.items
