use Rattle.std.proofs.Common.{length, map}
use Rattle.plain_machine.proofs.Splitting.{Walked}
use Rattle.plain_machine.proofs.frames.split.Given as goal

abbrev pub invariant-walk : goal.invariant-walk
invariant-walk l = Walked l.fn.max l.fn.bytes (map (λ p. p.items) l.payloads.items) l.rest

abbrev pub decreases-walk : goal.decreases-walk
decreases-walk l = length l.rest
