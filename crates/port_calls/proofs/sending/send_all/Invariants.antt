use Rattle.std.proofs.Common.{length}
use Rattle.port_calls.proofs.SentBytes.{HasSentBut}
use Rattle.port_calls.proofs.sending.send_all.Given as goal

abbrev pub invariant-pieces : goal.invariant-pieces
invariant-pieces g l = HasSentBut l.fn.bytes l.rest (g.P.Pipe.state l.fn.pipe) (g.P.Pipe.state l.pipe)

abbrev pub decreases-pieces : goal.decreases-pieces
decreases-pieces g l = length l.rest
