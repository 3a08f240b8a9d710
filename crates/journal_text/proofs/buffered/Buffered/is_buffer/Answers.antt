use Rattle.std.proofs.Common.{subst}
use Rattle.journal_text.specs.Buffers.{IsBuffer}
use Rattle.journal_text.proofs.buffered.Buffered.is_buffer.Goals as goal

pub returns : goal.returns
returns g c = subst (λ v. IsBuffer (g.K.Sink.taken v.start) (g.K.Sink.taken v.sink) v.passed v.held) c.self.view_is c.self.invariant.0
