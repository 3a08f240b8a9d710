use Rattle.std.proofs.Common.{sym, ap}
use Rattle.std.specs.List.{concat}
use Rattle.journal_text.proofs.Buffering.{begun_anew}
use Rattle.journal_text.proofs.buffered.Buffered.begin_line.Goals as goal

pub invariant_of-self : goal.invariant_of-self
invariant_of-self g c = (
  begun_anew (g.K.Sink.taken c.of.result.value) (g.K.Sink.taken c.self.inside.sink) (concat c.new-self-inside.result) c.self.inside.held.items (ap g.K.Sink.taken (sym c.of.ensures)) (ap concat c.new-self-inside.ensures)
      c.self.invariant.0.bound,
  c.self.invariant.1,
)
