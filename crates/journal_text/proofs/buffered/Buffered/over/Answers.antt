use Rattle.std.proofs.Common.{List, ℕ, ◌≤◌, length, sym, ap, subst, arith}
use Rattle.std.specs.List.{concat}
use Rattle.journal_text.specs.Buffers.{most_held}
use Rattle.journal_text.proofs.Buffering.{begun_anew}
use Rattle.journal_text.proofs.buffered.Buffered.over.Goals as goal

pub invariant_of-result : goal.invariant_of-result
invariant_of-result g c = (
  begun_anew (g.K.Sink.taken c.of-start.result.value) (g.K.Sink.taken c.args.sink) (concat c.new.result) c.in-Ok.held.items (ap g.K.Sink.taken (sym c.of-start.ensures)) (ap concat c.new.ensures)
      (subst (λ (held : List ℕ). length held ≤ most_held) (sym c.in-Ok.ensures.items) (omega arith)),
  c.in-Ok.ensures.capacity,
)
