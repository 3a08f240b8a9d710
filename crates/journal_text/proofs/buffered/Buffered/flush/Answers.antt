use Rattle.std.proofs.Common.{List, ℕ, ◌≤◌, length, sym, ap, subst, arith}
use Rattle.std.specs.List.{concat}
use Rattle.journal_text.specs.Buffers.{most_held}
use Rattle.journal_text.proofs.Buffering.{begun_anew}
use Rattle.journal_text.proofs.buffered.Buffered.flush.Goals as goal

pub invariant_of-self : goal.invariant_of-self
invariant_of-self g c = (
  begun_anew (g.K.Sink.taken c.of.result.value) (g.K.Sink.taken c.write_all-written.new.out) (concat c.new-self-inside.result) c.self.inside.held.items (ap g.K.Sink.taken (sym c.of.ensures)) (ap concat c.new-self-inside.ensures)
      c.self.invariant.0.bound,
  c.self.invariant.1,
)

pub invariant_of-self-2 : goal.invariant_of-self-2
invariant_of-self-2 g c = (
  begun_anew (g.K.Sink.taken c.of.result.value) (g.K.Sink.taken c.write_all-written.new.out) (concat c.new-self-inside.result) c.clear.new.self.items (ap g.K.Sink.taken (sym c.of.ensures)) (ap concat c.new-self-inside.ensures)
      (subst (λ (held : List ℕ). length held ≤ most_held) (sym c.clear.ensures.items) (omega arith)),
  subst (λ n. most_held ≤ n) (sym c.clear.ensures.capacity) c.self.invariant.1,
)
