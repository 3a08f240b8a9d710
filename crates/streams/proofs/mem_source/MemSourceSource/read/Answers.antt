use Rattle.std.proofs.Common.{List, ℕ, drop, ap, ◌∙◌}
use Rattle.std.proofs.Math.Seq.{take-add}
use Rattle.std.proofs.lemmas.List.{drop-drop}
use Rattle.streams.proofs.Pieces.{piece_is_read}
use Rattle.streams.proofs.mem_source.MemSourceSource.read.Goals as goal

pub returns-clause-moved : goal.returns-clause-moved
returns-clause-moved c =
    let left = c.split_at.ensures.back ∙ ap (λ (xs : List ℕ). drop c.self.inside.at xs) c.as_slice-2.ensures.value in
    let copied = rw left at c.fill-count.ensures.copied in
    let count = rw left at c.fill-count.ensures.count in
    rw (← c.self.view_is, copied) (piece_is_read _ _ _ _ _ c.self.invariant.1 count)

pub returns-clause-after : goal.returns-clause-after
returns-clause-after c =
    rw (← c.self.view_is, take-add c.self.inside.at c.fill-count.result c.self.inside.content.items, ← drop-drop c.fill-count.result c.self.inside.at c.self.inside.content.items, c.saturating_add-self-inside.ensures)
