use Rattle.std.proofs.Common.{◌≡◌, ℕ, ◌+◌, ◌*◌, ◌/◌, ◌%◌, ◌<◌, length, sym, ap, ◌∙◌, arith, slice_get}
use Rattle.journal_text.proofs.Segmented.{placed, placed_last, got, few, none_past}
use Rattle.journal_text.proofs.segment_journal.SegmentJournal.entry.Goals as goal

pub returns-then-segment-len : goal.returns-then-segment-len
returns-then-segment-len c =
    let i : ℕ = c.args.i in
    let full = c.self.inside.full.items in
    let many : c.len.result ≡ length full = c.len.ensures ∙ c.self.inside.full.ok.0 in
    let test : i / 1024 < c.len.result = c.if-segment-len.true in
    got c.as_slice.result.now (i % 1024) c.get.result c.get.ensures.lookup
    ∙ ap (λ s. slice_get s (i % 1024)) (c.as_slice.ensures.value ∙ c.behind-self.view_is ∙ c.index.ensures)
    ∙ sym (placed full c.self.inside.last.items (i / 1024) (i % 1024) i c.index.result.now c.self.invariant.whole (omega (arith, many, test)) (omega arith) (omega arith))
    ∙ ap (λ v. slice_get v.entries i) c.self.view_is

pub returns-then-len-segment : goal.returns-then-len-segment
returns-then-len-segment c =
    let i : ℕ = c.args.i in
    let full = c.self.inside.full.items in
    let many : c.len-2.result ≡ length full = c.len-2.ensures ∙ c.self.inside.full.ok.0 in
    let test : c.len-2.result < i / 1024 = c.if-len-segment.true in
    sym (none_past full c.self.inside.last.items i c.self.invariant.whole (few (length c.self.inside.last.items) c.self.inside.free c.self.invariant.held) (omega (arith, many, test)))
    ∙ ap (λ v. slice_get v.entries i) c.self.view_is

pub returns : goal.returns
returns c =
    let i : ℕ = c.args.i in
    let full = c.self.inside.full.items in
    let many : c.len.result ≡ length full = c.len.ensures ∙ c.self.inside.full.ok.0 in
    let many_still : c.len-2.result ≡ length full = c.len-2.ensures ∙ c.self.inside.full.ok.0 in
    let low = c.if-segment-len.false in
    let high = c.if-len-segment.false in
    let at : i ≡ length full * 1024 + i % 1024 = omega (arith, many, many_still, low, high) in
    got c.as_slice-2.result.now (i % 1024) c.get-2.result c.get-2.ensures.lookup
    ∙ ap (λ s. slice_get s (i % 1024)) c.as_slice-2.ensures.value
    ∙ sym (placed_last full c.self.inside.last.items (i % 1024) i c.self.invariant.whole at)
    ∙ ap (λ v. slice_get v.entries i) c.self.view_is
