use Rattle.std.proofs.Common.{◌≡◌, ◌%◌, length, sym, ap, ◌∙◌, arith}
use Rattle.journal_text.proofs.Segmented.{whole_segments}
use Rattle.journal_text.proofs.segment_journal.SegmentJournalJournal.reserve.Goals as goal

pub returns-clause-inside : goal.returns-clause-inside
returns-clause-inside c inside =
    let none : c.self.inside.free ≡ 0 = omega (arith, c.if-self-gt0.false) in
    absurd (inside (ap (λ v. length v.entries % 1024) (sym c.self.view_is)
    ∙ whole_segments c.self.inside.full.items c.self.inside.last.items c.self.inside.free c.self.invariant.whole c.self.invariant.held none))
