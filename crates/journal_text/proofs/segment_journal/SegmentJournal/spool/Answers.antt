use Rattle.std.proofs.Common.{◌≡◌, ◌<◌, ◌-◌, length, ap, ◌∙◌, arith, length-drop}
use Rattle.journal_text.specs.Segments.{segment_room}
use Rattle.journal_text.proofs.Handing.{failed_so}
use Rattle.journal_text.proofs.Spooling.{next_spooled, spooled_short}
use Rattle.journal_text.proofs.segment_journal.SegmentJournal.spool.Goals as goal

pub segments-smaller : goal.segments-smaller
segments-smaller g c =
    let entries = c.segments.self.entries in
    let shorter : length c.spool_first.new.self.entries ≡ length entries - segment_room =
    ap length (c.in_ok-spool_first.ensures {u = tt}).left ∙ length-drop segment_room entries in
    let some : 0 < c.count.result = c.segments-test.true in
    let count : c.count.result ≡ length entries = c.count.ensures in
    omega (arith, shorter, some, count)

pub segments-preserved : goal.segments-preserved
segments-preserved g c =
    next_spooled (g.K.Sink.taken c.args.out.now) (g.K.Sink.taken c.segments.out) (g.K.Sink.taken c.spool_first.new.out) (g.K.Sink.faults c.args.out.now)
    (g.K.Sink.faults c.segments.out) (g.K.Sink.faults c.spool_first.new.out) c.args.self.now.entries c.segments.self.entries c.spool_first.new.self.entries c.segments.invariant
    (c.in_ok-spool_first.ensures {u = tt}).handed (c.in_ok-spool_first.ensures {u = tt}).left

pub returns-in_err-spool_first-clause-told : goal.returns-in_err-spool_first-clause-told
returns-in_err-spool_first-clause-told g c =
    failed_so _ c.from_residual.result c.from_residual.ensures.0
    (spooled_short (g.K.Sink.taken c.args.out.now) (g.K.Sink.taken c.segments.out) (g.K.Sink.taken c.spool_first.new.out) (g.K.Sink.faults c.args.out.now)
    (g.K.Sink.faults c.segments.out) c.args.self.now.entries c.segments.self.entries c.spool_first.new.self.entries c.segments.invariant
    (c.in_err-spool_first.ensures {u = tt}).short (c.in_err-spool_first.ensures {u = tt}).left)
