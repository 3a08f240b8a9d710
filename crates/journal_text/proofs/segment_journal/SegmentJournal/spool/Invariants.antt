use Rattle.std.proofs.Common.{length}
use Rattle.journal_text.proofs.Spooling.{IsSpooledTo}
use Rattle.journal_text.proofs.segment_journal.SegmentJournal.spool.Given as goal

abbrev pub invariant-segments : goal.invariant-segments
invariant-segments g l =
    IsSpooledTo (g.K.Sink.taken l.fn.out) (g.K.Sink.taken l.out) (g.K.Sink.faults l.fn.out) (g.K.Sink.faults l.out) l.fn.self.entries l.self.entries

abbrev pub decreases-segments : goal.decreases-segments
decreases-segments g l = length l.self.entries
