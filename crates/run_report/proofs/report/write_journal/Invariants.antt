use Rattle.std.proofs.Common.{◌≡◌, ◌++◌, drop}
use Rattle.host_model.specs.Report.{journal_lines}
use Rattle.streams.specs.Taken.{IsTakenBut}
use Rattle.run_report.proofs.report.write_journal.Given as goal

abbrev pub invariant-loop-i : goal.invariant-loop-i
invariant-loop-i g l = record {
  told : IsTakenBut (g.K.Sink.taken l.fn.out) (g.K.Sink.taken l.out) (l.fn.pending.items ++ journal_lines g.L.EntryLine.line (g.J.ReportedJournal.listed l.journal))
      (l.pending.items ++ journal_lines g.L.EntryLine.line (drop l.i (g.J.ReportedJournal.listed l.journal)));
  kept : g.K.Sink.faults l.out ≡ g.K.Sink.faults l.fn.out;
}
