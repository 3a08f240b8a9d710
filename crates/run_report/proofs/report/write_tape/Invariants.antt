use Rattle.std.proofs.Common.{◌≡◌, ◌++◌, length}
use Rattle.host_model.specs.Report.{tape_lines}
use Rattle.streams.specs.Taken.{IsTakenBut}
use Rattle.run_report.proofs.report.write_tape.Given as goal

-- what is pending and the lines of the marks that are left are all that wasn't taken
abbrev pub invariant-tape : goal.invariant-tape
invariant-tape g l = record {
  told : IsTakenBut (g.K.Sink.taken l.fn.out) (g.K.Sink.taken l.out) (l.fn.pending.items ++ tape_lines l.fn.tape) (l.pending.items ++ tape_lines l.marks);
  kept : g.K.Sink.faults l.out ≡ g.K.Sink.faults l.fn.out;
}

abbrev pub decreases-tape : goal.decreases-tape
decreases-tape g l = length l.marks
