use Rattle.std.proofs.Common.{◌≡◌, ◌-◌, ◌++◌, length, drop}
use Rattle.streams.specs.Taken.{IsTakenBut}
use Rattle.run_report.specs.Written.{ended_lines}
use Rattle.run_report.proofs.report.write_ends.Given as goal

abbrev pub invariant-ends : goal.invariant-ends
invariant-ends g l = record {
  told : IsTakenBut (g.K.Sink.taken l.fn.out) (g.K.Sink.taken l.out) (l.fn.pending.items ++ ended_lines 0 l.causes l.written)
      (l.pending.items ++ ended_lines l.c (drop l.c l.causes) (drop l.c l.written));
  kept : g.K.Sink.faults l.out ≡ g.K.Sink.faults l.fn.out;
}

abbrev pub decreases-ends : goal.decreases-ends
decreases-ends g l = length l.causes - l.c
