use Rattle.std.proofs.Common.{◌≡◌, ◌-◌, ◌++◌, length, drop}
use Rattle.streams.specs.Taken.{IsTakenBut}
use Rattle.run_report.specs.Summary.{conn_lines}
use Rattle.run_report.proofs.summary.write_conns.Given as goal

abbrev pub invariant-conns : goal.invariant-conns
invariant-conns g l = record {
  told : IsTakenBut (g.K.Sink.taken l.fn.out) (g.K.Sink.taken l.out) (l.fn.pending.items ++ conn_lines 0 l.causes)
      (l.pending.items ++ conn_lines l.c (drop l.c l.causes));
  kept : g.K.Sink.faults l.out ≡ g.K.Sink.faults l.fn.out;
}

abbrev pub decreases-conns : goal.decreases-conns
decreases-conns g l = length l.causes - l.c
