use Rattle.std.proofs.Common.{◌≡◌, ◌++◌, length}
use Rattle.text_out.specs.Hex.{hex_of}
use Rattle.streams.specs.Taken.{IsTakenBut}
use Rattle.run_report.proofs.report.write_hex.Given as goal

abbrev pub invariant-chunks : goal.invariant-chunks
invariant-chunks g l = record {
  told : IsTakenBut (g.K.Sink.taken l.fn.out) (g.K.Sink.taken l.out) (l.fn.pending.items ++ hex_of l.fn.bytes) (l.pending.items ++ hex_of l.rest);
  kept : g.K.Sink.faults l.out ≡ g.K.Sink.faults l.fn.out;
}

abbrev pub decreases-chunks : goal.decreases-chunks
decreases-chunks g l = length l.rest
