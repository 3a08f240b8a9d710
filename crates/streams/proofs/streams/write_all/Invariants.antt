use Rattle.std.proofs.Common.{◌≡◌, length}
use Rattle.streams.specs.Taken.{IsTakenBut}
use Rattle.streams.proofs.streams.write_all.Given as goal

abbrev pub invariant-pieces : goal.invariant-pieces
invariant-pieces g l = record {
  told : IsTakenBut (g.K.Sink.taken l.fn.out) (g.K.Sink.taken l.out) l.fn.bytes l.rest;
  kept : g.K.Sink.faults l.out ≡ g.K.Sink.faults l.fn.out;
}

abbrev pub decreases-pieces : goal.decreases-pieces
decreases-pieces g l = length l.rest
