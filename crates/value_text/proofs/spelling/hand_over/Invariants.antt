use Rattle.std.proofs.Common.{length}
use Rattle.value_text.specs.Handing.{HandsOver}
use Rattle.value_text.proofs.spelling.hand_over.Given as goal

abbrev pub invariant-pieces : goal.invariant-pieces
invariant-pieces g l = HandsOver (g.K.Sink.taken l.fn.out) (g.K.Sink.taken l.out) (g.K.Sink.faults l.fn.out) (g.K.Sink.faults l.out) l.fn.bytes l.rest

abbrev pub decreases-pieces : goal.decreases-pieces
decreases-pieces g l = length l.rest
