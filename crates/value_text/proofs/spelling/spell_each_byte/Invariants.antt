use Rattle.std.proofs.Common.{length}
use Rattle.std.specs.List.{flat_map}
use Rattle.text_out.specs.Quoted.{quoted_byte}
use Rattle.value_text.specs.Handing.{HandsOver}
use Rattle.value_text.proofs.spelling.spell_each_byte.Given as goal

abbrev pub invariant-runs : goal.invariant-runs
invariant-runs g l =
    HandsOver (g.K.Sink.taken l.fn.out) (g.K.Sink.taken l.out) (g.K.Sink.faults l.fn.out) (g.K.Sink.faults l.out) (flat_map quoted_byte l.fn.bytes)
    (flat_map quoted_byte l.rest)

abbrev pub decreases-runs : goal.decreases-runs
decreases-runs g l = length l.rest
