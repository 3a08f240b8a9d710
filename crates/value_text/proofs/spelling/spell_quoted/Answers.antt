use Rattle.std.proofs.Common.{◌++◌, codes}
use Rattle.std.specs.List.{flat_map}
use Rattle.text_out.specs.Quoted.{quoted_byte}
use Rattle.value_text.proofs.Handed.{goes_on, breaks}
use Rattle.value_text.proofs.spelling.spell_quoted.Goals as goal

pub returns-in_err-hand_over : goal.returns-in_err-hand_over
returns-in_err-hand_over g c =
    breaks (g.K.Sink.taken c.args.out.now) (g.K.Sink.taken c.hand_over.new.out) (g.K.Sink.faults c.args.out.now) (g.K.Sink.faults c.hand_over.new.out) (codes "\"") ((flat_map quoted_byte c.args.bytes.now) ++ (codes "\"")) c.from_residual.result c.from_residual.ensures.0 (c.in_err-hand_over.ensures {u = tt})

pub returns-in_err-spell_each_byte : goal.returns-in_err-spell_each_byte
returns-in_err-spell_each_byte g c =
    goes_on (g.K.Sink.taken c.args.out.now) (g.K.Sink.taken c.hand_over.new.out) (g.K.Sink.taken c.spell_each_byte.new.out) (g.K.Sink.faults c.args.out.now) (g.K.Sink.faults c.hand_over.new.out) (g.K.Sink.faults c.spell_each_byte.new.out) (codes "\"") ((flat_map quoted_byte c.args.bytes.now) ++ (codes "\"")) c.from_residual-in_err-spell_each_byte.result
    (c.in_ok-hand_over.ensures {u = tt})
    (breaks (g.K.Sink.taken c.hand_over.new.out) (g.K.Sink.taken c.spell_each_byte.new.out) (g.K.Sink.faults c.hand_over.new.out) (g.K.Sink.faults c.spell_each_byte.new.out) (flat_map quoted_byte c.args.bytes.now) (codes "\"") c.from_residual-in_err-spell_each_byte.result c.from_residual-in_err-spell_each_byte.ensures.0 (c.in_err-spell_each_byte.ensures {u = tt}))

pub returns : goal.returns
returns g c =
    goes_on (g.K.Sink.taken c.args.out.now) (g.K.Sink.taken c.hand_over.new.out) (g.K.Sink.taken c.hand_over-2.new.out) (g.K.Sink.faults c.args.out.now) (g.K.Sink.faults c.hand_over.new.out) (g.K.Sink.faults c.hand_over-2.new.out) (codes "\"") ((flat_map quoted_byte c.args.bytes.now) ++ (codes "\"")) c.hand_over-2.result
    (c.in_ok-hand_over.ensures {u = tt})
    (goes_on (g.K.Sink.taken c.hand_over.new.out) (g.K.Sink.taken c.spell_each_byte.new.out) (g.K.Sink.taken c.hand_over-2.new.out) (g.K.Sink.faults c.hand_over.new.out) (g.K.Sink.faults c.spell_each_byte.new.out) (g.K.Sink.faults c.hand_over-2.new.out) (flat_map quoted_byte c.args.bytes.now) (codes "\"") c.hand_over-2.result
    (c.in_ok-spell_each_byte.ensures {u = tt})
    (c.hand_over-2.ensures))
