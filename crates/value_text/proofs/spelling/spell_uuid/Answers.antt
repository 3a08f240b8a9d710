use Rattle.std.proofs.Common.{codes}
use Rattle.std.specs.Int.{w128, to_be_bytes}
use Rattle.text_out.specs.Hex.{hex_of}
use Rattle.value_text.proofs.Handed.{goes_on, breaks}
use Rattle.value_text.proofs.spelling.spell_uuid.Goals as goal

pub returns-in_err-hand_over : goal.returns-in_err-hand_over
returns-in_err-hand_over g c =
    breaks (g.K.Sink.taken c.args.out.now) (g.K.Sink.taken c.hand_over.new.out) (g.K.Sink.faults c.args.out.now) (g.K.Sink.faults c.hand_over.new.out) (codes "u") (hex_of (to_be_bytes w128 c.args.number)) c.from_residual.result c.from_residual.ensures.0 (c.in_err-hand_over.ensures {u = tt})

pub returns : goal.returns
returns g c =
    goes_on (g.K.Sink.taken c.args.out.now) (g.K.Sink.taken c.hand_over.new.out) (g.K.Sink.taken c.spell_wide.new.out) (g.K.Sink.faults c.args.out.now) (g.K.Sink.faults c.hand_over.new.out) (g.K.Sink.faults c.spell_wide.new.out) (codes "u") (hex_of (to_be_bytes w128 c.args.number)) c.spell_wide.result
    (c.in_ok-hand_over.ensures {u = tt})
    (c.spell_wide.ensures)
