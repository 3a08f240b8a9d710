use Rattle.std.proofs.Common.{get_or, refl, arith}
use Rattle.text_out.specs.Hex.{hex_of}
use Rattle.value_text.proofs.Handed.{breaks_last, next_handed, next_fails, byte_hex}
use Rattle.value_text.proofs.spelling.spell_hex.Goals as goal

pub loop-byte-preserved : goal.loop-byte-preserved
loop-byte-preserved g c =
    next_handed byte_hex c.args.bytes.now c.loop-byte.byte-index 0 (get_or c.args.bytes.now c.loop-byte.byte-index 0) (g.K.Sink.taken c.args.out.now) (g.K.Sink.taken c.loop-byte.out) (g.K.Sink.taken c.spell_two_digits.new.out) (g.K.Sink.faults c.args.out.now) (g.K.Sink.faults c.loop-byte.out) (g.K.Sink.faults c.spell_two_digits.new.out) (hex_of c.args.bytes.now) (omega arith) refl c.loop-byte.invariant
    (c.in_ok-spell_two_digits.ensures {u = tt})

pub returns-in_err-spell_two_digits : goal.returns-in_err-spell_two_digits
returns-in_err-spell_two_digits g c =
    next_fails byte_hex c.args.bytes.now c.loop-byte.byte-index 0 (get_or c.args.bytes.now c.loop-byte.byte-index 0) (g.K.Sink.taken c.args.out.now) (g.K.Sink.taken c.loop-byte.out) (g.K.Sink.taken c.spell_two_digits.new.out) (g.K.Sink.faults c.args.out.now) (g.K.Sink.faults c.loop-byte.out) (g.K.Sink.faults c.spell_two_digits.new.out) (hex_of c.args.bytes.now) c.from_residual.result (omega arith) refl c.loop-byte.invariant c.from_residual.ensures.0
    (breaks_last (g.K.Sink.taken c.loop-byte.out) (g.K.Sink.taken c.spell_two_digits.new.out) (g.K.Sink.faults c.loop-byte.out) (g.K.Sink.faults c.spell_two_digits.new.out) (byte_hex (get_or c.args.bytes.now c.loop-byte.byte-index 0)) c.from_residual.result c.from_residual.ensures.0 (c.in_err-spell_two_digits.ensures {u = tt}))
