use Rattle.std.proofs.Common.{◌++◌, codes}
use Rattle.text_out.specs.Decimal.{decimal_of}
use Rattle.thrift_value.specs.TreeOf.{tree_of}
use Rattle.value_text.specs.ValueText.{tree_text}
use Rattle.value_text.proofs.Handed.{goes_on, breaks}
use Rattle.journal_text.proofs.spelling.spell_thrown.Goals as goal

pub returns-in_err-hand_over : goal.returns-in_err-hand_over
returns-in_err-hand_over g c =
    breaks (g.K.Sink.taken c.args.out.now) (g.K.Sink.taken c.hand_over.new.out) (g.K.Sink.faults c.args.out.now) (g.K.Sink.faults c.hand_over.new.out) (codes " throws ") ((decimal_of c.args.id.now) ++ (codes " " ++ tree_text (tree_of c.args.exception.now))) c.from_residual.result c.from_residual.ensures.0 (c.in_err-hand_over.ensures {u = tt})

pub returns-in_err-spell_id : goal.returns-in_err-spell_id
returns-in_err-spell_id g c =
    goes_on (g.K.Sink.taken c.args.out.now) (g.K.Sink.taken c.hand_over.new.out) (g.K.Sink.taken c.spell_id.new.out) (g.K.Sink.faults c.args.out.now) (g.K.Sink.faults c.hand_over.new.out) (g.K.Sink.faults c.spell_id.new.out) (codes " throws ") ((decimal_of c.args.id.now) ++ (codes " " ++ tree_text (tree_of c.args.exception.now))) c.from_residual-in_err-spell_id.result
    (c.in_ok-hand_over.ensures {u = tt})
    (breaks (g.K.Sink.taken c.hand_over.new.out) (g.K.Sink.taken c.spell_id.new.out) (g.K.Sink.faults c.hand_over.new.out) (g.K.Sink.faults c.spell_id.new.out) (decimal_of c.args.id.now) (codes " " ++ tree_text (tree_of c.args.exception.now)) c.from_residual-in_err-spell_id.result c.from_residual-in_err-spell_id.ensures.0 (c.in_err-spell_id.ensures {u = tt}))

pub returns : goal.returns
returns g c =
    goes_on (g.K.Sink.taken c.args.out.now) (g.K.Sink.taken c.hand_over.new.out) (g.K.Sink.taken c.spell_behind.new.out) (g.K.Sink.faults c.args.out.now) (g.K.Sink.faults c.hand_over.new.out) (g.K.Sink.faults c.spell_behind.new.out) (codes " throws ") ((decimal_of c.args.id.now) ++ (codes " " ++ tree_text (tree_of c.args.exception.now))) c.spell_behind.result
    (c.in_ok-hand_over.ensures {u = tt})
    (goes_on (g.K.Sink.taken c.hand_over.new.out) (g.K.Sink.taken c.spell_id.new.out) (g.K.Sink.taken c.spell_behind.new.out) (g.K.Sink.faults c.hand_over.new.out) (g.K.Sink.faults c.spell_id.new.out) (g.K.Sink.faults c.spell_behind.new.out) (decimal_of c.args.id.now) (codes " " ++ tree_text (tree_of c.args.exception.now)) c.spell_behind.result
    (c.in_ok-spell_id.ensures {u = tt})
    (c.spell_behind.ensures))
