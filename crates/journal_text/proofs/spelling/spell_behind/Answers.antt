use Rattle.thrift_value.specs.TreeOf.{tree_of}
use Rattle.value_text.specs.ValueText.{tree_text}
use Rattle.value_text.proofs.Handed.{goes_on, breaks}
use Rattle.journal_text.proofs.spelling.spell_behind.Goals as goal

pub returns-in_err-hand_over : goal.returns-in_err-hand_over
returns-in_err-hand_over g c =
    breaks (g.K.Sink.taken c.args.out.now) (g.K.Sink.taken c.hand_over.new.out) (g.K.Sink.faults c.args.out.now) (g.K.Sink.faults c.hand_over.new.out) (c.args.word.now) (tree_text (tree_of c.args.value.now)) c.from_residual.result c.from_residual.ensures.0 (c.in_err-hand_over.ensures {u = tt})

pub returns : goal.returns
returns g c =
    goes_on (g.K.Sink.taken c.args.out.now) (g.K.Sink.taken c.hand_over.new.out) (g.K.Sink.taken c.spell_value.new.out) (g.K.Sink.faults c.args.out.now) (g.K.Sink.faults c.hand_over.new.out) (g.K.Sink.faults c.spell_value.new.out) (c.args.word.now) (tree_text (tree_of c.args.value.now)) c.spell_value.result
    (c.in_ok-hand_over.ensures {u = tt})
    (c.spell_value.ensures)
