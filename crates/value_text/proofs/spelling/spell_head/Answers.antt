use Rattle.std.proofs.Common.{◌++◌, codes}
use Rattle.value_text.specs.ValueText.{tag_word}
use Rattle.value_text.proofs.Handed.{goes_on, breaks}
use Rattle.value_text.proofs.spelling.spell_head.Goals as goal

pub returns-in_err-hand_over : goal.returns-in_err-hand_over
returns-in_err-hand_over g c =
    breaks (g.K.Sink.taken c.args.out.now) (g.K.Sink.taken c.hand_over.new.out) (g.K.Sink.faults c.args.out.now) (g.K.Sink.faults c.hand_over.new.out) c.args.word.now ((tag_word c.args.element) ++ (codes ">[")) c.from_residual.result c.from_residual.ensures.0 (c.in_err-hand_over.ensures {u = tt})

pub returns-in_err-spell_tag : goal.returns-in_err-spell_tag
returns-in_err-spell_tag g c =
    goes_on (g.K.Sink.taken c.args.out.now) (g.K.Sink.taken c.hand_over.new.out) (g.K.Sink.taken c.spell_tag.new.out) (g.K.Sink.faults c.args.out.now) (g.K.Sink.faults c.hand_over.new.out) (g.K.Sink.faults c.spell_tag.new.out) c.args.word.now ((tag_word c.args.element) ++ (codes ">[")) c.from_residual-in_err-spell_tag.result
    (c.in_ok-hand_over.ensures {u = tt})
    (breaks (g.K.Sink.taken c.hand_over.new.out) (g.K.Sink.taken c.spell_tag.new.out) (g.K.Sink.faults c.hand_over.new.out) (g.K.Sink.faults c.spell_tag.new.out) (tag_word c.args.element) (codes ">[") c.from_residual-in_err-spell_tag.result c.from_residual-in_err-spell_tag.ensures.0 (c.in_err-spell_tag.ensures {u = tt}))

pub returns : goal.returns
returns g c =
    goes_on (g.K.Sink.taken c.args.out.now) (g.K.Sink.taken c.hand_over.new.out) (g.K.Sink.taken c.hand_over-2.new.out) (g.K.Sink.faults c.args.out.now) (g.K.Sink.faults c.hand_over.new.out) (g.K.Sink.faults c.hand_over-2.new.out) c.args.word.now ((tag_word c.args.element) ++ (codes ">[")) c.hand_over-2.result
    (c.in_ok-hand_over.ensures {u = tt})
    (goes_on (g.K.Sink.taken c.hand_over.new.out) (g.K.Sink.taken c.spell_tag.new.out) (g.K.Sink.taken c.hand_over-2.new.out) (g.K.Sink.faults c.hand_over.new.out) (g.K.Sink.faults c.spell_tag.new.out) (g.K.Sink.faults c.hand_over-2.new.out) (tag_word c.args.element) (codes ">[") c.hand_over-2.result
    (c.in_ok-spell_tag.ensures {u = tt})
    (c.hand_over-2.ensures))
