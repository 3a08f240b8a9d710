use Rattle.std.proofs.Common.{◌++◌, codes, ap, ◌∙◌}
use Rattle.thrift_value.specs.TreeOf.{tree_of}
use Rattle.value_text.specs.ValueText.{tree_text}
use Rattle.call_rules.specs.PlainCalls.{PlainCall}
use Rattle.journal_text.specs.EntryText.{next_word}
use Rattle.value_text.proofs.Handed.{goes_on, breaks, hands_same}
use Rattle.journal_text.proofs.spelling.spell_asked.Goals as goal

pub returns-in_err-hand_over : goal.returns-in_err-hand_over
returns-in_err-hand_over g c =
    hands_same (g.K.Sink.taken c.args.out.now) (g.K.Sink.taken c.hand_over.new.out) (g.K.Sink.faults c.args.out.now) (g.K.Sink.faults c.hand_over.new.out) (c.as_slice.result.now ++ (codes " " ++ tree_text (tree_of c.call.inside.args))) (c.args.call.now.method ++ next_word (tree_text c.args.call.now.args)) c.from_residual.result
    (ap (λ m. m ++ next_word (tree_text (tree_of c.call.inside.args))) c.as_slice.ensures ∙ ap (λ (x : PlainCall). x.method ++ next_word (tree_text x.args)) c.call.view_is)
    (breaks (g.K.Sink.taken c.args.out.now) (g.K.Sink.taken c.hand_over.new.out) (g.K.Sink.faults c.args.out.now) (g.K.Sink.faults c.hand_over.new.out) c.as_slice.result.now (codes " " ++ tree_text (tree_of c.call.inside.args)) c.from_residual.result c.from_residual.ensures.0 (c.in_err-hand_over.ensures {u = tt}))

pub returns : goal.returns
returns g c =
    hands_same (g.K.Sink.taken c.args.out.now) (g.K.Sink.taken c.spell_behind.new.out) (g.K.Sink.faults c.args.out.now) (g.K.Sink.faults c.spell_behind.new.out) (c.as_slice.result.now ++ (codes " " ++ tree_text (tree_of c.call.inside.args))) (c.args.call.now.method ++ next_word (tree_text c.args.call.now.args)) c.spell_behind.result
    (ap (λ m. m ++ next_word (tree_text (tree_of c.call.inside.args))) c.as_slice.ensures ∙ ap (λ (x : PlainCall). x.method ++ next_word (tree_text x.args)) c.call.view_is)
    (goes_on (g.K.Sink.taken c.args.out.now) (g.K.Sink.taken c.hand_over.new.out) (g.K.Sink.taken c.spell_behind.new.out) (g.K.Sink.faults c.args.out.now) (g.K.Sink.faults c.hand_over.new.out) (g.K.Sink.faults c.spell_behind.new.out) c.as_slice.result.now (codes " " ++ tree_text (tree_of c.call.inside.args)) c.spell_behind.result
    (c.in_ok-hand_over.ensures {u = tt})
    (c.spell_behind.ensures))
