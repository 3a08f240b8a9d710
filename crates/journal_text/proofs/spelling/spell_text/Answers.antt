use Rattle.std.proofs.Common.{◌++◌, codes, ap, ◌∙◌}
use Rattle.call_rules.specs.Answers.{plain_answer}
use Rattle.value_text.specs.ValueText.{tree_text}
use Rattle.journal_text.specs.EntryText.{front_text, answered_text, next_word, entry_text}
use Rattle.journal_text.proofs.Handing.{blank_parts}
use Rattle.value_text.proofs.Handed.{goes_on, breaks, hands_same}
use Rattle.journal_text.proofs.spelling.spell_text.Goals as goal

pub returns-in_err-spell_front : goal.returns-in_err-spell_front
returns-in_err-spell_front g c =
    hands_same (g.K.Sink.taken c.args.out.now) (g.K.Sink.taken c.spell_front.new.out) (g.K.Sink.faults c.args.out.now) (g.K.Sink.faults c.spell_front.new.out) ((front_text c.entry.inside.call.silent c.entry.inside.key c.entry.inside.call.slot ++ codes " ") ++ ((c.entry.inside.call.method ++ next_word (tree_text c.entry.inside.call.args)) ++ (next_word (answered_text (plain_answer c.entry.inside.answer))))) (entry_text c.args.entry.now) c.from_residual.result
    (blank_parts (front_text c.entry.inside.call.silent c.entry.inside.key c.entry.inside.call.slot) (c.entry.inside.call.method ++ next_word (tree_text c.entry.inside.call.args)) (next_word (answered_text (plain_answer c.entry.inside.answer))) ∙ ap entry_text c.entry.view_is)
    (breaks (g.K.Sink.taken c.args.out.now) (g.K.Sink.taken c.spell_front.new.out) (g.K.Sink.faults c.args.out.now) (g.K.Sink.faults c.spell_front.new.out) (front_text c.entry.inside.call.silent c.entry.inside.key c.entry.inside.call.slot ++ codes " ") ((c.entry.inside.call.method ++ next_word (tree_text c.entry.inside.call.args)) ++ (next_word (answered_text (plain_answer c.entry.inside.answer)))) c.from_residual.result c.from_residual.ensures.0 (c.in_err-spell_front.ensures {u = tt}))

pub returns-in_err-spell_asked : goal.returns-in_err-spell_asked
returns-in_err-spell_asked g c =
    hands_same (g.K.Sink.taken c.args.out.now) (g.K.Sink.taken c.spell_asked.new.out) (g.K.Sink.faults c.args.out.now) (g.K.Sink.faults c.spell_asked.new.out) ((front_text c.entry.inside.call.silent c.entry.inside.key c.entry.inside.call.slot ++ codes " ") ++ ((c.entry.inside.call.method ++ next_word (tree_text c.entry.inside.call.args)) ++ (next_word (answered_text (plain_answer c.entry.inside.answer))))) (entry_text c.args.entry.now) c.from_residual-in_err-spell_asked.result
    (blank_parts (front_text c.entry.inside.call.silent c.entry.inside.key c.entry.inside.call.slot) (c.entry.inside.call.method ++ next_word (tree_text c.entry.inside.call.args)) (next_word (answered_text (plain_answer c.entry.inside.answer))) ∙ ap entry_text c.entry.view_is)
    (goes_on (g.K.Sink.taken c.args.out.now) (g.K.Sink.taken c.spell_front.new.out) (g.K.Sink.taken c.spell_asked.new.out) (g.K.Sink.faults c.args.out.now) (g.K.Sink.faults c.spell_front.new.out) (g.K.Sink.faults c.spell_asked.new.out) (front_text c.entry.inside.call.silent c.entry.inside.key c.entry.inside.call.slot ++ codes " ") ((c.entry.inside.call.method ++ next_word (tree_text c.entry.inside.call.args)) ++ (next_word (answered_text (plain_answer c.entry.inside.answer)))) c.from_residual-in_err-spell_asked.result
    (c.in_ok-spell_front.ensures {u = tt})
    (breaks (g.K.Sink.taken c.spell_front.new.out) (g.K.Sink.taken c.spell_asked.new.out) (g.K.Sink.faults c.spell_front.new.out) (g.K.Sink.faults c.spell_asked.new.out) (c.entry.inside.call.method ++ next_word (tree_text c.entry.inside.call.args)) (next_word (answered_text (plain_answer c.entry.inside.answer))) c.from_residual-in_err-spell_asked.result c.from_residual-in_err-spell_asked.ensures.0 (c.in_err-spell_asked.ensures {u = tt})))

pub returns : goal.returns
returns g c =
    hands_same (g.K.Sink.taken c.args.out.now) (g.K.Sink.taken c.spell_answer.new.out) (g.K.Sink.faults c.args.out.now) (g.K.Sink.faults c.spell_answer.new.out) ((front_text c.entry.inside.call.silent c.entry.inside.key c.entry.inside.call.slot ++ codes " ") ++ ((c.entry.inside.call.method ++ next_word (tree_text c.entry.inside.call.args)) ++ (next_word (answered_text (plain_answer c.entry.inside.answer))))) (entry_text c.args.entry.now) c.spell_answer.result
    (blank_parts (front_text c.entry.inside.call.silent c.entry.inside.key c.entry.inside.call.slot) (c.entry.inside.call.method ++ next_word (tree_text c.entry.inside.call.args)) (next_word (answered_text (plain_answer c.entry.inside.answer))) ∙ ap entry_text c.entry.view_is)
    (goes_on (g.K.Sink.taken c.args.out.now) (g.K.Sink.taken c.spell_front.new.out) (g.K.Sink.taken c.spell_answer.new.out) (g.K.Sink.faults c.args.out.now) (g.K.Sink.faults c.spell_front.new.out) (g.K.Sink.faults c.spell_answer.new.out) (front_text c.entry.inside.call.silent c.entry.inside.key c.entry.inside.call.slot ++ codes " ") ((c.entry.inside.call.method ++ next_word (tree_text c.entry.inside.call.args)) ++ (next_word (answered_text (plain_answer c.entry.inside.answer)))) c.spell_answer.result
    (c.in_ok-spell_front.ensures {u = tt})
    (goes_on (g.K.Sink.taken c.spell_front.new.out) (g.K.Sink.taken c.spell_asked.new.out) (g.K.Sink.taken c.spell_answer.new.out) (g.K.Sink.faults c.spell_front.new.out) (g.K.Sink.faults c.spell_asked.new.out) (g.K.Sink.faults c.spell_answer.new.out) (c.entry.inside.call.method ++ next_word (tree_text c.entry.inside.call.args)) (next_word (answered_text (plain_answer c.entry.inside.answer))) c.spell_answer.result
    (c.in_ok-spell_asked.ensures {u = tt})
    c.spell_answer.ensures))
