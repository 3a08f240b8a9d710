use Rattle.std.proofs.Common.{[], codes}
use Rattle.journal_text.specs.EntryText.{entry_text}
use Rattle.journal_text.proofs.Handing.{on_err, short_of_more, short_last}
use Rattle.value_text.proofs.Handed.{goes_on, breaks}
use Rattle.journal_text.proofs.spelling.spell_entry.Goals as goal

pub returns-in_err-spell_text-clause-handed : goal.returns-in_err-spell_text-clause-handed
returns-in_err-spell_text-clause-handed g c =
    breaks (g.K.Sink.taken c.args.out.now) (g.K.Sink.taken c.spell_text.new.out) (g.K.Sink.faults c.args.out.now) (g.K.Sink.faults c.spell_text.new.out) (entry_text c.args.entry.now) (codes "\n") c.from_residual.result c.from_residual.ensures.0
    (c.in_err-spell_text.ensures {u = tt})

pub returns-in_err-spell_text-clause-short : goal.returns-in_err-spell_text-clause-short
returns-in_err-spell_text-clause-short g c =
    on_err c.from_residual.result
    (short_of_more (g.K.Sink.taken c.args.out.now) (g.K.Sink.taken c.spell_text.new.out) (g.K.Sink.faults c.args.out.now) (g.K.Sink.faults c.spell_text.new.out) (entry_text c.args.entry.now) 10 [] (c.in_err-spell_text.ensures {u = tt}))

pub returns-clause-handed : goal.returns-clause-handed
returns-clause-handed g c =
    goes_on (g.K.Sink.taken c.args.out.now) (g.K.Sink.taken c.spell_text.new.out) (g.K.Sink.taken c.end_line.new.out) (g.K.Sink.faults c.args.out.now) (g.K.Sink.faults c.spell_text.new.out) (g.K.Sink.faults c.end_line.new.out) (entry_text c.args.entry.now) (codes "\n") c.end_line.result
    (c.in_ok-spell_text.ensures {u = tt}) c.end_line.ensures.handed

pub returns-clause-short : goal.returns-clause-short
returns-clause-short g c =
    short_last (g.K.Sink.taken c.args.out.now) (g.K.Sink.taken c.spell_text.new.out) (g.K.Sink.taken c.end_line.new.out) (g.K.Sink.faults c.args.out.now) (g.K.Sink.faults c.spell_text.new.out) (entry_text c.args.entry.now) 10 c.end_line.result (c.in_ok-spell_text.ensures {u = tt}) c.end_line.ensures.none
