use Rattle.std.proofs.Common.{arith}
use Rattle.host_model.specs.Report.{journal_lines}
use Rattle.value_text.proofs.Handed.{breaks_last, next_handed, next_fails}
use Rattle.journal_text.specs.EntryText.{entry_text, call_line}
use Rattle.journal_text.proofs.Handing.{on_err, next_short}
use Rattle.journal_text.proofs.spelling.spell_entries.Goals as goal

pub loop-entry-preserved : goal.loop-entry-preserved
loop-entry-preserved g c =
    next_handed call_line c.args.entries.now c.loop-entry.entry-index c.entry-item.result c.entry-item.result (g.K.Sink.taken c.args.out.now) (g.K.Sink.taken c.loop-entry.out) (g.K.Sink.taken c.spell_entry.new.out)
    (g.K.Sink.faults c.args.out.now) (g.K.Sink.faults c.loop-entry.out) (g.K.Sink.faults c.spell_entry.new.out) (journal_lines entry_text c.args.entries.now) (omega arith) c.entry-item.is c.loop-entry.invariant
    (c.in_ok-spell_entry.ensures {u = tt}).handed

pub returns-in_err-spell_entry-clause-handed : goal.returns-in_err-spell_entry-clause-handed
returns-in_err-spell_entry-clause-handed g c =
    next_fails call_line c.args.entries.now c.loop-entry.entry-index c.entry-item.result c.entry-item.result (g.K.Sink.taken c.args.out.now) (g.K.Sink.taken c.loop-entry.out) (g.K.Sink.taken c.spell_entry.new.out)
    (g.K.Sink.faults c.args.out.now) (g.K.Sink.faults c.loop-entry.out) (g.K.Sink.faults c.spell_entry.new.out) (journal_lines entry_text c.args.entries.now) c.from_residual.result (omega arith) c.entry-item.is c.loop-entry.invariant
    c.from_residual.ensures.0
    (breaks_last (g.K.Sink.taken c.loop-entry.out) (g.K.Sink.taken c.spell_entry.new.out) (g.K.Sink.faults c.loop-entry.out) (g.K.Sink.faults c.spell_entry.new.out) (call_line c.entry-item.result) c.from_residual.result
    c.from_residual.ensures.0 (c.in_err-spell_entry.ensures {u = tt}).handed)

pub returns-in_err-spell_entry-clause-short : goal.returns-in_err-spell_entry-clause-short
returns-in_err-spell_entry-clause-short g c =
    on_err c.from_residual.result
    (next_short call_line c.args.entries.now c.loop-entry.entry-index c.entry-item.result c.entry-item.result (g.K.Sink.taken c.args.out.now) (g.K.Sink.taken c.loop-entry.out) (g.K.Sink.taken c.spell_entry.new.out)
    (g.K.Sink.faults c.args.out.now) (g.K.Sink.faults c.loop-entry.out) (journal_lines entry_text c.args.entries.now) (omega arith) c.entry-item.is c.loop-entry.invariant
    (c.in_err-spell_entry.ensures {u = tt}).short)
