use Rattle.std.proofs.Common.{drop}
use Rattle.host_model.specs.Report.{journal_lines}
use Rattle.value_text.specs.Handing.{HandsOver}
use Rattle.journal_text.specs.EntryText.{entry_text}
use Rattle.journal_text.proofs.spelling.spell_entries.Given as goal

abbrev pub invariant-loop-entry : goal.invariant-loop-entry
invariant-loop-entry g l =
    HandsOver (g.K.Sink.taken l.fn.out) (g.K.Sink.taken l.out) (g.K.Sink.faults l.fn.out) (g.K.Sink.faults l.out) (journal_lines entry_text l.entries)
    (journal_lines entry_text (drop l.entry-index l.entries))
