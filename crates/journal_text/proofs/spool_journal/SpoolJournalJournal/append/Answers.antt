use Rattle.std.proofs.Common.{◌≡◌, false, true, [], ◌∷◌, ◌++◌, refl, ap, subst, ◌∙◌}
use Rattle.host_model.specs.Report.{journal_lines}
use Rattle.journal_text.specs.Buffers.{EntersBuffer}
use Rattle.journal_text.specs.EntryText.{entry_text, call_line}
use Rattle.journal_text.specs.JournalStates.{IsCutShort}
use Rattle.journal_text.proofs.Pending.{spooled_on, spool_torn, line_short}
use Rattle.journal_text.proofs.spool_journal.SpoolJournalJournal.append.Goals as goal

pub invariant_of-self : goal.invariant_of-self
invariant_of-self g c =
    let whole : c.self.inside.failed ≡ false = ap (λ v. v.failed) c.self.view_is ∙ c.requires.whole in
    spool_torn (g.K.Sink.taken c.self.inside.opening.value) (g.K.Sink.taken c.self.inside.out.sink) (g.K.Sink.taken c.put_line.new.self.sink)
    c.self.inside.out.held c.put_line.new.self.held c.self.inside.appended c.args.entry c.self.inside.count
    (g.K.Sink.faults c.self.inside.out.sink) (g.K.Sink.faults c.put_line.new.self.sink) c.self.inside.unwritten.value _ c.self.inside.failed true whole c.self.invariant
    c.in-Err.ensures.handed refl c.of.ensures

pub invariant_of-self-2 : goal.invariant_of-self-2
invariant_of-self-2 g c =
    let whole : c.self.inside.failed ≡ false = ap (λ v. v.failed) c.self.view_is ∙ c.requires.whole in
    spooled_on (g.K.Sink.taken c.self.inside.opening.value) (g.K.Sink.taken c.self.inside.out.sink) (g.K.Sink.taken c.put_line.new.self.sink)
    c.self.inside.out.held c.put_line.new.self.held c.self.inside.appended c.push.new.self c.args.entry
    c.self.inside.count c.saturating_add-self-inside.result (g.K.Sink.faults c.self.inside.out.sink) (g.K.Sink.faults c.put_line.new.self.sink)
    c.self.inside.unwritten.value c.self.inside.failed whole c.self.invariant c.in_default.ensures.handed c.push.ensures c.saturating_add-self-inside.ensures

pub returns-in-Err-clause-begun : goal.returns-in-Err-clause-begun
returns-in-Err-clause-begun g c =
    let whole : c.self.inside.failed ≡ false = ap (λ v. v.failed) c.self.view_is ∙ c.requires.whole in
    subst (λ v. IsCutShort (g.K.Sink.taken v.opening) (g.K.Sink.taken c.put_line.new.self.sink) (journal_lines entry_text (v.entries ++ c.args.entry ∷ []))) c.self.view_is
    (line_short (g.K.Sink.taken c.self.inside.opening.value) (g.K.Sink.taken c.self.inside.out.sink) (g.K.Sink.taken c.put_line.new.self.sink)
    c.self.inside.out.held c.put_line.new.self.held c.self.inside.appended c.args.entry (g.K.Sink.faults c.self.inside.out.sink)
    (g.K.Sink.faults c.put_line.new.self.sink) (c.self.invariant.lines whole) c.in-Err.ensures.handed)

pub returns-clause-buffer : goal.returns-clause-buffer
returns-clause-buffer g c =
    subst (λ v. EntersBuffer (g.K.Sink.taken v.sink) (g.K.Sink.taken c.put_line.new.self.sink) v.held c.put_line.new.self.held (call_line c.args.entry)) c.self.view_is
    c.in_default.ensures.entered

pub returns-clause-unwritten : goal.returns-clause-unwritten
returns-clause-unwritten g c = ap (λ v. v.unwritten) c.self.view_is
