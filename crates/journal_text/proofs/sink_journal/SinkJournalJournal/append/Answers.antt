use Rattle.std.proofs.Common.{◌≡◌, false, ap, ◌∙◌}
use Rattle.journal_text.proofs.Written.{written_on}
use Rattle.journal_text.proofs.sink_journal.SinkJournalJournal.append.Goals as goal

pub invariant_of-self-2 : goal.invariant_of-self-2
invariant_of-self-2 g c =
    let whole : c.self.inside.torn ≡ false = ap (λ v. v.torn) c.self.view_is ∙ c.requires.whole in
    written_on (g.K.Sink.taken c.self.inside.opening.value) (g.K.Sink.taken c.self.inside.out.sink) (g.K.Sink.taken c.write_line.new.self.sink)
    c.self.inside.out.held c.write_line.new.self.held c.self.inside.appended c.push.new.self c.args.entry
    c.self.inside.count c.saturating_add-self-inside.result c.self.inside.torn whole
    c.self.invariant c.in_default.ensures.taken c.in_default.ensures.empty c.push.ensures c.saturating_add-self-inside.ensures
