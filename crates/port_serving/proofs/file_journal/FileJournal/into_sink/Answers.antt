use Rattle.std.proofs.Common.{◌≡◌, [], false, sym, subst}
use Rattle.port_serving.specs.FileJournals.{KeepsLines}
use Rattle.port_serving.proofs.Filing.{lines_alone}
use Rattle.port_serving.proofs.file_journal.FileJournal.into_sink.Goals as goal

pub returns-clause-lines : goal.returns-clause-lines
returns-clause-lines g c =
    subst (λ v. KeepsLines (g.K.Sink.taken c.into_sink.result) v.entries v.unwritten v.failed) c.self.view_is
    (lines_alone (g.K.Sink.taken c.self.inside.journal.opening) (g.K.Sink.taken c.into_sink.result) c.self.inside.journal.held c.self.inside.journal.entries
    c.self.inside.journal.unwritten c.self.inside.journal.failed c.self.invariant (subst (λ v. v.failed ≡ false → v.held ≡ []) (sym c.self.view_is) c.requires.finished) c.into_sink.ensures.lines
    c.into_sink.ensures.begun)
