use Rattle.std.proofs.Common.{◌≡◌, false, true, refl, ap, ◌∙◌}
use Rattle.journal_text.proofs.Pending.{spool_emptied, spool_broken}
use Rattle.journal_text.proofs.spool_journal.SpoolJournal.finish.Goals as goal

pub invariant_of-self : goal.invariant_of-self
invariant_of-self g c =
    let whole : c.self.inside.failed ≡ false = ap (λ v. v.failed) c.self.view_is ∙ c.requires.whole in
    spool_broken (g.K.Sink.taken c.self.inside.opening.value) (g.K.Sink.taken c.self.inside.out.sink) (g.K.Sink.taken c.flush.new.self.sink)
    c.self.inside.out.held c.flush.new.self.held c.self.inside.appended c.self.inside.count c.self.inside.unwritten.value c.self.inside.failed true whole c.self.invariant
    c.in-Err.ensures.taken refl

pub invariant_of-self-2 : goal.invariant_of-self-2
invariant_of-self-2 g c =
    let whole : c.self.inside.failed ≡ false = ap (λ v. v.failed) c.self.view_is ∙ c.requires.whole in
    spool_emptied (g.K.Sink.taken c.self.inside.opening.value) (g.K.Sink.taken c.self.inside.out.sink) (g.K.Sink.taken c.flush.new.self.sink)
    c.self.inside.out.held c.flush.new.self.held c.self.inside.appended c.self.inside.count c.self.inside.unwritten.value c.self.inside.failed whole c.self.invariant
    c.in_default.ensures.taken c.in_default.ensures.empty

pub returns-in-Err-clause-unwritten : goal.returns-in-Err-clause-unwritten
returns-in-Err-clause-unwritten g c = c.self.invariant.none (ap (λ v. v.failed) c.self.view_is ∙ c.requires.whole)

pub returns-clause-unwritten : goal.returns-clause-unwritten
returns-clause-unwritten g c = c.self.invariant.none (ap (λ v. v.failed) c.self.view_is ∙ c.requires.whole)
