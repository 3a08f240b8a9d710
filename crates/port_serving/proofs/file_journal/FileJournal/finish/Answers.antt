use Rattle.std.proofs.Common.{◌≡◌, ◌≤◌, true, false, sym, ap, subst, ◌∙◌}
use Rattle.streams.specs.Cause.{Rose}
use Rattle.port_serving.proofs.Filing.{unused_still, said_failed, said_empty, said_kept}
use Rattle.port_serving.proofs.file_journal.FileJournal.finish.Goals as goal

pub invariant_of-self : goal.invariant_of-self
invariant_of-self g c =
    unused_still (g.K.Sink.taken c.finish.new.self.opening) (g.K.Sink.taken c.self.inside.journal.opening) (ap g.K.Sink.taken c.finish.ensures.opening) c.self.invariant

pub returns-then-failed-clause-failed : goal.returns-then-failed-clause-failed
returns-then-failed-clause-failed g c = sym (ap (λ v. v.failed) c.self.view_is) ∙ sym c.failed.ensures ∙ c.if-failed.true

pub returns-then-failed-clause-rose : goal.returns-then-failed-clause-rose
returns-then-failed-clause-rose g c whole is =
    absurd (let both : true ≡ false = sym c.if-failed.true ∙ c.failed.ensures ∙ ap (λ v. v.failed) c.self.view_is ∙ whole in let never : ⊥ = cc in never)

pub returns-then-failed-clause-unwritten : goal.returns-then-failed-clause-unwritten
returns-then-failed-clause-unwritten g c whole =
    absurd (let both : true ≡ false = sym c.if-failed.true ∙ c.failed.ensures ∙ ap (λ v. v.failed) c.self.view_is ∙ whole in let never : ⊥ = cc in never)

pub returns-clause-torn : goal.returns-clause-torn
returns-clause-torn g c is =
    absurd (let both : true ≡ false = sym is ∙ sym (ap (λ v. v.failed) c.self.view_is) ∙ sym c.failed.ensures ∙ c.if-failed.false in let never : ⊥ = cc in never)

pub returns-clause-entries : goal.returns-clause-entries
returns-clause-entries g c = c.finish.ensures.entries ∙ ap (λ v. v.entries) c.self.view_is

pub returns-clause-later : goal.returns-clause-later
returns-clause-later g c =
    subst (λ n. n ≤ g.K.Sink.faults c.finish.new.self.sink) (ap (λ v. g.K.Sink.faults v.sink) c.self.view_is) c.finish.ensures.cause.later

pub returns-clause-failed : goal.returns-clause-failed
returns-clause-failed g c = said_failed c.finish.result c.is_err.result c.finish.new.self.failed c.is_err.ensures.value c.finish.ensures.failed

pub returns-clause-empty : goal.returns-clause-empty
returns-clause-empty g c is = said_empty c.finish.result c.is_err.result c.finish.new.self.held c.is_err.ensures.value c.finish.ensures.empty is

pub returns-clause-rose : goal.returns-clause-rose
returns-clause-rose g c whole is =
    subst (λ v. Rose (g.K.Sink.faults v.sink) (g.K.Sink.faults c.finish.new.self.sink)) c.self.view_is
    (c.finish.ensures.cause.failed (sym c.is_err.ensures.value ∙ is))

pub returns-clause-kept : goal.returns-clause-kept
returns-clause-kept g c is =
    subst (λ v. g.K.Sink.faults c.finish.new.self.sink ≡ g.K.Sink.faults v.sink) c.self.view_is
    (said_kept c.finish.result c.is_err.result (g.K.Sink.faults c.self.inside.journal.sink) (g.K.Sink.faults c.finish.new.self.sink) c.is_err.ensures.value
    c.finish.ensures.cause.kept is)

pub returns-clause-unwritten : goal.returns-clause-unwritten
returns-clause-unwritten g c whole = c.finish.ensures.unwritten
