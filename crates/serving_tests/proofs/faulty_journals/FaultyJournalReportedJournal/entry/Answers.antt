use Rattle.std.proofs.Common.{◌≡◌, slice_get, ap, ◌∙◌}
use Rattle.std.specs.Option.{option_copied}
use Rattle.journal_text.proofs.Segmented.{got}
use Rattle.run_report.specs.Entries.{IsPlainEntry}
use Rattle.run_report.proofs.Listed.{holds_there}
use Rattle.serving_tests.proofs.faulty_journals.FaultyJournalReportedJournal.entry.Goals as goal

pub returns-clause-entry : goal.returns-clause-entry
returns-clause-entry c =
    got c.entries.result.now c.args.i c.get.result c.get.ensures.lookup ∙ ap (λ es. slice_get es c.args.i) c.entries.ensures
    ∙ ap (λ v. slice_get v.0.entries c.args.i) c.self.view_is

pub returns-clause-plain : goal.returns-clause-plain
returns-clause-plain c =
    let is : option_copied c.get.result ≡ slice_get c.self.inside.list.entries c.args.i =
    got c.entries.result.now c.args.i c.get.result c.get.ensures.lookup ∙ ap (λ es. slice_get es c.args.i) c.entries.ensures in
    holds_there IsPlainEntry c.self.inside.list.entries c.args.i c.get.result c.self.invariant is
