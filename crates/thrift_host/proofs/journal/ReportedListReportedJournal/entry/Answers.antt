use Rattle.run_report.specs.Entries.{IsPlainEntry}
use Rattle.run_report.proofs.Listed.{holds_there}
use Rattle.thrift_host.proofs.journal.ReportedListReportedJournal.entry.Goals as goal

pub returns-clause-plain : goal.returns-clause-plain
returns-clause-plain c = holds_there IsPlainEntry c.self.inside.list.entries c.args.i c.entry.result c.self.invariant c.entry.ensures
