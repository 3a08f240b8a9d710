use Rattle.recorded_runs.proofs.serving.journal_tells.Goals as goal

pub returns : goal.returns
returns g c = g.met.J.ReportedJournal.tells c.args.journal.now
