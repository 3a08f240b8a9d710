use Rattle.std.proofs.Common.{refl}
use Rattle.std.proofs.lemmas.Result.{err_from_is_err_and}
use Rattle.host_model.specs.Report.{report}
use Rattle.recorded_runs.specs.Recorded.{IsToldRun, ReportsRunOf}
use Rattle.recorded_runs.specs.Answered.{IsRunOfScript}
use Rattle.recorded_runs.proofs.Outputs.{written_so}
use Rattle.recorded_runs.proofs.Reporting.{text_of, in_part, count_left}
use Rattle.recorded_runs.proofs.answering.report_run.Goals as goal

pub write_report-requires : goal.write_report-requires
write_report-requires g c =
    record {
      written = written_so c.args.run.now.tape c.args.run.now.tape c.args.run.now.ends c.as_slice.result.now c.args.run.now.outs c.as_slice-in-All.result.now
          refl c.as_slice.ensures c.as_slice-in-All.ensures (c.requires.outs c.in-All.is);
    }

pub returns-in_err-write_report-in-All-clause-reported : goal.returns-in_err-write_report-in-All-clause-reported
returns-in_err-write_report-in-All-clause-reported g c a script run =
    let p = err_from_is_err_and c.from_residual.result c.from_residual.ensures.1 in
    let reports : ReportsRunOf (IsToldRun (g.J.Journal.told c.args.run.now.journal) (IsRunOfScript a)) g.L.EntryLine.line script (report g.L.EntryLine.line c.args.run.now.tape (g.J.ReportedJournal.listed c.args.run.now.journal) c.as_slice.result.now) =
    text_of (IsToldRun (g.J.Journal.told c.args.run.now.journal) (IsRunOfScript a)) g.L.EntryLine.line script c.args.run.now.tape c.args.run.now.tape c.args.run.now.ends c.as_slice.result.now (g.J.ReportedJournal.listed c.args.run.now.journal)
    refl c.as_slice.ensures (record { run = run c.in-All.is (g.J.ReportedJournal.listed c.args.run.now.journal) (g.met.J.ReportedJournal.tells c.args.run.now.journal); told_so = g.met.J.ReportedJournal.tells c.args.run.now.journal }) in
    rw (p.1, p.2)
    (in_part (IsToldRun (g.J.Journal.told c.args.run.now.journal) (IsRunOfScript a)) g.L.EntryLine.line script _ c.in_err-write_report-in-All.ensures.told.0 _ _ c.in_err-write_report-in-All.field-0.0 reports c.in_err-write_report-in-All.ensures.told.1)

pub returns-in_ok-write_report-in-All-clause-reported : goal.returns-in_ok-write_report-in-All-clause-reported
returns-in_ok-write_report-in-All-clause-reported g c a script run = (
  report g.L.EntryLine.line c.args.run.now.tape (g.J.ReportedJournal.listed c.args.run.now.journal) c.as_slice.result.now,
  text_of (IsToldRun (g.J.Journal.told c.args.run.now.journal) (IsRunOfScript a)) g.L.EntryLine.line script c.args.run.now.tape c.args.run.now.tape c.args.run.now.ends c.as_slice.result.now (g.J.ReportedJournal.listed c.args.run.now.journal)
      refl c.as_slice.ensures (record { run = run c.in-All.is (g.J.ReportedJournal.listed c.args.run.now.journal) (g.met.J.ReportedJournal.tells c.args.run.now.journal); told_so = g.met.J.ReportedJournal.tells c.args.run.now.journal }),
  c.in_ok-write_report-in-All.ensures.told,
)

pub returns-in_err-write_report-in-All-clause-output_left : goal.returns-in_err-write_report-in-All-clause-output_left
returns-in_err-write_report-in-All-clause-output_left g c =
    let p = err_from_is_err_and c.from_residual.result c.from_residual.ensures.1 in
    rw (p.1, p.2) (λ other. count_left _ _ c.in_err-write_report-in-All.field-0.0 c.in_err-write_report-in-All.ensures.cause.kept other)

pub returns-in_ok-write_report-in-All-clause-output_left : goal.returns-in_ok-write_report-in-All-clause-output_left
returns-in_ok-write_report-in-All-clause-output_left g c = λ other. c.in_ok-write_report-in-All.ensures.cause.kept (λ e. absurd (let never : ⊥ = cc in never))
