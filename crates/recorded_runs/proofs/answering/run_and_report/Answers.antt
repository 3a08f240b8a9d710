use Rattle.std.proofs.Common.{◌<◌, ◌^◌, map, arith}
use Rattle.recorded_runs.specs.Answered.{Answering}
use Rattle.recorded_runs.proofs.Scripted.{ran_script, tells_run}
use Rattle.recorded_runs.proofs.answering.run_and_report.Goals as goal

pub returns-clause-reported : goal.returns-clause-reported
returns-clause-reported g c =
    let a : Answering =
    (record {
      desk = g.D.Desk.meaning c.args.desk.now;
      services = map g.H.Handler.service c.args.handlers.items;
      workers = c.args.workers;
      budget = c.args.limits.read_budget;
      line = g.L.EntryLine.line;
    })
    in
    let small : a.desk.max_frame < 2 ^ 31 = omega (arith, c.requires.can.longest, c.requires.can.within, c.requires.can.budget) in
    c.report_run-result.ensures.reported a c.args.script.now
    (λ all entries told. ran_script a c.args.script.now _ entries small told c.rehearse-run.ensures.run (c.rehearse-run.ensures.all all))

pub returns-clause-entries : goal.returns-clause-entries
returns-clause-entries g c =
    let a : Answering =
    (record {
      desk = g.D.Desk.meaning c.args.desk.now;
      services = map g.H.Handler.service c.args.handlers.items;
      workers = c.args.workers;
      budget = c.args.limits.read_budget;
      line = g.L.EntryLine.line;
    })
    in
    let small : a.desk.max_frame < 2 ^ 31 = omega (arith, c.requires.can.longest, c.requires.can.within, c.requires.can.budget) in
    tells_run a _ (g.J.ReportedJournal.listed c.rehearse-run.result.journal) small (g.met.J.ReportedJournal.tells c.rehearse-run.result.journal) c.rehearse-run.ensures.run

pub returns-clause-journal_left : goal.returns-clause-journal_left
returns-clause-journal_left g c = λ other. c.rehearse-run.ensures.kept (λ is. other (c.report_run-result.ensures.journal_broken is))
