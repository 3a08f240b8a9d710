use Rattle.std.proofs.Common.{◌≤◌, map, refl, arith}
use Rattle.call_rules.specs.Desks.{longest_payload}
use Rattle.recorded_runs.specs.declared.fault.ServingFault.TheVariants.{ReadFault}
use Rattle.recorded_runs.specs.Recorded.{IsToldRun}
use Rattle.recorded_runs.specs.Answered.{Answering}
use Rattle.recorded_runs.proofs.Coming.{answered, unread, no_write_fault, no_journal_fault, other_too, served_so}
use Rattle.recorded_runs.proofs.Scripted.{tells_none}
use Rattle.recorded_runs.specs.ServedScripts.{script_to_serve, IsServedScript}
use Rattle.recorded_runs.proofs.serving.serve_recorded.Goals as goal

pub returns-in-Ok-clause-means : goal.returns-in-Ok-clause-means
returns-in-Ok-clause-means g c =
    let a : Answering =
    (record {
      desk = g.D.Desk.meaning c.args.desk.now;
      services = map g.H.Handler.service c.args.handlers.items;
      workers = c.args.workers;
      budget = c.args.limits.read_budget;
      line = g.L.EntryLine.line;
    })
    in
    answered (script_to_serve a) (IsToldRun (g.J.Journal.told c.serve_and_report.result.journal) (IsServedScript a)) a.line c.in-Ok.script _ _ _ _ c.serve_and_report.result.result c.in-Ok.ensures.input
    c.serve_and_report.ensures.reported

pub returns-in-Err-clause-means : goal.returns-in-Err-clause-means
returns-in-Err-clause-means g c =
    let a : Answering =
    (record {
      desk = g.D.Desk.meaning c.args.desk.now;
      services = map g.H.Handler.service c.args.handlers.items;
      workers = c.args.workers;
      budget = c.args.limits.read_budget;
      line = g.L.EntryLine.line;
    })
    in
    unread (script_to_serve a) (IsToldRun (g.J.Journal.told c.args.journal) (IsServedScript a)) a.line c.in-Err.fault _ _ _ c.in-Err.ensures.input

pub returns-in-Err-clause-write_fault : goal.returns-in-Err-clause-write_fault
returns-in-Err-clause-write_fault g c is =
    let a : Answering =
    (record {
      desk = g.D.Desk.meaning c.args.desk.now;
      services = map g.H.Handler.service c.args.handlers.items;
      workers = c.args.workers;
      budget = c.args.limits.read_budget;
      line = g.L.EntryLine.line;
    })
    in
    no_write_fault (script_to_serve a) c.in-Err.fault _ c.in-Err.ensures.input is

pub returns-in-Err-clause-journal_fault : goal.returns-in-Err-clause-journal_fault
returns-in-Err-clause-journal_fault g c is =
    let a : Answering =
    (record {
      desk = g.D.Desk.meaning c.args.desk.now;
      services = map g.H.Handler.service c.args.handlers.items;
      workers = c.args.workers;
      budget = c.args.limits.read_budget;
      line = g.L.EntryLine.line;
    })
    in
    no_journal_fault (script_to_serve a) c.in-Err.fault _ c.in-Err.ensures.input is

pub returns-in-Ok-clause-unread : goal.returns-in-Ok-clause-unread
returns-in-Ok-clause-unread g c =
    let a : Answering =
    (record {
      desk = g.D.Desk.meaning c.args.desk.now;
      services = map g.H.Handler.service c.args.handlers.items;
      workers = c.args.workers;
      budget = c.args.limits.read_budget;
      line = g.L.EntryLine.line;
    })
    in
    served_so _ (IsToldRun (g.J.Journal.told c.serve_and_report.result.journal) (IsServedScript a)) a.line c.in-Ok.script _ _ c.serve_and_report.result.result c.serve_and_report.ensures.reported

pub returns-in-Err-clause-entries : goal.returns-in-Err-clause-entries
returns-in-Err-clause-entries g c =
    let a : Answering =
    (record {
      desk = g.D.Desk.meaning c.args.desk.now;
      services = map g.H.Handler.service c.args.handlers.items;
      workers = c.args.workers;
      budget = c.args.limits.read_budget;
      line = g.L.EntryLine.line;
    })
    in
    let max : a.desk.max_frame ≤ longest_payload = omega (arith, c.requires.can.longest, c.requires.can.within, c.requires.can.budget) in
    tells_none a (g.J.Journal.told c.args.journal) max c.requires.empty

pub returns-in-Err-clause-unread : goal.returns-in-Err-clause-unread
returns-in-Err-clause-unread g c = λ of. refl

pub returns-in-Ok-clause-input_left : goal.returns-in-Ok-clause-input_left
returns-in-Ok-clause-input_left g c = λ other. c.in-Ok.ensures.kept (λ e. absurd (let never : ⊥ = cc in never))

pub returns-in-Err-clause-input_left : goal.returns-in-Err-clause-input_left
returns-in-Err-clause-input_left g c = λ other. c.in-Err.ensures.kept (other_too c.in-Err.fault ReadFault other)
