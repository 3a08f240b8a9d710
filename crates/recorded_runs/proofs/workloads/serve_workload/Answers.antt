use Rattle.std.proofs.Common.{◌≤◌, [], map, refl, arith}
use Rattle.call_rules.specs.Desks.{longest_payload}
use Rattle.recorded_runs.specs.Answered.{Answering}
use Rattle.recorded_runs.proofs.Scripted.{tells_none}
use Rattle.recorded_runs.proofs.workloads.serve_workload.Goals as goal

pub returns-in-Err-clause-ran : goal.returns-in-Err-clause-ran
returns-in-Err-clause-ran g c = λ no_fault no_want. absurd (no_want refl)

pub returns-in-Err-clause-entries : goal.returns-in-Err-clause-entries
returns-in-Err-clause-entries g c =
    let a : Answering =
    (record {
      desk = g.D.Desk.meaning c.args.desk.now;
      services = map g.H.Handler.service c.args.handlers.items;
      workers = c.args.workers;
      budget = c.args.limits.read_budget;
      line = λ e. [];
    })
    in
    let max : a.desk.max_frame ≤ longest_payload = omega (arith, c.requires.can.longest, c.requires.can.within, c.requires.can.budget) in
    tells_none a (g.J.Journal.told c.args.journal) max c.requires.empty
