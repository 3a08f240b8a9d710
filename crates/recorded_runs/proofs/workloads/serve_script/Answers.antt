use Rattle.std.proofs.Common.{◌<◌, ◌≤◌, ◌^◌, List, [], map, refl, sym, subst, arith}
use Rattle.script_model.specs.ScriptLines.{ScriptPlan}
use Rattle.call_rules.specs.Desks.{longest_payload}
use Rattle.call_rules.specs.Entries.{CallEntry}
use Rattle.script_links.specs.Shown.{links_told}
use Rattle.host_loop.specs.Served.{ServedRun}
use Rattle.recorded_runs.specs.Answered.{Answering}
use Rattle.recorded_runs.specs.ServedScripts.{IsServedScript}
use Rattle.recorded_runs.proofs.Served.{ran, journal_rose, journal_stays, tells_served}
use Rattle.recorded_runs.proofs.Scripted.{tells_none}
use Rattle.workload.specs.LoadPlan.{workload_plan}
use Rattle.recorded_runs.proofs.workloads.serve_script.Goals as goal

pub sum_up-result-requires-clause-comes : goal.sum_up-result-requires-clause-comes
sum_up-result-requires-clause-comes g c lives within all entries told none =
    let a : Answering =
    (record {
      desk = g.D.Desk.meaning c.args.desk.now;
      services = map g.H.Handler.service c.args.handlers.items;
      workers = c.args.workers;
      budget = c.args.limits.read_budget;
      line = λ e. [];
    })
    in
    let run : ServedRun =
    (record {
      first = links_told c.in-Ok.links;
      links = links_told c.serve-run.new.links;
      causes = c.serve-run.result.ends;
      outcome = c.serve-run.result.outcome;
      services = map g.H.Handler.service c.serve-run.result.handlers.items;
      told = g.J.Journal.told c.serve-run.result.journal;
      torn = g.J.Journal.torn c.serve-run.result.journal;
      faults_before = g.J.Journal.faults c.args.journal;
      faults = g.J.Journal.faults c.serve-run.result.journal;
    })
    in
    let script : ScriptPlan = workload_plan c.args.work.seed c.args.work.size in
    let small : a.desk.max_frame < 2 ^ 31 = omega (arith, c.requires.can.longest, c.requires.can.within, c.requires.can.budget) in
    let served : IsServedScript a c.args.script c.serve-run.new.links.tape entries c.serve-run.result.ends =
    ran a c.args.script c.in-Ok.links c.serve-run.new.links run entries small c.serve-run.ensures.served all refl told c.in-Ok.ensures.own c.serve-run.ensures.plan
    c.follow_their_script.ensures in
    let planned : IsServedScript a script c.serve-run.new.links.tape entries c.serve-run.result.ends =
    subst (λ (s : ScriptPlan). IsServedScript a s c.serve-run.new.links.tape entries c.serve-run.result.ends) c.requires.script served in
    c.a_served_workload_comes_to_its_sum.ensures a c.args.work.seed c.args.work.size c.into_tape-tape.result entries c.serve-run.result.ends c.requires.frames
    (omega (arith, c.requires.most)) small c.requires.calculators c.requires.service
    (subst (λ tape. IsServedScript a script tape entries c.serve-run.result.ends) (sym c.into_tape-tape.ensures) planned) none

pub returns-clause-journal_fault : goal.returns-clause-journal_fault
returns-clause-journal_fault g c is = journal_rose _ _ c.serve-run.ensures.served (c.sum_up-result.ensures.journal_fault is)

pub returns-clause-later : goal.returns-clause-later
returns-clause-later g c = c.serve-run.ensures.served.faults

pub returns-in_default-clause-entries : goal.returns-in_default-clause-entries
returns-in_default-clause-entries g c =
    let a : Answering =
    (record {
      desk = g.D.Desk.meaning c.args.desk.now;
      services = map g.H.Handler.service c.args.handlers.items;
      workers = c.args.workers;
      budget = c.args.limits.read_budget;
      line = λ e. [];
    })
    in
    let max : a.desk.max_frame ≤ longest_payload = omega (arith, c.requires.can.longest, c.requires.can.within, c.requires.can.budget) in
    tells_none a (g.J.Journal.told c.args.journal) max c.requires.empty

pub returns-clause-ran : goal.returns-clause-ran
returns-clause-ran g c = λ no_fault no_want.
    let a : Answering =
    (record {
      desk = g.D.Desk.meaning c.args.desk.now;
      services = map g.H.Handler.service c.args.handlers.items;
      workers = c.args.workers;
      budget = c.args.limits.read_budget;
      line = λ e. [];
    })
    in
    let run : ServedRun =
    (record {
      first = links_told c.in-Ok.links;
      links = links_told c.serve-run.new.links;
      causes = c.serve-run.result.ends;
      outcome = c.serve-run.result.outcome;
      services = map g.H.Handler.service c.serve-run.result.handlers.items;
      told = g.J.Journal.told c.serve-run.result.journal;
      torn = g.J.Journal.torn c.serve-run.result.journal;
      faults_before = g.J.Journal.faults c.args.journal;
      faults = g.J.Journal.faults c.serve-run.result.journal;
    })
    in
    let entries : List CallEntry = g.J.ReportedJournal.listed c.serve-run.result.journal in
    let small : a.desk.max_frame < 2 ^ 31 = omega (arith, c.requires.can.longest, c.requires.can.within, c.requires.can.budget) in
    let served : IsServedScript a c.args.script c.serve-run.new.links.tape entries c.serve-run.result.ends =
    ran a c.args.script c.in-Ok.links c.serve-run.new.links run entries small c.serve-run.ensures.served (c.sum_up-result.ensures.all no_fault no_want) refl
    c.journal_tells.ensures c.in-Ok.ensures.own c.serve-run.ensures.plan c.follow_their_script.ensures in
    record {
      tape = c.serve-run.new.links.tape;
      journal = entries;
      causes = c.serve-run.result.ends;
      run = record {
        run = subst (λ (s : ScriptPlan). IsServedScript a s c.serve-run.new.links.tape entries c.serve-run.result.ends) c.requires.script served;
        told_so = c.journal_tells.ensures;
      };
    }

pub returns-clause-entries : goal.returns-clause-entries
returns-clause-entries g c =
    let a : Answering =
    (record {
      desk = g.D.Desk.meaning c.args.desk.now;
      services = map g.H.Handler.service c.args.handlers.items;
      workers = c.args.workers;
      budget = c.args.limits.read_budget;
      line = λ e. [];
    })
    in
    let run : ServedRun =
    (record {
      first = links_told c.in-Ok.links;
      links = links_told c.serve-run.new.links;
      causes = c.serve-run.result.ends;
      outcome = c.serve-run.result.outcome;
      services = map g.H.Handler.service c.serve-run.result.handlers.items;
      told = g.J.Journal.told c.serve-run.result.journal;
      torn = g.J.Journal.torn c.serve-run.result.journal;
      faults_before = g.J.Journal.faults c.args.journal;
      faults = g.J.Journal.faults c.serve-run.result.journal;
    })
    in
    tells_served a run (g.J.ReportedJournal.listed c.serve-run.result.journal) c.serve-run.ensures.served c.journal_tells.ensures

pub returns-clause-journal_left : goal.returns-clause-journal_left
returns-clause-journal_left g c = λ no_fault no_want. journal_stays _ _ c.serve-run.ensures.served (c.sum_up-result.ensures.all no_fault no_want)
