use Rattle.std.proofs.Common.{None, map, sym, subst}
use Rattle.command_line.specs.Answering.{plain_served}
use Rattle.command_line.specs.Served.{PlainServed}
use Rattle.recorded_runs.specs.Recorded.{Streams}
use Rattle.thrift_host.specs.Errors.{Errors}
use Rattle.thrift_host.specs.Runs.{AskedRun, SaysUnarranged}
use Rattle.thrift_host.specs.Workloads.{MeansWorkload}
use Rattle.thrift_host.proofs.Served.{IsWriteFault}
use Rattle.thrift_host.proofs.Worked.{workload_means, workload_said, workload_unwritten}
use Rattle.thrift_host.proofs.Ended.{read_run, output_written}
use Rattle.thrift_host.proofs.command.work_and_say.Goals as goal

pub returns-clause-means : goal.returns-clause-means
returns-clause-means g c = λ left.
    let r : PlainServed → AskedRun = λ says. record { says = says; files = g.F.Files.files c.args.files.now; handlers = map g.H.Handler.service c.args.handlers.items } in
    let s : Streams =
    (record { left_before = left; left = left; taken_before = g.K.Sink.taken c.args.output.now; taken = g.K.Sink.taken c.work-came_to.new.output })
    in
    let e : Errors =
    (record {
      taken_before = g.E.Sink.taken c.args.errors.now;
      taken = g.E.Sink.taken c.end_run.new.errors;
      faults_before = g.E.Sink.faults c.args.errors.now;
      faults = g.E.Sink.faults c.end_run.new.errors;
    })
    in
    subst (λ says. MeansWorkload (r says) c.args.seed c.args.size c.end_run.result s) c.in-Ok.ensures
    (workload_means (r (plain_served c.in-Ok.served)) c.args.seed c.args.size c.end_run.result s e c.work-came_to.result
    (c.work-came_to.ensures.tells left) c.end_run.ensures)

pub returns-clause-errors : goal.returns-clause-errors
returns-clause-errors g c =
    let r : PlainServed → AskedRun = λ says. record { says = says; files = g.F.Files.files c.args.files.now; handlers = map g.H.Handler.service c.args.handlers.items } in
    let s : Streams =
    (record { left_before = None; left = None; taken_before = g.K.Sink.taken c.args.output.now; taken = g.K.Sink.taken c.work-came_to.new.output })
    in
    let e : Errors =
    (record {
      taken_before = g.E.Sink.taken c.args.errors.now;
      taken = g.E.Sink.taken c.end_run.new.errors;
      faults_before = g.E.Sink.faults c.args.errors.now;
      faults = g.E.Sink.faults c.end_run.new.errors;
    })
    in
    subst (λ says. SaysUnarranged (r says) c.end_run.result e) c.in-Ok.ensures
    (workload_said (r (plain_served c.in-Ok.served)) c.args.seed c.args.size c.end_run.result s e c.work-came_to.result
    (c.work-came_to.ensures.tells None) c.end_run.ensures)

pub returns-clause-no_read_fault : goal.returns-clause-no_read_fault
returns-clause-no_read_fault g c = λ is.
    let r : AskedRun =
    (record { says = plain_served c.in-Ok.served; files = g.F.Files.files c.args.files.now; handlers = map g.H.Handler.service c.args.handlers.items })
    in
    let s : Streams =
    (record { left_before = None; left = None; taken_before = g.K.Sink.taken c.args.output.now; taken = g.K.Sink.taken c.work-came_to.new.output })
    in
    let e : Errors =
    (record {
      taken_before = g.E.Sink.taken c.args.errors.now;
      taken = g.E.Sink.taken c.end_run.new.errors;
      faults_before = g.E.Sink.faults c.args.errors.now;
      faults = g.E.Sink.faults c.end_run.new.errors;
    })
    in
    subst (λ status. MeansWorkload r c.args.seed c.args.size status s) is
    (workload_means r c.args.seed c.args.size c.end_run.result s e c.work-came_to.result (c.work-came_to.ensures.tells None) c.end_run.ensures)

pub returns-clause-no_net_fault : goal.returns-clause-no_net_fault
returns-clause-no_net_fault g c = λ is.
    let r : AskedRun =
    (record { says = plain_served c.in-Ok.served; files = g.F.Files.files c.args.files.now; handlers = map g.H.Handler.service c.args.handlers.items })
    in
    let s : Streams =
    (record { left_before = None; left = None; taken_before = g.K.Sink.taken c.args.output.now; taken = g.K.Sink.taken c.work-came_to.new.output })
    in
    let e : Errors =
    (record {
      taken_before = g.E.Sink.taken c.args.errors.now;
      taken = g.E.Sink.taken c.end_run.new.errors;
      faults_before = g.E.Sink.faults c.args.errors.now;
      faults = g.E.Sink.faults c.end_run.new.errors;
    })
    in
    subst (λ status. MeansWorkload r c.args.seed c.args.size status s) is
    (workload_means r c.args.seed c.args.size c.end_run.result s e c.work-came_to.result (c.work-came_to.ensures.tells None) c.end_run.ensures)

pub returns-clause-no_journal_fault : goal.returns-clause-no_journal_fault
returns-clause-no_journal_fault g c = λ is.
    let r : AskedRun =
    (record { says = plain_served c.in-Ok.served; files = g.F.Files.files c.args.files.now; handlers = map g.H.Handler.service c.args.handlers.items })
    in
    let s : Streams =
    (record { left_before = None; left = None; taken_before = g.K.Sink.taken c.args.output.now; taken = g.K.Sink.taken c.work-came_to.new.output })
    in
    let e : Errors =
    (record {
      taken_before = g.E.Sink.taken c.args.errors.now;
      taken = g.E.Sink.taken c.end_run.new.errors;
      faults_before = g.E.Sink.faults c.args.errors.now;
      faults = g.E.Sink.faults c.end_run.new.errors;
    })
    in
    subst (λ status. MeansWorkload r c.args.seed c.args.size status s) is
    (workload_means r c.args.seed c.args.size c.end_run.result s e c.work-came_to.result (c.work-came_to.ensures.tells None) c.end_run.ensures)

pub returns-clause-write_fault : goal.returns-clause-write_fault
returns-clause-write_fault g c = λ is.
    let r : AskedRun =
    (record { says = plain_served c.in-Ok.served; files = g.F.Files.files c.args.files.now; handlers = map g.H.Handler.service c.args.handlers.items })
    in
    let s : Streams =
    (record { left_before = None; left = None; taken_before = g.K.Sink.taken c.args.output.now; taken = g.K.Sink.taken c.work-came_to.new.output })
    in
    let e : Errors =
    (record {
      taken_before = g.E.Sink.taken c.args.errors.now;
      taken = g.E.Sink.taken c.end_run.new.errors;
      faults_before = g.E.Sink.faults c.args.errors.now;
      faults = g.E.Sink.faults c.end_run.new.errors;
    })
    in
    c.work-came_to.ensures.write_fault
    (workload_unwritten r c.args.seed c.args.size c.end_run.result s e (subst IsWriteFault (sym is) tt) c.work-came_to.result (c.work-came_to.ensures.tells None) c.end_run.ensures)

pub returns-clause-files_kept : goal.returns-clause-files_kept
returns-clause-files_kept g c not_it = c.work-came_to.ensures.files_kept (read_run _ _ (plain_served c.in-Ok.served) c.work-came_to.result c.end_run.ensures not_it)

pub returns-clause-output_kept : goal.returns-clause-output_kept
returns-clause-output_kept g c not_it = c.work-came_to.ensures.output_kept (output_written _ _ (plain_served c.in-Ok.served) c.work-came_to.result c.end_run.ensures not_it)
