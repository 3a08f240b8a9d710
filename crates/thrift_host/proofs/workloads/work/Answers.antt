use Rattle.std.proofs.Common.{Err, map, refl}
use Rattle.command_line.specs.Answering.{plain_served}
use Rattle.recorded_runs.specs.declared.fault.ServingFault.TheVariants.{WriteFault}
use Rattle.thrift_host.proofs.Told.{workload_tells, run_reads, run_fault, run_isnt}
use Rattle.thrift_host.proofs.Worked.{untouched_workload, not_unworked}
use Rattle.thrift_host.proofs.workloads.work.Goals as goal

pub returns-in-Ok-clause-tells : goal.returns-in-Ok-clause-tells
returns-in-Ok-clause-tells g c = λ left.
    workload_tells c.run_workload.result c.run_of.result c.run_of.ensures
    (record { says = plain_served c.args.served.now; files = g.F.Files.files c.args.files.now; handlers = map g.H.Handler.service c.args.handlers.items })
    c.args.work.seed c.args.work.size left (g.K.Sink.taken c.args.output.now) (g.K.Sink.taken c.run_workload.new.output) c.run_workload.ensures.summed

pub returns-in-Ok-clause-file_fault : goal.returns-in-Ok-clause-file_fault
returns-in-Ok-clause-file_fault g c = λ unread. absurd (run_reads c.run_workload.result c.run_of.result c.run_of.ensures unread)

pub returns-in-Ok-clause-write_fault : goal.returns-in-Ok-clause-write_fault
returns-in-Ok-clause-write_fault g c = λ is. c.run_workload.ensures.write_fault (run_fault c.run_workload.result c.run_of.result c.run_of.ensures WriteFault is)

pub returns-in-Ok-clause-files_kept : goal.returns-in-Ok-clause-files_kept
returns-in-Ok-clause-files_kept g c = λ _. c.in-Ok.ensures.files_kept refl

pub returns-in-Ok-clause-output_kept : goal.returns-in-Ok-clause-output_kept
returns-in-Ok-clause-output_kept g c = λ not_it. c.run_workload.ensures.output_kept (run_isnt c.run_workload.result c.run_of.result c.run_of.ensures WriteFault not_it)

pub returns-in-Err-clause-tells : goal.returns-in-Err-clause-tells
returns-in-Err-clause-tells g c = λ left.
    untouched_workload
    (record { says = plain_served c.args.served.now; files = g.F.Files.files c.args.files.now; handlers = map g.H.Handler.service c.args.handlers.items })
    c.args.work.seed c.args.work.size c.in-Err.fault left (g.K.Sink.taken c.args.output.now) c.in-Err.ensures.tells

pub returns-in-Err-clause-write_fault : goal.returns-in-Err-clause-write_fault
returns-in-Err-clause-write_fault g c = λ is.
    absurd (not_unworked
    (record { says = plain_served c.args.served.now; files = g.F.Files.files c.args.files.now; handlers = map g.H.Handler.service c.args.handlers.items })
    (Err c.in-Err.fault) c.in-Err.ensures.tells is)
