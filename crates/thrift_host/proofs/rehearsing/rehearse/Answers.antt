use Rattle.std.proofs.Common.{Err, map, refl}
use Rattle.processor.specs.Offices.{plain_office}
use Rattle.command_line.specs.Answering.{plain_served}
use Rattle.recorded_runs.specs.Recorded.{Streams}
use Rattle.recorded_runs.specs.declared.fault.ServingFault.TheVariants.{ReadFault, WriteFault}
use Rattle.thrift_host.specs.Runs.{AskedRun, rehearsing}
use Rattle.thrift_host.proofs.Ran.{untouched_fault, not_unanswered}
use Rattle.thrift_host.proofs.Told.{run_tells, run_reads, run_fault, run_isnt}
use Rattle.thrift_host.proofs.rehearsing.rehearse.Goals as goal

pub returns-in-Ok-clause-tells : goal.returns-in-Ok-clause-tells
returns-in-Ok-clause-tells g c =
    let r : AskedRun =
    (record { says = plain_served c.args.served.now; files = g.F.Files.files c.args.files.now; handlers = map g.H.Handler.service c.args.handlers.items })
    in
    let s : Streams =
    (record {
      left_before = g.S.Source.left c.args.input.now;
      left = g.S.Source.left c.run_rehearsal.new.input;
      taken_before = g.K.Sink.taken c.args.output.now;
      taken = g.K.Sink.taken c.run_rehearsal.new.output;
    })
    in
    run_tells c.run_rehearsal.result c.run_of.result c.run_of.ensures rehearsing r (plain_office c.in-Ok.office) (map g.H.Handler.service c.in-Ok.handlers.items) c.in-Ok.ensures.tells s
    c.run_rehearsal.ensures.means

pub returns-in-Ok-clause-file_fault : goal.returns-in-Ok-clause-file_fault
returns-in-Ok-clause-file_fault g c = λ unread. absurd (run_reads c.run_rehearsal.result c.run_of.result c.run_of.ensures unread)

pub returns-in-Ok-clause-read_fault : goal.returns-in-Ok-clause-read_fault
returns-in-Ok-clause-read_fault g c = λ is. c.run_rehearsal.ensures.read_fault (run_fault c.run_rehearsal.result c.run_of.result c.run_of.ensures ReadFault is)

pub returns-in-Ok-clause-write_fault : goal.returns-in-Ok-clause-write_fault
returns-in-Ok-clause-write_fault g c = λ is. c.run_rehearsal.ensures.write_fault (run_fault c.run_rehearsal.result c.run_of.result c.run_of.ensures WriteFault is)

pub returns-in-Ok-clause-files_kept : goal.returns-in-Ok-clause-files_kept
returns-in-Ok-clause-files_kept g c = λ _. c.in-Ok.ensures.files_kept refl

pub returns-in-Ok-clause-input_kept : goal.returns-in-Ok-clause-input_kept
returns-in-Ok-clause-input_kept g c = λ not_it. c.run_rehearsal.ensures.input_kept (run_isnt c.run_rehearsal.result c.run_of.result c.run_of.ensures ReadFault not_it)

pub returns-in-Ok-clause-output_kept : goal.returns-in-Ok-clause-output_kept
returns-in-Ok-clause-output_kept g c = λ not_it. c.run_rehearsal.ensures.output_kept (run_isnt c.run_rehearsal.result c.run_of.result c.run_of.ensures WriteFault not_it)

pub returns-in-Err-clause-tells : goal.returns-in-Err-clause-tells
returns-in-Err-clause-tells g c =
    untouched_fault rehearsing
    (record { says = plain_served c.args.served.now; files = g.F.Files.files c.args.files.now; handlers = map g.H.Handler.service c.args.handlers.items })
    c.in-Err.fault
    (record {
      left_before = g.S.Source.left c.args.input.now;
      left = g.S.Source.left c.args.input.now;
      taken_before = g.K.Sink.taken c.args.output.now;
      taken = g.K.Sink.taken c.args.output.now;
    }) c.in-Err.ensures.tells (refl, refl)

pub returns-in-Err-clause-read_fault : goal.returns-in-Err-clause-read_fault
returns-in-Err-clause-read_fault g c = λ is.
    absurd (not_unanswered
    (record { says = plain_served c.args.served.now; files = g.F.Files.files c.args.files.now; handlers = map g.H.Handler.service c.args.handlers.items })
    (Err c.in-Err.fault) ReadFault c.in-Err.ensures.tells is)

pub returns-in-Err-clause-write_fault : goal.returns-in-Err-clause-write_fault
returns-in-Err-clause-write_fault g c = λ is.
    absurd (not_unanswered
    (record { says = plain_served c.args.served.now; files = g.F.Files.files c.args.files.now; handlers = map g.H.Handler.service c.args.handlers.items })
    (Err c.in-Err.fault) WriteFault c.in-Err.ensures.tells is)
