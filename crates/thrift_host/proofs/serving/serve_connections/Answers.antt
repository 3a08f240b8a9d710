use Rattle.std.proofs.Common.{Err, map, refl, ◌∙◌}
use Rattle.processor.specs.Offices.{plain_office}
use Rattle.command_line.specs.Answering.{plain_served}
use Rattle.port_serving.specs.declared.fault.PortFault.TheVariants.{NetFault, WriteFault, JournalFault}
use Rattle.thrift_host.specs.Serving.{AskedServing, HostChange}
use Rattle.thrift_host.proofs.Ran.{not_unserved}
use Rattle.thrift_host.proofs.Served.{untouched_serving}
use Rattle.thrift_host.proofs.Told.{serving_tells, port_fault, port_isnt, port_read, port_over}
use Rattle.thrift_host.proofs.serving.serve_connections.Goals as goal

pub returns-in-Ok-clause-tells : goal.returns-in-Ok-clause-tells
returns-in-Ok-clause-tells g c = λ left.
    let a : AskedServing =
    (record {
      run = record { says = plain_served c.args.served.now; files = g.F.Files.files c.args.files.now; handlers = map g.H.Handler.service c.args.handlers.items };
      place = record { listening = record { port = c.args.place.now.port; accept = c.args.place.now.accept }; journal = c.args.place.now.journal.now };
    })
    in
    let change : HostChange =
    (record {
      streams = record { left_before = left; left = left; taken_before = g.K.Sink.taken c.args.output.now; taken = g.K.Sink.taken c.run_port.new.output };
      place = record {
        files_before = g.F.Files.files c.arrange.new.files;
        files = g.F.Files.files c.run_port.new.files;
        sink_faults_before = g.F.Files.sink_faults c.arrange.new.files;
        sink_faults = g.F.Files.sink_faults c.run_port.new.files;
        past_before = g.B.Binder.past c.args.binder.now;
        past = g.B.Binder.past c.run_port.new.binder;
        handed_before = g.B.Binder.handed c.args.binder.now;
        handed = g.B.Binder.handed c.run_port.new.binder;
      };
    })
    in
    serving_tells a (plain_office c.in-Ok.office) (map g.H.Handler.service c.in-Ok.handlers.items) c.in-Ok.ensures.tells change (g.F.Files.files c.args.files.now)
    (g.F.Files.sink_faults c.args.files.now) c.arrange.ensures.files c.arrange.ensures.sinks c.run_port.result c.serving_of.result c.serving_of.ensures c.run_port.ensures.means

pub returns-in-Ok-clause-net_fault : goal.returns-in-Ok-clause-net_fault
returns-in-Ok-clause-net_fault g c = λ is. c.run_port.ensures.net_fault (port_fault c.run_port.result c.serving_of.result c.serving_of.ensures NetFault is)

pub returns-in-Ok-clause-write_fault : goal.returns-in-Ok-clause-write_fault
returns-in-Ok-clause-write_fault g c = λ is. c.run_port.ensures.write_fault (port_fault c.run_port.result c.serving_of.result c.serving_of.ensures WriteFault is)

pub returns-in-Ok-clause-files_kept : goal.returns-in-Ok-clause-files_kept
returns-in-Ok-clause-files_kept g c = λ none. c.run_port.ensures.files_kept (port_read c.run_port.result c.serving_of.result c.serving_of.ensures none) ∙ c.in-Ok.ensures.files_kept refl

pub returns-in-Ok-clause-output_kept : goal.returns-in-Ok-clause-output_kept
returns-in-Ok-clause-output_kept g c = λ over not_it. c.run_port.ensures.output_kept (port_over c.run_port.result c.serving_of.result c.serving_of.ensures over) (port_isnt c.run_port.result c.serving_of.result c.serving_of.ensures WriteFault not_it)

pub returns-in-Ok-clause-binder_kept : goal.returns-in-Ok-clause-binder_kept
returns-in-Ok-clause-binder_kept g c = λ over. c.run_port.ensures.binder_kept (port_over c.run_port.result c.serving_of.result c.serving_of.ensures over)

pub returns-in-Ok-clause-sinks_kept : goal.returns-in-Ok-clause-sinks_kept
returns-in-Ok-clause-sinks_kept g c = λ over. c.run_port.ensures.sinks_kept (port_over c.run_port.result c.serving_of.result c.serving_of.ensures over) ∙ c.arrange.ensures.sinks

pub returns-in-Err-clause-tells : goal.returns-in-Err-clause-tells
returns-in-Err-clause-tells g c = λ left.
    let a : AskedServing =
    (record {
      run = record { says = plain_served c.args.served.now; files = g.F.Files.files c.args.files.now; handlers = map g.H.Handler.service c.args.handlers.items };
      place = record { listening = record { port = c.args.place.now.port; accept = c.args.place.now.accept }; journal = c.args.place.now.journal.now };
    })
    in
    let change : HostChange =
    (record {
      streams = record { left_before = left; left = left; taken_before = g.K.Sink.taken c.args.output.now; taken = g.K.Sink.taken c.args.output.now };
      place = record {
        files_before = g.F.Files.files c.args.files.now;
        files = g.F.Files.files c.arrange.new.files;
        sink_faults_before = g.F.Files.sink_faults c.args.files.now;
        sink_faults = g.F.Files.sink_faults c.arrange.new.files;
        past_before = g.B.Binder.past c.args.binder.now;
        past = g.B.Binder.past c.args.binder.now;
        handed_before = g.B.Binder.handed c.args.binder.now;
        handed = g.B.Binder.handed c.args.binder.now;
      };
    })
    in
    untouched_serving (Unit {0}) a c.in-Err.fault change c.in-Err.ensures.tells ((refl, refl), ((c.arrange.ensures.files, refl), refl))

pub returns-in-Err-clause-net_fault : goal.returns-in-Err-clause-net_fault
returns-in-Err-clause-net_fault g c = λ is.
    absurd (not_unserved
    (record { says = plain_served c.args.served.now; files = g.F.Files.files c.args.files.now; handlers = map g.H.Handler.service c.args.handlers.items })
    (Err c.in-Err.fault) NetFault c.in-Err.ensures.tells is)

pub returns-in-Err-clause-write_fault : goal.returns-in-Err-clause-write_fault
returns-in-Err-clause-write_fault g c = λ is.
    absurd (not_unserved
    (record { says = plain_served c.args.served.now; files = g.F.Files.files c.args.files.now; handlers = map g.H.Handler.service c.args.handlers.items })
    (Err c.in-Err.fault) WriteFault c.in-Err.ensures.tells is)

pub returns-in-Err-clause-journal_fault : goal.returns-in-Err-clause-journal_fault
returns-in-Err-clause-journal_fault g c = λ is.
    absurd (not_unserved
    (record { says = plain_served c.args.served.now; files = g.F.Files.files c.args.files.now; handlers = map g.H.Handler.service c.args.handlers.items })
    (Err c.in-Err.fault) JournalFault c.in-Err.ensures.tells is)
