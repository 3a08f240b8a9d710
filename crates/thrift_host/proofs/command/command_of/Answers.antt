use Rattle.std.proofs.Common.{◌∙◌, None, Some, ap, map, refl}
use Rattle.command_line.specs.Answering.{plain_command}
use Rattle.recorded_runs.specs.Recorded.{Streams}
use Rattle.thrift_host.specs.Runs.{rehearsing, recording}
use Rattle.thrift_host.specs.Serving.{host_change, place_change}
use Rattle.thrift_host.proofs.Asked.{ends_asked, ends_check}
use Rattle.thrift_host.proofs.Called.{no_read as call_reads_nothing, no_journal as call_has_no_journal, unread_called}
use Rattle.thrift_host.proofs.Checked.{never_net, never_journal}
use Rattle.thrift_host.proofs.Compared.{no_net, no_journal, no_read}
use Rattle.thrift_host.proofs.Ran.{run_no_net, run_no_journal}
use Rattle.thrift_host.proofs.Served.{serves_asked}
use Rattle.thrift_host.proofs.Unread.{unread_means, unread_says, unread_place, of_words, not_of_words}
use Rattle.thrift_host.proofs.command.command_of.Goals as goal

pub returns-in-Ok-Check : goal.returns-in-Ok-Check
returns-in-Ok-Check g c =
    ends_asked _ _ _ _ _ c.check.result (c.in-Ok-Check.ensures.answers ∙ ap (λ command. Some (plain_command command)) c.in-Ok-Check.field-0-is)
    (ends_check c.in-Ok-Check.idl _ _ _ _ c.check.result c.as_str.ensures (c.check.ensures.means (g.S.Source.left c.args.input.now)) c.check.ensures.said
    (c.check.ensures.files, refl) refl
    (record {
      files = record { rose = c.check.ensures.file_fault; kept = c.check.ensures.files_kept };
      input = record { rose = λ is. absurd (c.check.ensures.read_fault is); kept = λ _. refl };
      output = record { rose = c.check.ensures.write_fault; kept = c.check.ensures.output_kept };
      binder = record { rose = λ is. absurd (never_net _ _ _ c.check.result (c.check.ensures.means None) is); kept = λ _. refl };
      sinks = record { rose = λ is. absurd (never_journal _ _ _ c.check.result (c.check.ensures.means None) is); kept = λ _. c.check.ensures.sinks };
    }))

pub returns-in-Ok-Compat : goal.returns-in-Ok-Compat
returns-in-Ok-Compat g c =
    let there = g.F.Files.files c.args.files.now in
    let s : Streams =
    (record { left_before = None; left = None; taken_before = g.K.Sink.taken c.args.output.now; taken = g.K.Sink.taken c.compare.new.output }) in
    let means = c.compare.ensures.means None in
    ends_asked _ _ _ _ _ c.compare.result (c.in-Ok-Compat.ensures.answers ∙ ap (λ command. Some (plain_command command)) c.in-Ok-Compat.field-0-is)
    (record {
      means = c.compare.ensures.means (g.S.Source.left c.args.input.now);
      said = c.compare.ensures.said;
      kept = (c.compare.ensures.files, refl);
      called = refl;
      counts = record {
        files = record { rose = c.compare.ensures.file_fault; kept = c.compare.ensures.files_kept };
        input = record { rose = λ is. absurd (no_read there c.in-Ok-Compat.idls.old c.in-Ok-Compat.idls.new c.compare.result s means is); kept = λ _. refl };
        output = record { rose = c.compare.ensures.write_fault; kept = c.compare.ensures.output_kept };
        binder = record { rose = λ is. absurd (no_net there c.in-Ok-Compat.idls.old c.in-Ok-Compat.idls.new c.compare.result s means is); kept = λ _. refl };
        sinks = record { rose = λ is. absurd (no_journal there c.in-Ok-Compat.idls.old c.in-Ok-Compat.idls.new c.compare.result s means is); kept = λ _. c.compare.ensures.sinks };
      };
    })

pub returns-in-Ok-Call : goal.returns-in-Ok-Call
returns-in-Ok-Call g c =
    ends_asked _ _ _ _ _ c.call.result (c.in-Ok-Call.ensures.answers ∙ ap (λ command. Some (plain_command command)) c.in-Ok-Call.field-0-is)
    (record {
      means = refl;
      said = tt;
      kept = (c.call.ensures.files, c.call.ensures.past);
      called = c.call.ensures.means;
      counts = record {
        files = record { rose = c.call.ensures.file_fault; kept = c.call.ensures.files_kept };
        input = record { rose = λ is. absurd (call_reads_nothing _ _ _ _ c.call.result c.call.ensures.means is); kept = λ _. refl };
        output = record { rose = c.call.ensures.write_fault; kept = c.call.ensures.output_kept };
        binder = record { rose = c.call.ensures.net_fault; kept = c.call.ensures.binder_kept };
        sinks = record { rose = λ is. absurd (call_has_no_journal _ _ _ _ c.call.result c.call.ensures.means is); kept = λ _. c.call.ensures.sinks };
      };
    })

pub returns-in-Ok-Rehearse : goal.returns-in-Ok-Rehearse
returns-in-Ok-Rehearse g c =
    ends_asked _ _ _ _ _ c.rehearse_and_say.result (c.in-Ok-Rehearse.ensures.answers ∙ ap (λ command. Some (plain_command command)) c.in-Ok-Rehearse.field-0-is)
    (record {
      means = c.rehearse_and_say.ensures.means;
      said = c.rehearse_and_say.ensures.errors;
      kept = (c.rehearse_and_say.ensures.files, refl);
      called = refl;
      counts = record {
        files = record { rose = c.rehearse_and_say.ensures.file_fault; kept = c.rehearse_and_say.ensures.files_kept };
        input = record { rose = c.rehearse_and_say.ensures.read_fault; kept = c.rehearse_and_say.ensures.input_kept };
        output = record { rose = c.rehearse_and_say.ensures.write_fault; kept = c.rehearse_and_say.ensures.output_kept };
        binder = record { rose = λ is. absurd (run_no_net rehearsing _ _ c.rehearse_and_say.result c.rehearse_and_say.ensures.means is); kept = λ _. refl };
        sinks = record { rose = λ is. absurd (run_no_journal rehearsing _ _ c.rehearse_and_say.result c.rehearse_and_say.ensures.means is); kept = λ _. c.rehearse_and_say.ensures.sinks };
      };
    })

pub returns-in-Ok-Record : goal.returns-in-Ok-Record
returns-in-Ok-Record g c =
    ends_asked _ _ _ _ _ c.record_and_say.result (c.in-Ok-Record.ensures.answers ∙ ap (λ command. Some (plain_command command)) c.in-Ok-Record.field-0-is)
    (record {
      means = c.record_and_say.ensures.means;
      said = c.record_and_say.ensures.errors;
      kept = (c.record_and_say.ensures.files, refl);
      called = refl;
      counts = record {
        files = record { rose = c.record_and_say.ensures.file_fault; kept = c.record_and_say.ensures.files_kept };
        input = record { rose = c.record_and_say.ensures.read_fault; kept = c.record_and_say.ensures.input_kept };
        output = record { rose = c.record_and_say.ensures.write_fault; kept = c.record_and_say.ensures.output_kept };
        binder = record { rose = λ is. absurd (run_no_net recording _ _ c.record_and_say.result c.record_and_say.ensures.means is); kept = λ _. refl };
        sinks = record { rose = λ is. absurd (run_no_journal recording _ _ c.record_and_say.result c.record_and_say.ensures.means is); kept = λ _. c.record_and_say.ensures.sinks };
      };
    })

pub returns-in-Ok-Serve : goal.returns-in-Ok-Serve
returns-in-Ok-Serve g c =
    ends_asked _ _ _ _ _ c.serve_and_say.result (c.in-Ok-Serve.ensures.answers ∙ ap (λ command. Some (plain_command command)) c.in-Ok-Serve.field-0-is)
    (record {
      means =
          serves_asked _ _ _ _ _ (map g.H.Handler.service c.args.handlers.items) c.serve_and_say.result
          (host_change (g.S.Source.left c.args.input.now) (g.S.Source.left c.args.input.now) (g.K.Sink.taken c.args.output.now) (g.K.Sink.taken c.serve_and_say.new.output)
          (place_change (g.F.Files.files c.args.files.now) (g.F.Files.files c.serve_and_say.new.files) (g.F.Files.sink_faults c.args.files.now)
          (g.F.Files.sink_faults c.serve_and_say.new.files) (g.B.Binder.past c.args.binder.now) (g.B.Binder.past c.serve_and_say.new.binder)
          (g.B.Binder.handed c.args.binder.now) (g.B.Binder.handed c.serve_and_say.new.binder)))
          refl c.as_str-in-Ok-Serve.ensures (c.serve_and_say.ensures.means (g.S.Source.left c.args.input.now));
      said = c.serve_and_say.ensures.errors;
      kept = tt;
      called = c.serve_and_say.ensures.called;
      counts = record {
        files = record { rose = c.serve_and_say.ensures.file_fault; kept = λ out. c.serve_and_say.ensures.files_kept out.0 };
        input = record { rose = λ is. absurd (c.serve_and_say.ensures.read_fault is); kept = λ _. refl };
        output = record { rose = c.serve_and_say.ensures.write_fault; kept = λ out. c.serve_and_say.ensures.output_kept (λ on. out.1 on tt) out.0 };
        binder = record { rose = c.serve_and_say.ensures.net_fault; kept = λ out. c.serve_and_say.ensures.binder_kept (λ on. out.1 on tt) };
        sinks = record { rose = c.serve_and_say.ensures.journal_fault; kept = λ out. c.serve_and_say.ensures.sinks_kept (λ on. out.1 on tt) };
      };
    })

pub returns-in-Ok-Workload : goal.returns-in-Ok-Workload
returns-in-Ok-Workload g c =
    ends_asked _ _ _ _ _ c.work_and_say.result (c.in-Ok-Workload.ensures.answers ∙ ap (λ command. Some (plain_command command)) c.in-Ok-Workload.field-0-is)
    (record {
      means = c.work_and_say.ensures.means (g.S.Source.left c.args.input.now);
      said = c.work_and_say.ensures.errors;
      kept = (c.work_and_say.ensures.files, refl);
      called = refl;
      counts = record {
        files = record { rose = c.work_and_say.ensures.file_fault; kept = c.work_and_say.ensures.files_kept };
        input = record { rose = λ is. absurd (c.work_and_say.ensures.no_read_fault is); kept = λ _. refl };
        output = record { rose = c.work_and_say.ensures.write_fault; kept = c.work_and_say.ensures.output_kept };
        binder = record { rose = λ is. absurd (c.work_and_say.ensures.no_net_fault is); kept = λ _. refl };
        sinks = record { rose = λ is. absurd (c.work_and_say.ensures.no_journal_fault is); kept = λ _. c.work_and_say.ensures.sinks };
      };
    })

pub returns-in-Err : goal.returns-in-Err
returns-in-Err g c =
    let ended = of_words c.in-Err.fault c.end_without_command.result _ c.end_without_command.ensures in
    record {
      means = unread_means c.in-Err.fault c.end_without_command.result _ c.end_without_command.ensures _ _ _ c.in-Err.ensures.answers ((refl, refl), ((refl, refl), refl));
      said = unread_says c.in-Err.fault c.end_without_command.result _ c.end_without_command.ensures _ _ _ c.in-Err.ensures.answers;
      kept = unread_place _ _ (refl, refl);
      called = unread_called c.in-Err.fault c.end_without_command.result _ _ _ c.end_without_command.ensures (refl, refl) _ c.in-Err.ensures.answers;
      counts = record {
        files = record { rose = λ is. absurd (not_of_words _ _ ended (λ h. h) is); kept = λ _. refl };
        input = record { rose = λ is. absurd (not_of_words _ _ ended (λ h. h) is); kept = λ _. refl };
        output = record { rose = λ is. absurd (not_of_words _ _ ended (λ h. h) is); kept = λ _. refl };
        binder = record { rose = λ is. absurd (not_of_words _ _ ended (λ h. h) is); kept = λ _. refl };
        sinks = record { rose = λ is. absurd (not_of_words _ _ ended (λ h. h) is); kept = λ _. refl };
      };
    }
