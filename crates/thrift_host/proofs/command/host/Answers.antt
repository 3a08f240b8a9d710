use Rattle.std.proofs.Common.{map}
use Rattle.command_line.specs.Words.{words_of}
use Rattle.std.specs.Prelude.{string_bytes}
use Rattle.thrift_host.specs.Surroundings.{Surroundings}
use Rattle.thrift_host.proofs.Completed.{ends_well}
use Rattle.thrift_host.proofs.command.host.Goals as goal

pub returns : goal.returns
returns g c =
    let before : Surroundings =
    (record {
      files = record { held = g.F.Files.files c.args.files.now; faults = g.F.Files.faults c.args.files.now; sink_faults = g.F.Files.sink_faults c.args.files.now };
      input = record { left = g.S.Source.left c.args.input.now; faults = g.S.Source.faults c.args.input.now };
      output = record { taken = g.K.Sink.taken c.args.output.now; faults = g.K.Sink.faults c.args.output.now };
      errors = record { taken = g.E.Sink.taken c.args.errors.now; faults = g.E.Sink.faults c.args.errors.now };
      binder = record { past = g.B.Binder.past c.args.binder.now; called = g.B.Binder.called c.args.binder.now; handed = g.B.Binder.handed c.args.binder.now; faults = g.B.Binder.faults c.args.binder.now };
    }) in
    let after : Surroundings =
    (record {
      files = record { held = g.F.Files.files c.command_of.new.files; faults = g.F.Files.faults c.command_of.new.files; sink_faults = g.F.Files.sink_faults c.command_of.new.files };
      input = record { left = g.S.Source.left c.command_of.new.input; faults = g.S.Source.faults c.command_of.new.input };
      output = record { taken = g.K.Sink.taken c.command_of.new.output; faults = g.K.Sink.faults c.command_of.new.output };
      errors = record { taken = g.E.Sink.taken c.command_of.new.errors; faults = g.E.Sink.faults c.command_of.new.errors };
      binder = record { past = g.B.Binder.past c.command_of.new.binder; called = g.B.Binder.called c.command_of.new.binder; handed = g.B.Binder.handed c.command_of.new.binder; faults = g.B.Binder.faults c.command_of.new.binder };
    }) in
    record {
      means = c.command_of.ensures.means;
      said = c.command_of.ensures.said;
      called = c.command_of.ensures.called;
      kept = c.command_of.ensures.kept;
      counts = c.command_of.ensures.counts;
      complete = λ asked none.
          ends_well c.an_idl_has_one_verdict.ensures c.what_is_bound_is_not_refused.ensures c.a_break_is_no_compatibility.ensures (words_of (map string_bytes c.args.words.now))
          (map g.H.Handler.service c.args.handlers.items) c.command_of.result before after c.command_of.ensures.means c.command_of.ensures.called c.command_of.ensures.counts asked none;
    }
