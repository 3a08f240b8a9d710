use Rattle.std.proofs.Common.{ap, ◌∙◌}
use Rattle.streams.specs.Cause.{next_if_faulty}
use Rattle.port_serving.proofs.Filing.{kept}
use Rattle.port_serving.proofs.file_journal.close_journal.Goals as goal

pub returns-clause-kept : goal.returns-clause-kept
returns-clause-kept g c before made =
    kept before (g.F.Files.files c.args.files.now) (g.F.Files.files c.take_back.new.self) c.args.name.now (g.F.Out.Sink.taken c.into_sink.result) c.args.journal.entries
    c.args.journal.unwritten c.args.journal.failed made c.take_back.ensures.files c.into_sink.ensures.lines

pub returns-clause-sinks : goal.returns-clause-sinks
returns-clause-sinks g c =
    c.take_back.ensures.sinks ∙ ap (λ s. next_if_faulty (g.F.Out.Sink.faults s) (g.F.Files.sink_faults c.args.files.now)) c.into_sink.ensures.sink
