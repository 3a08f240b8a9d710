use Rattle.std.proofs.Common.{refl, ap, ◌∙◌}
use Rattle.streams.specs.Making.{told_with_file}
use Rattle.port_serving.proofs.PlaceServed.{same_count}
use Rattle.port_serving.proofs.file_journal.begin_journal.Goals as goal

pub returns-in-Ok-clause-begun : goal.returns-in-Ok-clause-begun
returns-in-Ok-clause-begun g c =
    record {
      files = refl;
      none = ap (λ j. j.entries) c.in-Ok.ensures.ok;
      empty = ap (λ j. j.held) c.in-Ok.ensures.ok;
      whole = ap (λ j. j.failed) c.in-Ok.ensures.ok;
      faultless = ap (λ j. g.F.Out.Sink.faults j.sink) c.in-Ok.ensures.ok ∙ c.requires.faultless;
    }

pub returns-in-Err-clause-begun : goal.returns-in-Err-clause-begun
returns-in-Err-clause-begun g c =
    c.take_back.ensures.files
    ∙ ap (λ s. told_with_file (g.F.Files.files c.args.files.now) c.args.name.now (g.F.Out.Sink.taken s)) c.in-Err.ensures.err

pub returns-in-Err-clause-sinks : goal.returns-in-Err-clause-sinks
returns-in-Err-clause-sinks g c =
    same_count (g.F.Out.Sink.faults c.in-Err.no.0) _ _ (ap g.F.Out.Sink.faults c.in-Err.ensures.err ∙ c.requires.faultless) c.take_back.ensures.sinks
