use Rattle.std.proofs.Common.{refl, ◌∙◌}
use Rattle.port_serving.proofs.Filing.{unused, opened_so, no_file_fault}
use Rattle.port_serving.proofs.file_journal.open_journal.Goals as goal

pub begin_journal-requires-clause-unused : goal.begin_journal-requires-clause-unused
begin_journal-requires-clause-unused g c κs within = unused (g.F.Files.files c.args.files.now) (g.F.Out.Sink.taken c.in-Ok.sink) c.in-Ok.ensures.made.empty

pub returns-in-Ok-clause-opened : goal.returns-in-Ok-clause-opened
returns-in-Ok-clause-opened g c =
    opened_so c.begin_journal.result (λ j. j.entries) (λ j. j.held) (λ j. j.failed) (λ j. g.F.Out.Sink.faults j.sink) (g.F.Files.files c.args.files.now)
    (g.F.Files.files c.create.new.self) (g.F.Files.files c.begin_journal.new.files) c.args.name.now (g.F.Out.Sink.taken c.in-Ok.sink) c.in-Ok.ensures.made.files
    c.in-Ok.ensures.made.there (unused (g.F.Files.files c.args.files.now) (g.F.Out.Sink.taken c.in-Ok.sink) c.in-Ok.ensures.made.empty) c.begin_journal.ensures.begun
    c.begin_journal.ensures.faults

pub returns-in-Ok-clause-file_fault : goal.returns-in-Ok-clause-file_fault
returns-in-Ok-clause-file_fault g c is = absurd (no_file_fault c.begin_journal.result c.begin_journal.ensures.faults is)

pub returns-in-Ok-clause-kept : goal.returns-in-Ok-clause-kept
returns-in-Ok-clause-kept g c = λ not_it. c.begin_journal.ensures.kept ∙ c.in-Ok.ensures.cause.kept

pub returns-in-Err-clause-kept : goal.returns-in-Err-clause-kept
returns-in-Err-clause-kept g c = λ not_it. absurd (not_it refl)
