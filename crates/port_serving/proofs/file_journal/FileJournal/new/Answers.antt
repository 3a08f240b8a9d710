use Rattle.std.proofs.Common.{ap}
use Rattle.port_serving.proofs.Filing.{unused_still}
use Rattle.port_serving.proofs.file_journal.FileJournal.new.Goals as goal

pub invariant_of-result : goal.invariant_of-result
invariant_of-result g c =
    unused_still (g.K.Sink.taken c.in-Ok.journal.opening) (g.K.Sink.taken c.args.sink) (ap (λ j. g.K.Sink.taken j.opening) c.in-Ok.ensures.ok) c.requires.unused
