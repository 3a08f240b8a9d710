use Rattle.std.proofs.Common.{ap}
use Rattle.port_serving.proofs.Filing.{unused_still}
use Rattle.port_serving.proofs.file_journal.FileJournalJournal.append.Goals as goal

pub invariant_of-self : goal.invariant_of-self
invariant_of-self g c =
    unused_still (g.K.Sink.taken c.append.new.self.opening) (g.K.Sink.taken c.self.inside.journal.opening) (ap g.K.Sink.taken c.append.ensures.opening) c.self.invariant
