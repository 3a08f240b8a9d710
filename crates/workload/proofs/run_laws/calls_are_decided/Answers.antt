use Rattle.workload.proofs.Offices.{decides, replies}
use Rattle.workload.proofs.run_laws.calls_are_decided.Goals as goal

pub returns-clause-decided : goal.returns-clause-decided
returns-clause-decided c = λ office k x is low small. decides c.heads_are_read_back.ensures c.written_is_read.ensures office is k low x small

pub returns-clause-replied : goal.returns-clause-replied
returns-clause-replied c = λ office k x n is low small. replies c.heads_are_read_back.ensures c.written_is_read.ensures office is k low x small n
