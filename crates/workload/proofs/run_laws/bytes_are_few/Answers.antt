use Rattle.workload.proofs.Bounds.{read_few, written_few}
use Rattle.workload.proofs.run_laws.bytes_are_few.Goals as goal

pub returns-clause-read : goal.returns-clause-read
returns-clause-read c = λ seed size. read_few seed size

pub returns-clause-written : goal.returns-clause-written
returns-clause-written c = λ seed size. written_few seed size
