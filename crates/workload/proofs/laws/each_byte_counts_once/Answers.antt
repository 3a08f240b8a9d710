use Rattle.host_model.specs.Marks.{connection_of, read_by, written_by}
use Rattle.workload.proofs.Carried.{carried_whole}
use Rattle.workload.proofs.laws.each_byte_counts_once.Goals as goal

pub returns-clause-read : goal.returns-clause-read
returns-clause-read c = λ tape n all. carried_whole connection_of read_by n tape all

pub returns-clause-written : goal.returns-clause-written
returns-clause-written c = λ tape n all. carried_whole connection_of written_by n tape all
