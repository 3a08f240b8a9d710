use Rattle.workload.specs.LoadPlan.{frames_on}
use Rattle.workload.proofs.Payloads.{framed, split_so}
use Rattle.workload.proofs.run_laws.bytes_are_the_frames.Goals as goal

pub returns-clause-frame : goal.returns-clause-frame
returns-clause-frame c = λ seed k. framed seed k

pub returns-clause-split : goal.returns-clause-split
returns-clause-split c = λ seed size n conn max most. split_so seed max most (frames_on n conn size)
