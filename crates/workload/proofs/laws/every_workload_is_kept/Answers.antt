use Rattle.workload.proofs.FrameBytes.{workload_is_kept}
use Rattle.workload.proofs.laws.every_workload_is_kept.Goals as goal

pub returns : goal.returns
returns c = workload_is_kept
