use Rattle.workload.specs.LoadPlan.{workload_plan}
use Rattle.workload.proofs.FrameBytes.{workload_is_kept}
use Rattle.workload.proofs.Unscheduled.{workload_unscheduled, workload_never_rests}
use Rattle.workload.proofs.laws.every_workload_is_read_back.Goals as goal

pub returns : goal.returns
returns c = λ seed size workers schedule rest short.
    c.a_script_is_read_back.ensures.unscheduled workers schedule rest (workload_plan seed size) (workload_is_kept seed size) (workload_unscheduled seed size)
    (λ off. workload_never_rests seed size) short
