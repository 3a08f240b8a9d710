use Rattle.workload.proofs.Answered.{frame_answered}
use Rattle.workload.proofs.laws.frames_are_answered.Goals as goal

pub returns : goal.returns
returns c = λ k x memory small. frame_answered memory k x small
