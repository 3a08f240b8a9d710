use Rattle.std.proofs.Common.{refl}
use Rattle.std.specs.Fmt.{digits}
use Rattle.workload.specs.CallFrames.{add_frame, subtract_frame}
use Rattle.workload.proofs.examples.runs_are_summed_up.Goals as goal

pub returns-clause-one : goal.returns-clause-one
unfolding digits add_frame subtract_frame
returns-clause-one c = refl

pub returns-clause-two : goal.returns-clause-two
unfolding digits add_frame subtract_frame
returns-clause-two c = refl
