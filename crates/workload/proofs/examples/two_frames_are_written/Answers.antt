use Rattle.std.proofs.Common.{refl}
use Rattle.std.specs.Fmt.{digits}
use Rattle.workload.specs.CallFrames.{add_frame, subtract_frame}
use Rattle.workload.proofs.examples.two_frames_are_written.Goals as goal

pub returns : goal.returns
unfolding digits add_frame subtract_frame
returns c = refl
