use Rattle.std.proofs.Common.{[], ◌∷◌}
use Rattle.workload.specs.CallFrames.{number_field}
use Rattle.workload.proofs.FrameBytes.{four}
use Rattle.workload.proofs.frames.put_work.Goals as goal

pub returns : goal.returns
returns c =
    four c.args.into.now.items (number_field 1 c.args.a) (number_field 2 c.args.b) (number_field 3 2) (0 ∷ [])
    c.in_ok-put_number.ensures c.in_ok-put_number-2.ensures c.in_ok-put_number-3.ensures c.in_ok-push.ensures.items
