use Rattle.std.proofs.Common.{length, ap, ◌∙◌, arith}
use Rattle.workload.proofs.FrameBytes.{streams_are_few}
use Rattle.workload.proofs.making.generate.Goals as goal

pub lines_of-requires : goal.lines_of-requires
lines_of-requires c =
    let few = streams_are_few c.args.seed c.args.size in
    let same = ap length (c.as_slice.ensures.value ∙ c.in_ok-streams.ensures) in
    omega (arith, few, same)
