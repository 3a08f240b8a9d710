use Rattle.workload.proofs.Counting.{number_next, bytes_after}
use Rattle.workload.proofs.inputs.bytes_on.Goals as goal

pub loop-k-preserved : goal.loop-k-preserved
loop-k-preserved c =
    let next = number_next c.args.seed c.loop-k.k c.loop-k.invariant.number c.number_after-x.ensures in
    record { number = next; bytes = bytes_after c.args.seed c.loop-k.k c.args.n c.args.c next c.loop-k.invariant.bytes c.in_ok-put_if_on.ensures }
