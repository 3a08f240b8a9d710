use Rattle.std.proofs.Common.{ap, ◌∙◌}
use Rattle.workload.specs.LoadPlan.{connections_of, bytes_on}
use Rattle.workload.proofs.Counting.{map_pushed}
use Rattle.workload.proofs.inputs.all_bytes.Goals as goal

pub loop-c-preserved : goal.loop-c-preserved
loop-c-preserved c =
    map_pushed (bytes_on c.args.seed c.args.size (connections_of c.args.size)) c.loop-c.c c.new.result c.loop-c.invariant c.in_ok-push.ensures.items
    (c.new.ensures ∙ c.in_ok-bytes_on.ensures ∙ ap (λ n. bytes_on c.args.seed c.args.size n c.loop-c.c) c.connections_of-n.ensures)
