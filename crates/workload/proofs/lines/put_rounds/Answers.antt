use Rattle.std.proofs.Common.{map}
use Rattle.script_text.specs.Plans.{plain_line}
use Rattle.workload.specs.LoadPlan.{round}
use Rattle.workload.proofs.Counting.{flat_more}
use Rattle.workload.proofs.lines.put_rounds.Goals as goal

pub loop-i-preserved : goal.loop-i-preserved
loop-i-preserved c =
    flat_more (round c.args.streams.now) c.loop-i.i (map plain_line c.args.into.now.items) c.loop-i.invariant c.in_ok-put_round.ensures
