use Rattle.std.proofs.Common.{◌<◌, arith}
use Rattle.check_passes.proofs.OnCycles.{none_lies, below_lies}
use Rattle.check_passes.proofs.cycle_tests.lies_on_cycle.Goals as goal

pub returns-in-None : goal.returns-in-None
returns-in-None c graph lowest = none_lies graph c.args.first c.args.number c.in-None.is lowest

pub returns-else-number-lowest-2 : goal.returns-else-number-lowest-2
returns-else-number-lowest-2 c graph lowest =
    let below : c.args.number < c.in-Some.lowest = omega arith in
    below_lies graph c.args.first c.in-Some.lowest c.args.number c.in-Some.is below lowest
