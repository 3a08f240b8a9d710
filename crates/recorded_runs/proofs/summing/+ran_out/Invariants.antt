use Rattle.std.proofs.Common.{length}
use Rattle.recorded_runs.proofs.summing.+ran_out.Given as goal

abbrev pub decreases-ran_out : goal.decreases-ran_out
decreases-ran_out l = length l.ends.now
