use Rattle.std.proofs.Common.{◌≡◌}
use Rattle.workload.specs.Numbers.{number_at}
use Rattle.workload.specs.LoadPlan.{bytes_on}
use Rattle.workload.proofs.inputs.bytes_on.Given as goal

-- the number of the frame that was made last, and the bytes so far
abbrev pub invariant-loop-k : goal.invariant-loop-k
invariant-loop-k l = record {
  number : l.x ≡ number_at l.seed l.k;
  bytes : l.bytes.items ≡ bytes_on l.seed l.k l.n l.c;
}
