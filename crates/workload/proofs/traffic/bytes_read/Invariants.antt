use Rattle.std.proofs.Common.{◌≡◌, ◌+◌, ◌-◌, ◌≤◌, ◌^◌, min, length}
use Rattle.host_model.specs.Marks.{input}
use Rattle.workload.proofs.traffic.bytes_read.Given as goal

-- what was counted and what is left are all
abbrev pub invariant-tape : goal.invariant-tape
invariant-tape l = record {
  counted : min (l.count + length (input l.marks)) (2 ^ 64 - 1) ≡ min (length (input l.fn.tape)) (2 ^ 64 - 1);
  within : l.count ≤ 2 ^ 64 - 1;
}

abbrev pub decreases-tape : goal.decreases-tape
decreases-tape l = length l.marks
