use Rattle.std.proofs.Common.{◌≡◌, ◌*◌, ◌^◌, pos, neg_ℤ, ◌+ℤ◌, ◌≤ℤ◌, drop}
use Rattle.workload.specs.SummaryText.{sum_of_answers}
use Rattle.recorded_runs.proofs.summing.sum_of_answers.Given as goal

-- what was summed up and the sum of the rest are the sum of all, and it is small
abbrev pub invariant-loop-i : goal.invariant-loop-i
invariant-loop-i g l = record {
  sum : l.sum +ℤ sum_of_answers (drop l.i (g.J.ReportedJournal.listed l.journal)) ≡ sum_of_answers (g.J.ReportedJournal.listed l.journal);
  low : neg_ℤ (pos (l.i * 2 ^ 31)) ≤ℤ l.sum;
  high : l.sum ≤ℤ pos (l.i * 2 ^ 31);
}
