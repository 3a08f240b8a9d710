use Rattle.std.proofs.Common.{◌%◌}
use Rattle.std.proofs.Math.Nat.{mod-lt}
use Rattle.script_model.specs.ScriptLines.{count_up}
use Rattle.workload.proofs.Grouped.{grouped, grouped_counts, always}
use Rattle.workload.proofs.Carried.{carried}
use Rattle.workload.proofs.laws.each_frame_counts_once.Goals as goal

pub returns-clause-counts : goal.returns-clause-counts
returns-clause-counts c = λ f n size some. grouped_counts (λ k. k % n) f n (count_up 0 size) (always _ (λ k. mod-lt k some) (count_up 0 size))

pub returns-clause-numbers : goal.returns-clause-numbers
returns-clause-numbers c = λ f n size some. grouped (λ k. k % n) f n (count_up 0 size) (always _ (λ k. mod-lt k some) (count_up 0 size))

pub returns-clause-bytes : goal.returns-clause-bytes
returns-clause-bytes c = λ f n size some. carried (λ k. k % n) f n (count_up 0 size) (always _ (λ k. mod-lt k some) (count_up 0 size))
