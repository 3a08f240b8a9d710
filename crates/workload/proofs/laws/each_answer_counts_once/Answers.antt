use Rattle.workload.specs.SummaryText.{answer_adds}
use Rattle.workload.proofs.Grouped.{grouped}
use Rattle.workload.proofs.laws.each_answer_counts_once.Goals as goal

pub returns : goal.returns
returns c = λ journal n all. grouped (λ e. e.key.c) (λ e. answer_adds e.answer) n journal all
