use Rattle.recorded_runs.proofs.PlainRuns.{one_run_told}
use Rattle.recorded_runs.proofs.laws.a_report_tells_its_run.Goals as goal

pub returns : goal.returns
returns c = λ a arrival text. one_run_told a arrival text
