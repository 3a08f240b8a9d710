use Rattle.recorded_runs.proofs.OneReport.{one_report}
use Rattle.recorded_runs.proofs.laws.an_input_has_one_report.Goals as goal

pub returns : goal.returns
returns c = λ a input s t text other. one_report a input s t text other
