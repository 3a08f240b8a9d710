use Rattle.script_model.proofs.OneRun.{one_run}
use Rattle.script_model.proofs.report_laws.a_report_is_of_one_run.Goals as goal

pub returns : goal.returns
returns g c = λ d r memories line arrival text. one_run d r memories line arrival text
