use Rattle.script_model.proofs.OneText.{one_text}
use Rattle.script_model.proofs.report_laws.a_script_has_one_report.Goals as goal

pub returns : goal.returns
returns g c = λ d r memories line arrival text other. one_text d r memories line arrival text other
