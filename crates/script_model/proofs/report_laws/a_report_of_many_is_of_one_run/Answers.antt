use Rattle.script_model.proofs.ManyTold.{one_run_of_many}
use Rattle.script_model.proofs.report_laws.a_report_of_many_is_of_one_run.Goals as goal

pub returns : goal.returns
returns g c = λ d r memories budget script line tape marks journal entries causes ends. one_run_of_many d r memories budget script line tape marks journal entries causes ends
