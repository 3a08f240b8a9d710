use Rattle.script_model.proofs.OneFed.{fed_by_one, run_on_one}
use Rattle.script_model.proofs.laws.one_connection_is_fed.Goals as goal

pub returns-clause-fed : goal.returns-clause-fed
returns-clause-fed g c d r memories budget pieces tape journal cause run = fed_by_one d r memories budget pieces tape journal cause run

pub returns-clause-run : goal.returns-clause-run
returns-clause-run g c d r memories budget pieces tape journal cause headline scripted fed = run_on_one d r memories budget pieces tape journal cause headline scripted fed
