use Rattle.recorded_runs.proofs.Served.{runs_script}
use Rattle.recorded_runs.proofs.serving_laws.served_links_run_their_script.Goals as goal

pub returns : goal.returns
returns c = λ a script links run journal small served all is told own follows. runs_script a script links run journal small served all is told own follows
