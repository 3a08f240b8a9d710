use Rattle.host_model.proofs.Runs.{meets}
use Rattle.host_model.proofs.laws.every_run_meets.Goals as goal

pub returns : goal.returns
returns g c = λ d r. meets d r
