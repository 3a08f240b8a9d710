use Rattle.host_model.proofs.Runs.{stands}
use Rattle.host_model.proofs.laws.every_moment_stands.Goals as goal

pub returns : goal.returns
returns g c = λ d r. stands d r
