use Rattle.machine_model.proofs.Running.{meets}
use Rattle.machine_model.proofs.laws.every_run_meets.Goals as goal

pub returns : goal.returns
returns g c d r memories first cell events causes small is_first runs ended =
    meets d r memories (λ acts world reached. c.every_moment_stands.ensures d r memories acts world small reached) small
    (λ acts world given reached over. c.every_run_meets.ensures d r memories acts world given small reached over) first cell events causes is_first runs ended
