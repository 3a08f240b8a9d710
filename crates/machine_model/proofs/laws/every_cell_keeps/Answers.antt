use Rattle.machine_model.proofs.Running.{keeps}
use Rattle.machine_model.proofs.laws.every_cell_keeps.Goals as goal

pub returns : goal.returns
returns g c d r memories first cell events small is_first runs =
    keeps d r memories (λ acts world reached. c.every_moment_stands.ensures d r memories acts world small reached) small first cell events is_first runs
