use Rattle.machine_model.proofs.Pausing.{rests}
use Rattle.machine_model.proofs.moments.a_moment_of_rest_tells.Goals as goal

pub returns : goal.returns
returns g c d r memories first mid last events more small is_first runs rest goes =
    rests d r memories (λ acts world reached. c.every_moment_stands.ensures d r memories acts world small reached) small first mid last events more is_first runs rest goes
