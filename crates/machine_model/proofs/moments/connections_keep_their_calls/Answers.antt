use Rattle.machine_model.proofs.Ending.{are_called, ends_by}
use Rattle.machine_model.proofs.moments.connections_keep_their_calls.Goals as goal

pub returns-clause-called : goal.returns-clause-called
returns-clause-called g c d r memories first cell events small is_first runs number within =
    are_called d r memories (λ acts world reached. c.every_moment_stands.ensures d r memories acts world small reached) small first cell events is_first runs number within

pub returns-clause-ended : goal.returns-clause-ended
returns-clause-ended g c d r memories first cell events small is_first runs number cause within is =
    ends_by d r memories (λ acts world reached. c.every_moment_stands.ensures d r memories acts world small reached) small first cell events is_first runs number cause within is
