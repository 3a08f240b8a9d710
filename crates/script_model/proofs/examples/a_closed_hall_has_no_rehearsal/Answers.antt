use Rattle.script_model.proofs.Unending.{never_drained}
use Rattle.script_model.proofs.examples.a_closed_hall_has_no_rehearsal.Goals as goal

pub returns : goal.returns
returns c = never_drained
