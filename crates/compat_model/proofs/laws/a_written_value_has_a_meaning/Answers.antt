use Rattle.compat_model.proofs.OwnValues.{has_meaning}
use Rattle.compat_model.proofs.laws.a_written_value_has_a_meaning.Goals as goal

pub returns : goal.returns
returns c = λ s kind v sound. has_meaning s kind v sound
