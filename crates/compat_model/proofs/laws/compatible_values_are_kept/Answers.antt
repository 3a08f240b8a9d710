use Rattle.compat_model.proofs.Reached.{values_kept}
use Rattle.compat_model.proofs.laws.compatible_values_are_kept.Goals as goal

pub returns : goal.returns
returns c = values_kept
