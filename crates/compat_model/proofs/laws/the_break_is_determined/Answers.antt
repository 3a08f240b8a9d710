use Rattle.compat_model.proofs.OneBreak.{one_break}
use Rattle.compat_model.proofs.laws.the_break_is_determined.Goals as goal

pub returns : goal.returns
returns c = one_break
