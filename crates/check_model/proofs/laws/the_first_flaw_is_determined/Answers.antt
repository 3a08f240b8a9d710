use Rattle.check_model.proofs.OneVerdict.{one_flaw}
use Rattle.check_model.proofs.laws.the_first_flaw_is_determined.Goals as goal

pub returns : goal.returns
returns c = one_flaw
