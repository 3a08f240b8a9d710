use Rattle.check_model.proofs.Meanings.{one_meaning}
use Rattle.check_model.proofs.laws.a_type_has_one_meaning.Goals as goal

pub returns : goal.returns
returns c = one_meaning
