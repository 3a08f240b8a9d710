use Rattle.hall_core.proofs.Legally.{tells}
use Rattle.hall_core.proofs.laws.journals_tell_of_services.Goals as goal

pub returns : goal.returns
returns c opening log opened may history = tells opening log opened may history
