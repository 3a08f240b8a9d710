use Rattle.check_model.proofs.SmallVerdicts.{accepted, repeated_id}
use Rattle.check_model.proofs.examples.verdicts.Goals as goal

pub returns-clause-accepted : goal.returns-clause-accepted
returns-clause-accepted c = accepted

pub returns-clause-repeated_id : goal.returns-clause-repeated_id
returns-clause-repeated_id c = repeated_id
