use Rattle.call_model.proofs.ReadBack.{written}
use Rattle.call_model.proofs.failure_laws.failures_are_written.Goals as goal

pub returns : goal.returns
returns c = λ p failure. written p failure
