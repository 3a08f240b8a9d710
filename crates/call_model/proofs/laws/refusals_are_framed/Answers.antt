use Rattle.call_model.proofs.Refused.{decided_framed}
use Rattle.call_model.proofs.laws.refusals_are_framed.Goals as goal

pub returns : goal.returns
returns c = λ office payload reply sound. decided_framed office sound payload reply
