use Rattle.call_model.proofs.Replied.{replied_framed}
use Rattle.call_model.proofs.laws.replies_are_framed.Goals as goal

pub returns : goal.returns
returns c = λ office payload answer sound. replied_framed office sound payload answer
