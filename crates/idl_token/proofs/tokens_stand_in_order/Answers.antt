use Rattle.idl_token.proofs.OneOutcome.{tokens_in_order}
use Rattle.idl_token.proofs.tokens_stand_in_order.Goals as goal

pub returns : goal.returns
returns c = tokens_in_order
