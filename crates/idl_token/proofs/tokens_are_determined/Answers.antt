use Rattle.idl_token.proofs.OneOutcome.{one_token_list}
use Rattle.idl_token.proofs.tokens_are_determined.Goals as goal

pub returns : goal.returns
returns c = one_token_list
