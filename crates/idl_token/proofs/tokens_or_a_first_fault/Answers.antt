use Rattle.idl_token.proofs.SomeOutcome.{one_outcome}
use Rattle.idl_token.proofs.tokens_or_a_first_fault.Goals as goal

pub returns : goal.returns
returns c = one_outcome
