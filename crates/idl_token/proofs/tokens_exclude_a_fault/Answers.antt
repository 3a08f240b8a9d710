use Rattle.idl_token.proofs.OneOutcome.{tokens_or_fault}
use Rattle.idl_token.proofs.tokens_exclude_a_fault.Goals as goal

pub returns : goal.returns
returns c = tokens_or_fault
