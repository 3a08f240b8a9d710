use Rattle.idl_token.proofs.OneOutcome.{one_first_fault}
use Rattle.idl_token.proofs.the_fault_is_determined.Goals as goal

pub returns : goal.returns
returns c = one_first_fault
