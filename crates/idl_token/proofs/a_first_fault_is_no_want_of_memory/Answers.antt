use Rattle.idl_token.proofs.SomeOutcome.{no_want}
use Rattle.idl_token.proofs.a_first_fault_is_no_want_of_memory.Goals as goal

pub returns : goal.returns
returns c = no_want
