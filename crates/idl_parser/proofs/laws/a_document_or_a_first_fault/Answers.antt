use Rattle.idl_parser.proofs.OneFault.{either_of_both}
use Rattle.idl_parser.proofs.laws.a_document_or_a_first_fault.Goals as goal

pub returns : goal.returns
returns c = either_of_both
