use Rattle.idl_parser.proofs.Faults.{no_fault}
use Rattle.idl_parser.proofs.laws.a_document_has_no_fault.Goals as goal

pub returns : goal.returns
returns c = no_fault
