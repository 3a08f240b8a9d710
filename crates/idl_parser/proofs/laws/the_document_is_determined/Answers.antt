use Rattle.idl_parser.proofs.Faults.{one_document}
use Rattle.idl_parser.proofs.laws.the_document_is_determined.Goals as goal

pub returns : goal.returns
returns c = one_document
