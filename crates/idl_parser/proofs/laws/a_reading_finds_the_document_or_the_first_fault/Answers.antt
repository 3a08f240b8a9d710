use Rattle.idl_parser.proofs.Faults.{document_is_read, fault_is_first}
use Rattle.idl_parser.proofs.laws.a_reading_finds_the_document_or_the_first_fault.Goals as goal

pub returns : goal.returns
returns c = record { document = document_is_read; fault = fault_is_first }
