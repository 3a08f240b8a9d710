use Rattle.idl_printer.proofs.PrintedDocuments.{parsed_to_itself}
use Rattle.idl_printer.proofs.a_printed_document_is_parsed_to_itself.Goals as goal

pub returns : goal.returns
returns c = parsed_to_itself
