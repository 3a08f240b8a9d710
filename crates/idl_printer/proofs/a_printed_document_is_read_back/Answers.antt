use Rattle.idl_printer.proofs.PrintedDocuments.{read_back}
use Rattle.idl_printer.proofs.a_printed_document_is_read_back.Goals as goal

pub returns : goal.returns
returns c = read_back
