use Rattle.idl_printer.proofs.Canonical.{one_text}
use Rattle.idl_printer.proofs.the_print_is_canonical.Goals as goal

pub returns : goal.returns
returns c = one_text
