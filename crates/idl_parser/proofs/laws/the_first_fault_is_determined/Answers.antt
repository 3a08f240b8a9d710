use Rattle.idl_parser.proofs.OneFault.{one_rest, one_depth, one_fault}
use Rattle.idl_parser.proofs.laws.the_first_fault_is_determined.Goals as goal

pub returns : goal.returns
returns c = record { rest = one_rest; deep = one_depth; of_a_text = one_fault }
