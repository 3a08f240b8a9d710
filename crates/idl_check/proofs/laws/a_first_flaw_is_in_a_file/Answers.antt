use Rattle.idl_check.proofs.InFiles.{flaw_below, fault_below}
use Rattle.idl_check.proofs.laws.a_first_flaw_is_in_a_file.Goals as goal

pub returns-clause-flaw : goal.returns-clause-flaw
returns-clause-flaw c = flaw_below

pub returns-clause-fault : goal.returns-clause-fault
returns-clause-fault c = fault_below
