use Rattle.check_passes.proofs.InOrder.{first_behind, first_past, first_is_flaw}
use Rattle.check_passes.proofs.laws.the_first_fault_among_passes.Goals as goal

pub returns : goal.returns
returns c = record { of_more = first_behind; behind = first_past; of_all = first_is_flaw }
