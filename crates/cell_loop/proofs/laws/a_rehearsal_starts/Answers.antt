use Rattle.cell_loop.proofs.Starting.{starts_tied}
use Rattle.cell_loop.proofs.laws.a_rehearsal_starts.Goals as goal

pub returns : goal.returns
returns c s part first script is_first fresh = starts_tied s part first script is_first fresh
