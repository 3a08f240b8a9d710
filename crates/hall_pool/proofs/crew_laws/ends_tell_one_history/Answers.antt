use Rattle.hall_pool.proofs.Ending.{one_history}
use Rattle.hall_pool.proofs.crew_laws.ends_tell_one_history.Goals as goal

pub returns : goal.returns
returns c desk booth first others last weave loop new ends zeroth same served woven = one_history desk booth first others last ends zeroth served weave loop new same woven
