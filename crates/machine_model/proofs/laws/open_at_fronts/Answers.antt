use Rattle.machine_model.proofs.Fronts.{woven_fronts, run_fronts}
use Rattle.machine_model.proofs.laws.open_at_fronts.Goals as goal

pub returns-clause-run : goal.returns-clause-run
returns-clause-run g c d r memories first cell events is_first runs front back is = run_fronts d r memories first cell events is_first runs front back is

pub returns-clause-weave : goal.returns-clause-weave
returns-clause-weave g c max weave loop woven front back is = woven_fronts max weave loop woven front back is
