use Rattle.conn_state.proofs.Whole.{run_splits}
use Rattle.conn_state.proofs.laws.every_run_splits.Goals as goal

pub returns : goal.returns
returns c = run_splits
