use Rattle.graph_cycles.proofs.Falling.{no_cycle}
use Rattle.graph_cycles.proofs.laws.falling_nodes_lie_on_no_cycle.Goals as goal

pub returns : goal.returns
returns c = no_cycle
