use Rattle.struct_skew.proofs.Settling.{settled_itself, settled_projected}
use Rattle.struct_skew.proofs.laws.settled_values_mean_themselves.Goals as goal

pub returns : goal.returns
returns c = record { meaning = settled_itself; projected = settled_projected }
