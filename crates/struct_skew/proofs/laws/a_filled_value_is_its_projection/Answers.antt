use Rattle.struct_skew.proofs.Filling.{filled_stays}
use Rattle.struct_skew.proofs.laws.a_filled_value_is_its_projection.Goals as goal

pub returns : goal.returns
returns c = filled_stays
