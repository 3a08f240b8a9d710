use Rattle.struct_skew.proofs.Bounds.{projection_bounded}
use Rattle.struct_skew.proofs.rows.a_projection_is_bounded.Goals as goal

pub returns : goal.returns
returns c = projection_bounded
