use Rattle.struct_skew.proofs.KnownAlike.{known_decides, known_where_it_fits}
use Rattle.struct_skew.proofs.laws.what_is_known_decides.Goals as goal

pub returns : goal.returns
returns c = record { projected = known_decides; fitting = known_where_it_fits }
