use Rattle.conn_state.proofs.Whole.{piece_stays}
use Rattle.conn_state.proofs.laws.every_piece_stays_within.Goals as goal

pub returns : goal.returns
returns c = piece_stays
