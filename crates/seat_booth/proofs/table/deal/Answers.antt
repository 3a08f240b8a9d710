use Rattle.std.proofs.Common.{rules}
use Rattle.seat_booth.proofs.Moves.{splits_at}
use Rattle.seat_booth.proofs.table.deal.Goals as goal

pub split_seat-requires : goal.split_seat-requires
split_seat-requires g c = (search rules, search rules, splits_at _ _ _ _ _ _ _ _ _ c.requires.some.0 c.requires.some.1)
