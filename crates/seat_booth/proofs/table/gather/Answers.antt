use Rattle.std.proofs.Common.{rules}
use Rattle.seat_booth.proofs.Moves.{joins_at}
use Rattle.seat_booth.proofs.table.gather.Goals as goal

pub join_seat-requires : goal.join_seat-requires
join_seat-requires g c = (search rules, search rules, search rules, search rules, joins_at _ _ _ _ _ _ _ _ _ c.requires.idle.0 c.requires.idle.1 c.requires.opening)
