use Rattle.std.proofs.Common.{rules}
use Rattle.seat_booth.proofs.Moves.{keeps_all}
use Rattle.seat_booth.proofs.waiting.mark.Goals as goal

pub store-requires : goal.store-requires
store-requires g c = (search rules, search rules, keeps_all _ _ _ _ _ _ _ _ _ _ c.requires.word.0)
