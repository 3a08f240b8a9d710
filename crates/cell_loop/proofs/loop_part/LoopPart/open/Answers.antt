use Rattle.std.proofs.Common.{length, refl}
use Rattle.cell_loop.proofs.Opening.{none_opens, room_for_one}
use Rattle.cell_loop.proofs.loop_part.LoopPart.open.Goals as goal

pub returns-then-full-clause-moved : goal.returns-then-full-clause-moved
returns-then-full-clause-moved c = λ s play w t. (none_opens s c.args.self.now play t c.full.ensures.rising (c.full.ensures.full.0 c.if-full.true), (t, (refl, refl)))

pub open_one-requires-clause-fits : goal.open_one-requires-clause-fits
open_one-requires-clause-fits c =
    room_for_one c.full.result (length c.args.self.now.table.slots) c.full.ensures.full.1 c.full.ensures.few c.if-full.false
