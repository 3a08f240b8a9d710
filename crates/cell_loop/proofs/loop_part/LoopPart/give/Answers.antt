use Rattle.std.proofs.Common.{length, ap, ◌∙◌, refl}
use Rattle.std.proofs.lemmas.List.{length-set}
use Rattle.conn_table.specs.Table.{TableView}
use Rattle.conn_table.proofs.Rising.{count_put}
use Rattle.cell_loop.specs.declared.loop_part.CellStage.TheVariants.{Asked}
use Rattle.cell_loop.proofs.HandingOut.{hands_out}
use Rattle.cell_loop.proofs.Rooming.{room_kept, as_many}
use Rattle.cell_loop.proofs.loop_part.LoopPart.give.Goals as goal

pub returns-clause-handed : goal.returns-clause-handed
returns-clause-handed c = λ s play t unclosed.
    hands_out s c.args.c c.args.self.now _ play c.give.result.0 c.give.result.1.items c.requires.whole t unclosed c.give.ensures.given c.give.ensures.after refl refl refl

pub returns-clause-room : goal.returns-clause-room
returns-clause-room c =
    room_kept c.args.self.now _ c.requires.under_way.room refl refl (as_many _ _ (ap (λ (v : TableView). length v.slots) c.give.ensures.after ∙ count_put _ c.args.self.now.table.slots))
    (length-set c.args.self.now.stages.items c.args.c Asked)
