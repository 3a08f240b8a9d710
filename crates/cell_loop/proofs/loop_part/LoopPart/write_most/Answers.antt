use Rattle.std.proofs.Common.{Vec, Global, List, [], ◌∷◌, ◌++◌, length, ap, ◌∙◌}
use Rattle.streams.specs.declared.marks.Mark.{Mark}
use Rattle.streams.specs.declared.marks.Mark.TheVariants.{Wrote}
use Rattle.conn_table.specs.Table.{TableView}
use Rattle.conn_table.proofs.Rising.{count_put}
use Rattle.cell_loop.specs.declared.loop_part.CellStage.{CellStage}
use Rattle.cell_loop.proofs.Rooming.{marked_room, as_many}
use Rattle.cell_loop.proofs.loop_part.LoopPart.write_most.Goals as goal

pub returns-clause-room : goal.returns-clause-room
returns-clause-room c =
    marked_room _ c.args.self.now c.make_room.new.self _ c.requires.room c.in_ok-make_room.ensures.few c.in_ok-make_room.ensures.room
    (c.push.ensures.items ∙ ap (λ (marks : List Mark). marks ++ Wrote c.args.c c.split_at.result.0.now ∷ []) c.reserve_bytes.ensures.items) (c.push.ensures.capacity ∙ c.reserve_bytes.ensures.capacity)
    (as_many _ _ (ap (λ (v : TableView). length v.slots) c.wrote.ensures ∙ count_put _ c.make_room.new.self.table.slots)) (ap (λ (v : Vec CellStage Global). length v.items) c.in_ok-make_room.ensures.stages)
    c.in_ok-make_room.ensures.ends
