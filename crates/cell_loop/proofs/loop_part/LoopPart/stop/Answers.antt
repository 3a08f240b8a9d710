use Rattle.std.proofs.Common.{◌≡◌, slice_index_or, ◌∙◌, sym, subst}
use Rattle.std.proofs.lemmas.List.{get_or_read}
use Rattle.host_model.specs.declared.cause.EndCause.TheVariants.{Stopped}
use Rattle.cell_loop.specs.declared.loop_part.CellStage.{CellStage}
use Rattle.cell_loop.specs.declared.loop_part.CellStage.TheVariants.{Lean}
use Rattle.cell_loop.specs.LoopMoves.{StandIsOver}
use Rattle.cell_loop.proofs.ClosingOff.{has_room, way_there, way_size, way_going}
use Rattle.cell_loop.proofs.Behind.{gone_room}
use Rattle.cell_loop.proofs.Stopping.{stops_one, stops_none, cause_at, over_at}
use Rattle.cell_loop.proofs.loop_part.LoopPart.stop.Goals as goal

pub returns-in-Over : goal.returns-in-Over
returns-in-Over c =
    let stage : c.index.result.now ≡ slice_index_or c.args.self.now.stages.items c.args.c Lean =
    get_or_read c.args.self.now.stages.items c.args.c c.index.result.now c.requires.opened c.index.ensures Lean in
    record { stopped = stops_none c.args.c c.args.self.now c.requires.opened (subst StandIsOver (sym c.in-Over.is ∙ stage) tt); room = c.requires.under_way.room }

pub end-requires : goal.end-requires
end-requires c =
    let own : CellStage = slice_index_or c.args.self.now.stages.items c.args.c Lean in
    let stage : c.index.result.now ≡ own = get_or_read c.args.self.now.stages.items c.args.c c.index.result.now c.requires.opened c.index.ensures Lean in
    let going : StandIsOver own → ⊥ = λ over. c.in_default.not-Over (cause_at own) (stage ∙ over_at own over) in
    record {
      there = way_there c.args.self.now c.args.c c.requires.under_way c.requires.opened going;
      going = way_going c.args.self.now c.args.c c.requires.under_way c.requires.opened going;
      outside = tt;
      size = way_size c.args.self.now c.args.c c.requires.under_way c.requires.opened going;
      opened = c.requires.opened;
      room = has_room c.args.self.now c.args.c c.requires.under_way.room (way_there c.args.self.now c.args.c c.requires.under_way c.requires.opened going);
    }

pub returns : goal.returns
returns c =
    let own : CellStage = slice_index_or c.args.self.now.stages.items c.args.c Lean in
    let stage : c.index.result.now ≡ own = get_or_read c.args.self.now.stages.items c.args.c c.index.result.now c.requires.opened c.index.ensures Lean in
    let going : StandIsOver own → ⊥ = λ over. c.in_default.not-Over (cause_at own) (stage ∙ over_at own over) in
    record {
      stopped = stops_one c.args.c c.args.self.now c.end.new.self c.requires.opened going c.end.ensures.closed;
      room = gone_room c.args.c Stopped c.args.self.now c.end.new.self c.end.ensures.closed c.requires.under_way.room;
    }
