use Rattle.std.proofs.Common.{◌≡◌, ◌+◌, ◌<◌, length, ap, ◌∙◌, sym, refl, subst, arith}
use Rattle.std.proofs.lemmas.List.{length_push}
use Rattle.std.proofs.lemmas.Option.{get_or_from_slice_get}
use Rattle.streams.specs.declared.marks.Mark.TheVariants.{WriteFailed}
use Rattle.host_model.specs.declared.cause.EndCause.TheVariants.{WriteFault}
use Rattle.conn_table.specs.Table.{slot_of}
use Rattle.cell_loop.specs.declared.loop_part.CellStage.TheVariants.{Lean}
use Rattle.cell_loop.specs.Closing.{StageHasSize, ClosesBehind}
use Rattle.conn_refinement.proofs.Tables.{place_of}
use Rattle.cell_loop.proofs.ClosingOff.{has_room, two_room, same_but}
use Rattle.cell_loop.proofs.Behind.{closes_on, closed_room}
use Rattle.cell_loop.proofs.loop_part.LoopPart.fail_write.Goals as goal

pub push-requires-clause-room : goal.push-requires-clause-room
push-requires-clause-room c = has_room c.args.self.now c.args.c c.requires.room c.requires.there

pub end-requires : goal.end-requires
end-requires c =
    let marks : length c.push.new.self.items ≡ length c.args.self.now.tape.items + 1 = ap length c.push.ensures.items ∙ length_push _ _ in
    let room : length c.args.self.now.tape.items + 1 < c.args.self.now.tape.capacity = two_room c.args.self.now c.args.c c.requires.room c.requires.there in
    let same : c.push.new.self.capacity ≡ c.args.self.now.tape.capacity = c.push.ensures.capacity in
    record {
      there = c.requires.there;
      going = c.requires.going;
      outside = tt;
      size =
          subst (λ k. StageHasSize k (slot_of c.args.c c.args.self.now.table.slots).size) (sym (get_or_from_slice_get c.args.self.now.stages.items c.args.c Lean Lean c.requires.lean))
          c.requires.none;
      opened = place_of c.args.self.now.stages.items c.args.c Lean c.requires.lean;
      room = omega arith;
    }

pub returns : goal.returns
returns c =
    let closed : ClosesBehind c.args.c (WriteFailed c.args.c) WriteFault c.args.self.now c.end.new.self =
    closes_on c.args.c (WriteFailed c.args.c) WriteFault c.args.self.now (record c.args.self.now { tape = c.push.new.self }) c.end.new.self
    (same_but c.args.c c.args.self.now.table) refl refl c.push.ensures.items c.push.ensures.capacity refl refl c.end.ensures.closed in
    record { closed = closed; room = closed_room c.args.c (WriteFailed c.args.c) WriteFault c.args.self.now c.end.new.self closed c.requires.room }
