use Rattle.std.proofs.Common.{◌≡◌, None, IsSome, ap, ◌∙◌, sym, subst}
use Rattle.conn_state.specs.Phase.{ConnView, cause_of}
use Rattle.conn_table.specs.Slots.{slot_in}
use Rattle.conn_table.specs.Table.{slot_of}
use Rattle.conn_refinement.proofs.Tables.{size_there, size_state, size_is, size_but, size_count}
use Rattle.cell_loop.proofs.ClosingOff.{close_is, closed_behind}
use Rattle.cell_loop.proofs.loop_part.LoopPart.release_and_close.Goals as goal

pub returns-in-Lean : goal.returns-in-Lean
returns-in-Lean c =
    record {
      closed = λ cause is.
          close_is c.args.c cause c.args.self.now c.close.new.self c.requires.there c.close.ensures.table c.close.ensures.gone (c.close.ensures.stages cause is) c.close.ensures.tape
          c.close.ensures.capacity c.close.ensures.feeds c.close.ensures.ends;
    }

pub close-requires-2 : goal.close-requires-2
close-requires-2 c =
    record {
      there = size_there c.args.c None c.args.self.now.table c.release.new.self c.requires.there c.release.ensures;
      over = subst (λ (v : ConnView). IsSome (cause_of v.phase)) (sym (size_state c.args.c None c.args.self.now.table c.release.new.self c.requires.there c.release.ensures)) c.requires.over;
      given_back = size_is c.args.c None c.args.self.now.table c.release.new.self c.requires.there c.release.ensures;
      opened = c.requires.opened;
      room = c.requires.room;
    }

pub returns : goal.returns
returns c =
    let still : IsSome (slot_in c.args.c c.release.new.self.slots) = size_there c.args.c None c.args.self.now.table c.release.new.self c.requires.there c.release.ensures in
    let state : (slot_of c.args.c c.release.new.self.slots).conn ≡ (slot_of c.args.c c.args.self.now.table.slots).conn =
    size_state c.args.c None c.args.self.now.table c.release.new.self c.requires.there c.release.ensures in
    record {
      closed = λ cause is.
          closed_behind c.args.c cause c.args.self.now c.close-2.new.self c.release.new.self
          (size_but c.args.c None c.args.self.now.table c.release.new.self c.requires.there c.release.ensures)
          (size_count c.args.c None c.args.self.now.table c.release.new.self c.requires.there c.release.ensures)
          (close_is c.args.c cause (record c.args.self.now { table = c.release.new.self }) c.close-2.new.self still c.close-2.ensures.table c.close-2.ensures.gone
          (c.close-2.ensures.stages cause (ap (λ (v : ConnView). cause_of v.phase) state ∙ is)) c.close-2.ensures.tape c.close-2.ensures.capacity c.close-2.ensures.feeds c.close-2.ensures.ends);
    }
