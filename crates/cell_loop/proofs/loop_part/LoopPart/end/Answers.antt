use Rattle.std.proofs.Common.{Option, ℕ, IsSome, slice_index_or, ap, sym, refl, subst}
use Rattle.conn_state.specs.Phase.{ConnView, cause_of}
use Rattle.cell_loop.specs.declared.loop_part.CellStage.TheVariants.{Lean}
use Rattle.cell_loop.specs.Closing.{StageHasSize}
use Rattle.conn_refinement.proofs.Tables.{state_there, state_is, state_size, state_but, state_count}
use Rattle.cell_loop.proofs.ClosingOff.{closed_behind}
use Rattle.cell_loop.proofs.loop_part.LoopPart.end.Goals as goal

pub release_and_close-requires-clause-there : goal.release_and_close-requires-clause-there
release_and_close-requires-clause-there c = state_there c.args.c _ c.args.self.now.table c.end.new.self c.requires.there c.end.ensures

pub release_and_close-requires-clause-over : goal.release_and_close-requires-clause-over
release_and_close-requires-clause-over c =
    subst (λ (v : ConnView). IsSome (cause_of v.phase)) (sym (state_is c.args.c _ c.args.self.now.table c.end.new.self c.requires.there c.end.ensures)) refl

pub release_and_close-requires-clause-size : goal.release_and_close-requires-clause-size
release_and_close-requires-clause-size c =
    subst (λ (o : Option ℕ). StageHasSize (slice_index_or c.args.self.now.stages.items c.args.c Lean) o)
    (sym (state_size c.args.c _ c.args.self.now.table c.end.new.self c.requires.there c.end.ensures)) c.requires.size

pub returns : goal.returns
returns c =
    record {
      closed =
          closed_behind c.args.c c.args.cause c.args.self.now c.release_and_close.new.self c.end.new.self
          (state_but c.args.c _ c.args.self.now.table c.end.new.self c.requires.there c.end.ensures)
          (state_count c.args.c _ c.args.self.now.table c.end.new.self c.requires.there c.end.ensures)
          (c.release_and_close.ensures.closed c.args.cause
          (ap (λ (v : ConnView). cause_of v.phase) (state_is c.args.c _ c.args.self.now.table c.end.new.self c.requires.there c.end.ensures)));
    }
