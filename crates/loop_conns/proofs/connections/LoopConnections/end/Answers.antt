use Rattle.std.proofs.Common.{ℕ, Option, IsSome, slice_index_or, refl, sym, ap, ◌∙◌, subst}
use Rattle.conn_state.specs.Phase.{ConnView, cause_of}
use Rattle.conn_refinement.proofs.Tables.{state_there, state_is, state_size, state_but}
use Rattle.loop_conns.specs.declared.connections.ConnStage.TheVariants.{Gone}
use Rattle.loop_conns.specs.Ended.{HasSizeBy}
use Rattle.conn_table.specs.Table.{TableView}
use Rattle.loop_conns.proofs.Ordering.{state_orderly}
use Rattle.loop_conns.proofs.Ending.{ends_behind}
use Rattle.loop_conns.proofs.connections.LoopConnections.end.Goals as goal

pub release_and_close-requires-clause-there : goal.release_and_close-requires-clause-there
release_and_close-requires-clause-there g c κs within = state_there c.args.c _ c.args.self.now.table c.end.new.self c.requires.there c.end.ensures

pub release_and_close-requires-clause-over : goal.release_and_close-requires-clause-over
release_and_close-requires-clause-over g c κs within =
    subst (λ (v : ConnView). IsSome (cause_of v.phase)) (sym (state_is c.args.c _ c.args.self.now.table c.end.new.self c.requires.there c.end.ensures)) refl

pub release_and_close-requires-clause-size : goal.release_and_close-requires-clause-size
release_and_close-requires-clause-size g c κs within =
    subst (λ (o : Option ℕ). HasSizeBy (slice_index_or c.args.self.now.stages.items c.args.c Gone) o)
    (sym (state_size c.args.c _ c.args.self.now.table c.end.new.self c.requires.there c.end.ensures)) c.requires.size

pub returns-clause-ended : goal.returns-clause-ended
returns-clause-ended g c =
    ends_behind c.args.c c.args.cause c.args.self.now c.release_and_close.new.self c.end.new.self
    (state_but c.args.c _ c.args.self.now.table c.end.new.self c.requires.there c.end.ensures)
    (state_orderly c.args.c _ c.args.self.now.table c.end.new.self c.requires.there c.end.ensures)
    (c.release_and_close.ensures.ended c.args.cause (ap (λ (v : ConnView). cause_of v.phase) (state_is c.args.c _ c.args.self.now.table c.end.new.self c.requires.there c.end.ensures)))

pub returns-clause-budget : goal.returns-clause-budget
returns-clause-budget g c = c.release_and_close.ensures.budget ∙ ap (λ (t : TableView). t.budget) c.end.ensures
