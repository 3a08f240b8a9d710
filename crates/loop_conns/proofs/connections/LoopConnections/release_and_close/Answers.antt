use Rattle.std.proofs.Common.{None, IsSome, sym, ap, ◌∙◌, subst}
use Rattle.conn_state.specs.Phase.{ConnView, cause_of}
use Rattle.conn_refinement.proofs.Tables.{size_there, size_state, size_is, size_but}
use Rattle.conn_table.specs.Table.{TableView}
use Rattle.loop_conns.proofs.Ordering.{freed_orderly}
use Rattle.loop_conns.proofs.Ending.{ends_behind}
use Rattle.loop_conns.proofs.connections.LoopConnections.release_and_close.Goals as goal

pub close-requires-2-clause-there : goal.close-requires-2-clause-there
close-requires-2-clause-there g c κs within = size_there c.args.c None c.args.self.now.table c.release.new.self c.requires.there c.release.ensures

pub close-requires-2-clause-over : goal.close-requires-2-clause-over
close-requires-2-clause-over g c κs within =
    subst (λ (v : ConnView). IsSome (cause_of v.phase)) (sym (size_state c.args.c None c.args.self.now.table c.release.new.self c.requires.there c.release.ensures)) c.requires.over

pub close-requires-2-clause-given_back : goal.close-requires-2-clause-given_back
close-requires-2-clause-given_back g c κs within = size_is c.args.c None c.args.self.now.table c.release.new.self c.requires.there c.release.ensures

pub returns : goal.returns
returns g c =
    record {
      ended = λ cause is.
          ends_behind c.args.c cause c.args.self.now c.close-2.new.self c.release.new.self
          (size_but c.args.c None c.args.self.now.table c.release.new.self c.requires.there c.release.ensures)
          (freed_orderly c.args.c c.args.self.now.table c.release.new.self c.requires.there c.release.ensures)
          (c.close-2.ensures.ended cause
          (ap (λ (v : ConnView). cause_of v.phase) (size_state c.args.c None c.args.self.now.table c.release.new.self c.requires.there c.release.ensures) ∙ is));
      owing = c.close-2.ensures.owing;
      closed = c.close-2.ensures.closed;
      budget = c.close-2.ensures.budget ∙ ap (λ (t : TableView). t.budget) c.release.ensures;
      plan = c.close-2.ensures.plan;
    }
