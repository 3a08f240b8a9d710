use Rattle.std.proofs.Common.{◌≡◌, refl, sym, ap, ◌∙◌, slice_set}
use Rattle.std.proofs.lemmas.Option.{same_Some}
use Rattle.host_model.specs.declared.cause.EndCause.{EndCause}
use Rattle.conn_table.specs.Table.{TableView}
use Rattle.loop_conns.proofs.Ending.{gone_here}
use Rattle.loop_conns.proofs.connections.LoopConnections.close.Goals as goal

pub returns-clause-ended : goal.returns-clause-ended
returns-clause-ended g c = λ cause is.
    let same : c.remove-cause.result ≡ cause = same_Some c.remove-cause.result cause (sym c.remove-cause.ensures.cause ∙ is) in
    gone_here c.args.c cause c.args.self.now _ c.requires.there c.remove-cause.ensures.after c.remove-cause.ensures.gone refl
    (ap (λ (x : EndCause). slice_set c.args.self.now.causes.items c.args.c x) same)

pub returns-clause-budget : goal.returns-clause-budget
returns-clause-budget g c = ap (λ (t : TableView). t.budget) c.remove-cause.ensures.after
