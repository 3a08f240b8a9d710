use Rattle.std.proofs.Common.{refl, ap}
use Rattle.conn_table.specs.Table.{TableView}
use Rattle.loop_conns.proofs.Standing.{standing}
use Rattle.loop_conns.proofs.Handing.{hands_out}
use Rattle.loop_conns.proofs.connections.LoopConnections.give.Goals as goal

pub give-requires-clause-open : goal.give-requires-clause-open
give-requires-clause-open c =
    (standing c.requires.under_way.1.2.0 c.requires.under_way.0 c.args.self.now c.requires.under_way.1.2.2.loop c.args.c c.requires.under_way.1.2.2.so_far.tied c.requires.«open»).here.there

pub returns-clause-handed : goal.returns-clause-handed
returns-clause-handed c =
    λ max small first links asks going.
    hands_out max small first links c.args.self.now _ asks going c.args.c c.give.result.0 c.give.result.1.items c.requires.«open» c.give.ensures.given c.give.ensures.after refl refl refl

pub returns-clause-budget : goal.returns-clause-budget
returns-clause-budget c =
    ap (λ (t : TableView). t.budget) c.give.ensures.after
