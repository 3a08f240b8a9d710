use Rattle.std.proofs.Common.{subst, IsSome}
use Rattle.conn_table.specs.Slots.{slot_in}
use Rattle.conn_table.specs.Table.{TableView, slot_of, IsAdmitted}
use Rattle.conn_table.proofs.Sizing.{slot_is, all_found}
use Rattle.conn_table.proofs.table.Table.conn.Goals as goal

pub returns-clause-admitted : goal.returns-clause-admitted
returns-clause-admitted c =
    subst (λ (o : TableView). IsSome (slot_in c.args.c o.slots) → IsAdmitted (slot_of c.args.c o.slots)) c.self.view_is
    (λ there. all_found IsAdmitted c.args.c c.self.inside.places (slot_of c.args.c c.self.inside.places) c.self.invariant.each (slot_is c.args.c c.self.inside.places there)) c.requires
