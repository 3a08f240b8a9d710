use Rattle.std.proofs.Common.{◌≡◌, None, IsSome, sym, subst}
use Rattle.conn_table.specs.Slots.{slot_in}
use Rattle.conn_table.specs.Table.{TableView, slot_of, IsSoundTable}
use Rattle.conn_table.proofs.Sizing.{less_sound}
use Rattle.conn_table.proofs.table.Table.remove.Goals as goal

pub invariant_of-self : goal.invariant_of-self
invariant_of-self c =
    subst (λ l. IsSoundTable l c.self.inside.read_budget c.self.inside.admitted) (sym c.remove-slot.ensures.new)
    (less_sound c.self.inside.places c.self.inside.read_budget c.self.inside.admitted c.args.c c.self.invariant
    (subst (λ (o : TableView). IsSome (slot_in c.args.c o.slots)) (sym c.self.view_is) c.requires.open)
    (subst (λ (o : TableView). (slot_of c.args.c o.slots).size ≡ None) (sym c.self.view_is) c.requires.given_back))
