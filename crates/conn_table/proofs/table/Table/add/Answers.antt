use Rattle.std.proofs.Common.{None, refl, sym, subst}
use Rattle.conn_state.specs.Phase.{ConnView}
use Rattle.conn_table.specs.declared.places.Slot.{Slot}
use Rattle.conn_table.specs.Table.{HasItsSize, IsSoundTable}
use Rattle.conn_table.proofs.Sizing.{more_sound}
use Rattle.conn_table.proofs.table.Table.add.Goals as goal

pub invariant_of-self : goal.invariant_of-self
invariant_of-self c =
    let new : Slot = record { number = c.args.c; conn = c.new.result; size = None } in
    subst (λ l. IsSoundTable l c.self.inside.read_budget c.self.inside.admitted) (sym c.insert.ensures)
    (more_sound c.self.inside.places c.self.inside.read_budget c.self.inside.admitted new c.self.invariant refl (subst (λ (v : ConnView). HasItsSize v.phase None) (sym c.new.ensures) tt))
