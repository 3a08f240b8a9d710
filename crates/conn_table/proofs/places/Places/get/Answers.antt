use Rattle.std.proofs.Common.{List, IsSome, ap, ◌∙◌, sym, subst}
use Rattle.conn_table.specs.declared.places.Row.{Row}
use Rattle.conn_table.specs.Rows.{key_in}
use Rattle.conn_table.specs.Slots.{slot_in}
use Rattle.conn_table.proofs.Placing.{under, slot_under, has_key, has_slot}
use Rattle.conn_table.proofs.places.Places.get.Goals as goal

pub key_of-requires-clause-open : goal.key_of-requires-clause-open
key_of-requires-clause-open c =
    subst (λ (r : List Row). IsSome (key_in c.args.number r)) (sym c.as_slice.ensures.value)
    (has_key c.self.inside.slots c.args.number c.self.inside.rows.items c.args.self.now c.self.invariant.placed c.self.view_is c.requires)

pub index-requires : goal.index-requires
index-requires c = has_slot c.self.inside.slots c.args.number c.key_of.result c.self.inside.rows.items c.self.invariant.placed (ap (key_in c.args.number) (sym c.as_slice.ensures.value) ∙ c.key_of.ensures)

pub returns : goal.returns
returns c =
    sym (ap (slot_in c.args.number) c.self.view_is) ∙ slot_under c.self.inside.slots c.args.number c.self.inside.rows.items c.self.invariant.placed
    ∙ ap (under c.self.inside.slots) (ap (key_in c.args.number) (sym c.as_slice.ensures.value) ∙ c.key_of.ensures) ∙ c.index.ensures
