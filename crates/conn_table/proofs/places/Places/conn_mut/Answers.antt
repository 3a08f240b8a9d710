use Rattle.std.proofs.Common.{◌≡◌, Some, refl, ap, ◌∙◌, sym, subst, List, IsSome}
use Rattle.conn_table.specs.declared.places.Slot.{Slot}
use Rattle.conn_table.specs.declared.places.Row.{Row}
use Rattle.conn_table.specs.Rows.{key_in}
use Rattle.conn_table.specs.Table.{slot_of, with_state}
use Rattle.conn_table.proofs.Placing.{has_key, has_slot}
use Rattle.conn_table.proofs.Lending.{kept_there, state_changed}
use Rattle.conn_table.proofs.places.Places.conn_mut.Goals as goal

pub key_of-key-requires-clause-open : goal.key_of-key-requires-clause-open
key_of-key-requires-clause-open c =
    subst (λ (r : List Row). IsSome (key_in c.args.number r)) (sym c.as_slice.ensures.value)
    (has_key c.self.inside.slots c.args.number c.self.inside.rows.items c.args.self.now c.self.invariant.placed c.self.view_is c.requires)

pub index_mut-slot-requires : goal.index_mut-slot-requires
index_mut-slot-requires c = has_slot c.self.inside.slots c.args.number c.key_of-key.result c.self.inside.rows.items c.self.invariant.placed (ap (key_in c.args.number) (sym c.as_slice.ensures.value) ∙ c.key_of-key.ensures)

pub invariant_of-self-lent : goal.invariant_of-self-lent
invariant_of-self-lent c w =
    let found : key_in c.args.number c.self.inside.rows.items ≡ Some c.key_of-key.result = ap (key_in c.args.number) (sym c.as_slice.ensures.value) ∙ c.key_of-key.ensures in
    (state_changed c.self.inside.slots c.self.inside.rows.items _ c.args.number c.key_of-key.result c.index_mut-slot.result.now c.self.invariant found c.index_mut-slot.ensures.value w).0

pub returns : goal.returns
returns c =
    let found : key_in c.args.number c.self.inside.rows.items ≡ Some c.key_of-key.result = ap (key_in c.args.number) (sym c.as_slice.ensures.value) ∙ c.key_of-key.ensures in
    let kept : slot_of c.args.number c.args.self.now ≡ c.index_mut-slot.result.now =
    sym (ap (slot_of c.args.number) c.self.view_is) ∙ kept_there c.self.inside.slots c.self.inside.rows.items _ c.args.number c.key_of-key.result c.index_mut-slot.result.now c.self.invariant found c.index_mut-slot.ensures.value in (
      (
        refl,
        λ w. (state_changed c.self.inside.slots c.self.inside.rows.items _ c.args.number c.key_of-key.result c.index_mut-slot.result.now c.self.invariant found c.index_mut-slot.ensures.value w).1
            ∙ ap (with_state c.args.number w) c.self.view_is,
      ),
      record { writes_back = tt; state = ap (λ (s : Slot). s.conn) (sym kept) },
    )
