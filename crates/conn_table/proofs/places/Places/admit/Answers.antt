use Rattle.std.proofs.Common.{◌≡◌, Some, ap, ◌∙◌, sym, subst, List, IsSome}
use Rattle.conn_table.specs.declared.places.Row.{Row}
use Rattle.conn_table.specs.declared.places.Slot.{Slot}
use Rattle.conn_table.specs.Rows.{key_in}
use Rattle.conn_state.specs.Phase.{IsHeld}
use Rattle.slab.specs.Slab.{with_value}
use Rattle.conn_table.specs.Places.{kept_in}
use Rattle.conn_table.specs.Table.{slot_of}
use Rattle.conn_table.proofs.Placing.{has_key, has_slot}
use Rattle.conn_table.proofs.Lending.{kept_there, admitted, frame_as_seen}
use Rattle.conn_table.proofs.places.Places.admit.Goals as goal

pub key_of-key-requires-clause-open : goal.key_of-key-requires-clause-open
key_of-key-requires-clause-open c =
    subst (λ (r : List Row). IsSome (key_in c.args.number r)) (sym c.as_slice.ensures.value)
    (has_key c.self.inside.slots c.args.number c.self.inside.rows.items c.args.self.now c.self.invariant.placed c.self.view_is c.requires.open)

pub index_mut-requires : goal.index_mut-requires
index_mut-requires c = has_slot c.self.inside.slots c.args.number c.key_of-key.result c.self.inside.rows.items c.self.invariant.placed (ap (key_in c.args.number) (sym c.as_slice.ensures.value) ∙ c.key_of-key.ensures)

pub admit-requires : goal.admit-requires
admit-requires c =
    let found : key_in c.args.number c.self.inside.rows.items ≡ Some c.key_of-key.result = ap (key_in c.args.number) (sym c.as_slice.ensures.value) ∙ c.key_of-key.ensures in
    let kept : slot_of c.args.number c.args.self.now ≡ c.index_mut.result.now =
    sym (ap (slot_of c.args.number) c.self.view_is) ∙ kept_there c.self.inside.slots c.self.inside.rows.items _ c.args.number c.key_of-key.result c.index_mut.result.now c.self.invariant found c.index_mut.ensures.value in
    subst (λ (s : Slot). IsHeld s.conn.phase) kept c.requires.held

pub invariant_of-self : goal.invariant_of-self
invariant_of-self c =
    let found : key_in c.args.number c.self.inside.rows.items ≡ Some c.key_of-key.result = ap (key_in c.args.number) (sym c.as_slice.ensures.value) ∙ c.key_of-key.ensures in
    (admitted c.self.inside.slots c.self.inside.rows.items _ c.args.number c.key_of-key.result c.index_mut.result.now c.self.invariant found c.index_mut.ensures.value c.args.room c.admit.result c.admit.new.self c.admit.ensures).0

pub returns : goal.returns
returns c =
    let found : key_in c.args.number c.self.inside.rows.items ≡ Some c.key_of-key.result = ap (key_in c.args.number) (sym c.as_slice.ensures.value) ∙ c.key_of-key.ensures in
    frame_as_seen c.args.room c.args.number c.admit.result (kept_in c.self.inside.slots c.self.inside.rows.items) c.args.self.now
    (kept_in (with_value c.self.inside.slots c.key_of-key.result c.admit.new.self) c.self.inside.rows.items) c.self.view_is
    (admitted c.self.inside.slots c.self.inside.rows.items _ c.args.number c.key_of-key.result c.index_mut.result.now c.self.invariant found c.index_mut.ensures.value c.args.room c.admit.result c.admit.new.self c.admit.ensures).1
