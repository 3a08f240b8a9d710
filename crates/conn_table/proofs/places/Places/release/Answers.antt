use Rattle.std.proofs.Common.{◌≡◌, None, Some, ap, ◌∙◌, sym, subst, List, IsSome}
use Rattle.conn_table.specs.declared.places.Row.{Row}
use Rattle.conn_table.specs.declared.places.Slot.{Slot}
use Rattle.conn_table.specs.Rows.{key_in}
use Rattle.conn_table.specs.Table.{slot_of, with_size}
use Rattle.conn_table.proofs.Placing.{has_key, has_slot}
use Rattle.conn_table.proofs.Lending.{kept_there, size_changed}
use Rattle.conn_table.proofs.places.Places.release.Goals as goal

pub key_of-key-requires-clause-open : goal.key_of-key-requires-clause-open
key_of-key-requires-clause-open c =
    subst (λ (r : List Row). IsSome (key_in c.args.number r)) (sym c.as_slice.ensures.value)
    (has_key c.self.inside.slots c.args.number c.self.inside.rows.items c.args.self.now c.self.invariant.placed c.self.view_is c.requires.open)

pub index_mut-requires : goal.index_mut-requires
index_mut-requires c = has_slot c.self.inside.slots c.args.number c.key_of-key.result c.self.inside.rows.items c.self.invariant.placed (ap (key_in c.args.number) (sym c.as_slice.ensures.value) ∙ c.key_of-key.ensures)

pub release-requires : goal.release-requires
release-requires c =
    let found : key_in c.args.number c.self.inside.rows.items ≡ Some c.key_of-key.result = ap (key_in c.args.number) (sym c.as_slice.ensures.value) ∙ c.key_of-key.ensures in
    let kept : slot_of c.args.number c.args.self.now ≡ c.index_mut.result.now =
    sym (ap (slot_of c.args.number) c.self.view_is) ∙ kept_there c.self.inside.slots c.self.inside.rows.items _ c.args.number c.key_of-key.result c.index_mut.result.now c.self.invariant found c.index_mut.ensures.value in
    subst (λ (s : Slot). IsSome s.size) kept c.requires.admitted

pub invariant_of-self : goal.invariant_of-self
invariant_of-self c =
    let found : key_in c.args.number c.self.inside.rows.items ≡ Some c.key_of-key.result = ap (key_in c.args.number) (sym c.as_slice.ensures.value) ∙ c.key_of-key.ensures in
    (size_changed c.self.inside.slots c.self.inside.rows.items _ c.args.number c.key_of-key.result c.index_mut.result.now c.self.invariant found c.index_mut.ensures.value None c.release.new.self c.release.ensures.after).0

pub returns : goal.returns
returns c =
    let found : key_in c.args.number c.self.inside.rows.items ≡ Some c.key_of-key.result = ap (key_in c.args.number) (sym c.as_slice.ensures.value) ∙ c.key_of-key.ensures in
    let kept : slot_of c.args.number c.args.self.now ≡ c.index_mut.result.now =
    sym (ap (slot_of c.args.number) c.self.view_is) ∙ kept_there c.self.inside.slots c.self.inside.rows.items _ c.args.number c.key_of-key.result c.index_mut.result.now c.self.invariant found c.index_mut.ensures.value in
    record {
      size = ap (λ (s : Slot). s.size) kept ∙ c.release.ensures.size;
      after = (size_changed c.self.inside.slots c.self.inside.rows.items _ c.args.number c.key_of-key.result c.index_mut.result.now c.self.invariant found c.index_mut.ensures.value None c.release.new.self c.release.ensures.after).1 ∙ ap (with_size c.args.number None) c.self.view_is;
    }
