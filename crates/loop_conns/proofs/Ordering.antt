-- A table stays orderly where one connection changes its state, gives its size back or goes.
use Rattle.std.proofs.Common.{◌≡◌, ℕ, suc, ◌+◌, ◌<◌, ◌≤◌, None, Some, IsSome, length, sym, subst, arith}
use Rattle.conn_state.specs.Phase.{ConnView}
use Rattle.conn_table.specs.declared.places.Slot.{Slot}
use Rattle.conn_table.specs.Slots.{most_connections, slot_in, with_slot, with_added, without_number}
use Rattle.conn_table.specs.Table.{TableView, fresh_slot, slot_of, with_state, with_size, size_given, sizes_given}
use Rattle.conn_table.proofs.Sizing.{slot_is, sizes_put}
use Rattle.conn_table.proofs.Rising.{rising_put, rising_added, rising_left, count_put, count_added, count_left, sizes_added, sizes_left}
use Rattle.conn_refinement.proofs.Tables.{stated, sized}
use Rattle.loop_conns.specs.Tied.{IsOrderly}

-- one of which a connection is put in the place of itself, with a size that is no greater
put_orderly : (new : Slot) (old : TableView) → IsOrderly old → IsSome (slot_in new.number old.slots)
    → sizes_given (with_slot new old.slots) ≤ old.budget → IsOrderly (record old { slots = with_slot new old.slots })
put_orderly new old o there within =
    let few : length old.slots ≤ most_connections = o.few in
    let many : length (with_slot new old.slots) ≡ length old.slots = count_put new old.slots in
    record { rising = rising_put new old.slots o.rising; few = omega arith; within = within }

pub state_orderly : (c : ℕ) (conn : ConnView) (old new : TableView) → IsSome (slot_in c old.slots) → new ≡ record old { slots = with_state c conn old.slots } → IsOrderly old → IsOrderly new
state_orderly c conn old new there is o =
    let at : slot_in c old.slots ≡ Some (slot_of c old.slots) = slot_is c old.slots there in
    let t : sizes_given (with_slot (stated c conn old.slots) old.slots) + size_given (slot_of c old.slots).size ≡ sizes_given old.slots + size_given (slot_of c old.slots).size =
    sizes_put (stated c conn old.slots) (slot_of c old.slots) old.slots at in
    let within : sizes_given old.slots ≤ old.budget = o.within in
    subst IsOrderly (sym is) (put_orderly (stated c conn old.slots) old o there (omega arith))

pub freed_orderly : (c : ℕ) (old new : TableView) → IsSome (slot_in c old.slots) → new ≡ record old { slots = with_size c None old.slots } → IsOrderly old → IsOrderly new
freed_orderly c old new there is o =
    let at : slot_in c old.slots ≡ Some (slot_of c old.slots) = slot_is c old.slots there in
    let t : sizes_given (with_slot (sized c None old.slots) old.slots) + size_given (slot_of c old.slots).size ≡ sizes_given old.slots + 0 =
    sizes_put (sized c None old.slots) (slot_of c old.slots) old.slots at in
    let within : sizes_given old.slots ≤ old.budget = o.within in
    subst IsOrderly (sym is) (put_orderly (sized c None old.slots) old o there (omega arith))

pub left_orderly : (c : ℕ) (old new : TableView) → IsSome (slot_in c old.slots) → new ≡ record old { slots = without_number c old.slots } → IsOrderly old → IsOrderly new
left_orderly c old new there is o =
    let at : slot_in c old.slots ≡ Some (slot_of c old.slots) = slot_is c old.slots there in
    let t : size_given (slot_of c old.slots).size + sizes_given (without_number c old.slots) ≡ sizes_given old.slots = sizes_left c (slot_of c old.slots) old.slots at in
    let fewer : suc (length (without_number c old.slots)) ≡ length old.slots = count_left c old.slots there in
    let few : length old.slots ≤ most_connections = o.few in
    let within : sizes_given old.slots ≤ old.budget = o.within in
    subst IsOrderly (sym is) (record { rising = rising_left c old.slots o.rising; few = omega arith; within = omega arith })

pub added_orderly : (c : ℕ) (old new : TableView) → slot_in c old.slots ≡ None → length old.slots < most_connections → new ≡ record old { slots = with_added (fresh_slot c) old.slots }
    → IsOrderly old → IsOrderly new
added_orderly c old new absent room is o =
    let sizes : sizes_given (with_added (fresh_slot c) old.slots) ≡ 0 + sizes_given old.slots = sizes_added (fresh_slot c) old.slots in
    let more : length (with_added (fresh_slot c) old.slots) ≡ suc (length old.slots) = count_added (fresh_slot c) old.slots in
    let within : sizes_given old.slots ≤ old.budget = o.within in
    subst IsOrderly (sym is) (record { rising = rising_added (fresh_slot c) old.slots o.rising absent; few = omega arith; within = omega arith })
