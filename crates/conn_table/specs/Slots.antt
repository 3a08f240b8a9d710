-- What is kept of the open connections: a list, by rising number.
use Rattle.std.specs.Prelude.{ℕ, ◌<◌, nat_lt, ◌==◌, if◌then◌else◌, Option, None, Some, List, [], ◌∷◌}
use Rattle.std.specs.List.{AllByRecursion}
use Rattle.conn_table.specs.declared.places.Slot.{Slot}
pub use Rattle.limits.specs.Limits.{most_connections}

-- what is kept of a connection, where it is open
abbrev pub slot_in : ℕ → List Slot → Option Slot
slot_in c [] = None
slot_in c (slot ∷ slots) = if slot.number == c then Some slot else slot_in c slots

-- this in place of what is kept of its connection
abbrev pub with_slot : Slot → List Slot → List Slot
with_slot new [] = []
with_slot new (slot ∷ slots) = if slot.number == new.number then new ∷ slots else slot ∷ with_slot new slots

-- one more connection, at its place by number
abbrev pub with_added : Slot → List Slot → List Slot
with_added new [] = new ∷ []
with_added new (slot ∷ slots) = if nat_lt slot.number new.number then slot ∷ with_added new slots else new ∷ (slot ∷ slots)

-- all but this connection
abbrev pub without_number : ℕ → List Slot → List Slot
without_number c [] = []
without_number c (slot ∷ slots) = if slot.number == c then slots else slot ∷ without_number c slots

-- each connection's number is below those behind it, so that no number stands twice
abbrev pub HaveRisingNumbers : List Slot → Type 0
HaveRisingNumbers [] = Unit {0}
HaveRisingNumbers (slot ∷ slots) = AllByRecursion (λ (other : Slot). slot.number < other.number) slots × HaveRisingNumbers slots
