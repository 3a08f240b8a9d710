-- Connections by number, kept in a slab.
use Rattle.std.specs.Prelude.{◌≡◌, ℕ, ◌≤◌, Option, None, Some, List, [], ◌∷◌, length}
use Rattle.std.specs.List.{AllByRecursion}
use Rattle.slab.specs.Slab.{Slab, get, slab_len}
use Rattle.conn_table.specs.declared.places.Row.{Row}
use Rattle.conn_table.specs.declared.places.Slot.{Slot}
use Rattle.conn_table.specs.Rows.{IsRising}
use Rattle.conn_table.specs.Slots.{most_connections}

-- one more in front, where there is one
abbrev pub joined_to : Option Slot → List Slot → List Slot
joined_to None slots = slots
joined_to (Some slot) slots = slot ∷ slots

-- what a slab has under the keys of these rows
abbrev pub kept_in : Slab Slot → List Row → List Slot
kept_in slab [] = []
kept_in slab (row ∷ rows) = joined_to (get slab row.key) (kept_in slab rows)

-- a row's key has the slot of its number
abbrev pub IsPlaced : Slab Slot → Row → Type 0
IsPlaced slab row = (slot : Slot) × (get slab row.key ≡ Some slot) × (slot.number ≡ row.number)

-- Rows rise, each has its slot, and there are as many slots as rows, with room for the most.
pub record AreSoundPlaces (slab : Slab Slot) (rows : List Row) (capacity : ℕ) : Type 0 where
  pub rising : IsRising rows
  pub placed : AllByRecursion (IsPlaced slab) rows
  pub counted : slab_len slab ≡ length rows
  pub few : length rows ≤ most_connections
  pub room : most_connections ≤ slab.capacity
  pub rows_room : most_connections ≤ capacity
