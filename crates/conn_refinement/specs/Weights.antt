-- A weight of each connection in a table, summed.
use Rattle.std.specs.Prelude.{ℕ, ◌+◌, Option, None, Some, List, [], ◌∷◌}
use Rattle.conn_table.specs.declared.places.Slot.{Slot}

-- a weight of what is kept of a connection, or 0
abbrev pub weight_of : (Slot → ℕ) → Option Slot → ℕ
weight_of w None = 0
weight_of w (Some slot) = w slot

-- the weights of all, summed
abbrev pub table_weight : (Slot → ℕ) → List Slot → ℕ
table_weight w [] = 0
table_weight w (slot ∷ slots) = w slot + table_weight w slots
