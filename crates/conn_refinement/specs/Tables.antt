-- Tables of which one connection alone has changed.
use Rattle.std.specs.Prelude.{◌≡◌, ℕ}
use Rattle.conn_table.specs.Slots.{slot_in}
use Rattle.conn_table.specs.Table.{TableView}

-- two tables are the same but for connection c
pub record IsSameBut (c : ℕ) (old new : TableView) : Type 0 where
  pub budget : new.budget ≡ old.budget
  pub others : (x : ℕ) → (c ≡ x → ⊥) → slot_in x new.slots ≡ slot_in x old.slots
