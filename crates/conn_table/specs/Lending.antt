-- What is kept, where the state of a connection is lent.
use Rattle.std.specs.Prelude.{ℕ, List}
use Rattle.std.specs.Borrow.{Lends, MutBor, Fml}
use Rattle.conn_state.specs.Phase.{ConnView}
use Rattle.conn_state.specs.contracts.machine.Conn as conn
use Rattle.conn_table.specs.Table.{with_state}
use Rattle.conn_table.specs.contracts.places.Places as places
use Rattle.conn_table.specs.declared.places.Slot.{Slot}

-- r lends a connection's state: what is last written through r is its state, and all else stays
abbrev pub LendsState : MutBor (List Slot) → ℕ → MutBor ConnView → Fml
LendsState slots c r = Lends places.the_row conn.the_row slots r (λ state. with_state c state slots.now)
