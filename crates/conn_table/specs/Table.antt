-- A table of open connections: their states and admitted sizes, and the read budget that the sizes keep within.
use Rattle.std.specs.Prelude.{◌≡◌, ℕ, ◌+◌, ◌<◌, ◌≤◌, Bool, true, false, Option, None, Some, IsSome, unwrap_or, Result, Ok, Err, List, [], ◌∷◌, length}
use Rattle.std.specs.List.{AllByRecursion}
use Rattle.conn_state.specs.Phase.{Phase, ConnView, fresh_conn, framing, ready, waiting, size_asked}
use Rattle.conn_state.specs.Step.{after_admission}
use Rattle.conn_table.specs.declared.places.Slot.{Slot}
use Rattle.conn_table.specs.Slots.{slot_in, with_slot}

-- the budget, and what is kept of each open connection, by rising number
pub record TableView : Type 0 where
  pub budget : ℕ
  pub slots : List Slot

-- what is kept of a connection at first
abbrev pub fresh_slot : ℕ → Slot
fresh_slot c = record { number = c; conn = fresh_conn; size = None }

-- what is kept of a connection that is open
abbrev pub slot_of : ℕ → List Slot → Slot
slot_of c slots = unwrap_or (slot_in c slots) (fresh_slot c)

-- a connection in this state, and with its size as it was
abbrev pub with_state : ℕ → ConnView → List Slot → List Slot
with_state c conn slots = with_slot (record { number = c; conn = conn; size = (slot_of c slots).size }) slots

-- one with this size, and its state as it was
abbrev pub with_size : ℕ → Option ℕ → List Slot → List Slot
with_size c size slots = with_slot (record { number = c; conn = (slot_of c slots).conn; size = size }) slots

-- an admitted size, or 0
abbrev pub size_given : Option ℕ → ℕ
size_given None = 0
size_given (Some size) = size

-- the admitted sizes, summed
abbrev pub sizes_given : List Slot → ℕ
sizes_given [] = 0
sizes_given (slot ∷ slots) = size_given slot.size + sizes_given slots

-- a phase in which a payload takes room
abbrev pub TakesRoom : Phase → Type 0
TakesRoom (framing size bytes) = Unit {0}
TakesRoom (ready number payload) = Unit {0}
TakesRoom (waiting number) = Unit {0}
TakesRoom _ = ⊥

-- the size of a payload that takes room is admitted: its own, or, once it is handed out, some size
abbrev pub HasItsSize : Phase → Option ℕ → Type 0
HasItsSize (framing size bytes) admitted = admitted ≡ Some size
HasItsSize (ready number payload) admitted = admitted ≡ Some (length payload)
HasItsSize (waiting number) admitted = IsSome admitted
HasItsSize _ admitted = Unit {0}

-- what is kept of a connection has the size of its payload
abbrev pub IsAdmitted : Slot → Type 0
IsAdmitted slot = HasItsSize slot.conn.phase slot.size

-- what a table keeps: the sum of the admitted sizes, within the budget, and that the size of each payload that takes room is admitted
pub record IsSoundTable (slots : List Slot) (budget admitted : ℕ) : Type 0 where
  pub sum : admitted ≡ sizes_given slots
  pub within : admitted ≤ budget
  pub each : AllByRecursion IsAdmitted slots

-- the size that a connection asks for, or 0
abbrev pub size_wanted : ConnView → ℕ
size_wanted conn = size_given (size_asked conn.phase)

-- the table once a connection's frame is admitted
abbrev pub with_admitted : ℕ → TableView → TableView
with_admitted c old =
    let conn : ConnView = (slot_of c old.slots).conn in
    record old { slots = with_slot (record { number = c; conn = record conn { phase = after_admission conn.phase }; size = size_asked conn.phase }) old.slots }

-- What is kept of a connection whose frame waits is admitted within some room: its size fits and is admitted; it doesn't fit; or it fits and memory runs out.
abbrev pub AdmitsSlot : {E : Type 0} → ℕ → Slot → Result (Option ℕ) E → Slot → Type 0
AdmitsSlot room old (Ok (Some size)) new =
    (size ≤ room) × (size_asked old.conn.phase ≡ Some size) × (new ≡ record { number = old.number; conn = record old.conn { phase = after_admission old.conn.phase }; size = Some size })
AdmitsSlot room old (Ok None) new = (room < size_wanted old.conn) × (new ≡ old)
AdmitsSlot room old (Err error) new = (size_wanted old.conn ≤ room) × (new ≡ old)

-- the same among all that is kept
abbrev pub AdmitsFrame : {E : Type 0} → ℕ → ℕ → List Slot → Result (Option ℕ) E → List Slot → Type 0
AdmitsFrame room c old (Ok (Some size)) new =
    let conn : ConnView = (slot_of c old).conn in
    (size ≤ room) × (size_asked conn.phase ≡ Some size) × (new ≡ with_slot (record { number = c; conn = record conn { phase = after_admission conn.phase }; size = Some size }) old)
AdmitsFrame room c old (Ok None) new = (room < size_wanted (slot_of c old).conn) × (new ≡ old)
AdmitsFrame room c old (Err error) new = (size_wanted (slot_of c old).conn ≤ room) × (new ≡ old)

-- An admission: its size fits and is admitted; the budget has no room for it; or it fits and memory runs out.
abbrev pub Admits : {E : Type 0} → ℕ → TableView → Result Bool E → TableView → Type 0
Admits c old (Ok true) new = (sizes_given old.slots + size_wanted (slot_of c old.slots).conn ≤ old.budget) × (new ≡ with_admitted c old)
Admits c old (Ok false) new = (old.budget < sizes_given old.slots + size_wanted (slot_of c old.slots).conn) × (new ≡ old)
Admits c old (Err error) new = (sizes_given old.slots + size_wanted (slot_of c old.slots).conn ≤ old.budget) × (new ≡ old)
