-- A connection's state in a table, tied to the machine's connection: its phase tells of what was read, submitted and collected of it.
use Rattle.std.specs.Prelude.{◌≡◌, ◌≢◌, ℕ, suc, ◌^◌, ◌<◌, ◌≤◌, None, Some, [], ◌++◌, length, slice_get}
use Rattle.std.specs.Int.{w32, to_be_bytes}
use Rattle.conn_state.specs.Phase.{Phase, ConnView, sizing, held, framing, ready, waiting, writing, ended}
use Rattle.conn_state.specs.Run.{EachIsByte}
use Rattle.machine_model.specs.Loop.{LoopConn}

-- each payload was submitted and collected
abbrev pub HasAllCollected : LoopConn → Type 0
HasAllCollected conn = (conn.submitted ≡ length conn.payloads) × (conn.collected ≡ length conn.payloads)

-- nothing is held of a frame, and nothing is left to be written
abbrev pub HoldsNothing : LoopConn → Type 0
HoldsNothing conn = (conn.held ≡ []) × (conn.left ≡ [])

-- A phase tells what is held, what is left to be written, and how far the last payload has come; the longest payload is max.
abbrev pub PhaseTells : ℕ → Phase → LoopConn → Type 0
PhaseTells max (sizing bytes) conn = HasAllCollected conn × (conn.held ≡ bytes) × (length bytes < 4) × (conn.left ≡ []) × EachIsByte bytes
PhaseTells max (held size) conn = HasAllCollected conn × (conn.held ≡ to_be_bytes w32 size) × (1 ≤ size) × (size ≤ max) × (size < 2 ^ 32) × (conn.left ≡ [])
PhaseTells max (framing size bytes) conn =
    HasAllCollected conn × (conn.held ≡ to_be_bytes w32 size ++ bytes) × (length bytes < size) × (size ≤ max) × (size < 2 ^ 32) × (conn.left ≡ [])
PhaseTells max (ready number payload) conn =
    HoldsNothing conn × (conn.submitted ≡ number) × (conn.collected ≡ number) × (length conn.payloads ≡ suc number)
    × (slice_get conn.payloads number ≡ Some payload) × (length payload ≤ max)
PhaseTells max (waiting number) conn =
    HoldsNothing conn × (conn.submitted ≡ suc number) × (conn.collected ≡ number) × (length conn.payloads ≡ suc number)
PhaseTells max (writing left) conn = HasAllCollected conn × (conn.held ≡ []) × (conn.left ≡ left) × (left ≢ [])
PhaseTells max (ended cause) conn = ⊥

-- a connection that is open, tied to its state: as many payloads were read as frames are counted, and the phase tells the rest
pub record IsOpenTied (max : ℕ) (state : ConnView) (conn : LoopConn) : Type 0 where
  pub going : conn.cause ≡ None
  pub counted : state.frames ≡ length conn.payloads
  pub tells : PhaseTells max state.phase conn

-- a payload is read
abbrev pub IsFraming : Phase → Type 0
IsFraming (framing size bytes) = Unit {0}
IsFraming _ = ⊥

-- a phase in which no size is admitted
abbrev pub IsLean : Phase → Type 0
IsLean (sizing bytes) = Unit {0}
IsLean (held size) = Unit {0}
IsLean (writing left) = Unit {0}
IsLean _ = ⊥
