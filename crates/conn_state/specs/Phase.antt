-- What a connection is doing, and what that says of the bytes it waits for.
use Rattle.std.specs.Prelude.{ℕ, ◌-◌, min, List, [], ◌++◌, length, Option, None, Some}
use Rattle.std.specs.Int.{w32, to_be_bytes}
use Rattle.host_model.specs.declared.cause.EndCause.{EndCause}
pub use Rattle.limits.specs.Limits.{most_read}

-- what a connection is doing
pub data Phase : Type 0 where
  -- it reads a size, of which these bytes are held
  sizing : (bytes : List ℕ) → Phase
  -- a size is whole, and the frame isn't admitted
  held : (size : ℕ) → Phase
  -- it reads a payload of this size, of which these bytes are held
  framing : (size : ℕ) (bytes : List ℕ) → Phase
  -- frame number i is whole, and its payload isn't handed out
  ready : (number : ℕ) (payload : List ℕ) → Phase
  -- frame number i is handed out, and its outcome isn't known
  waiting : (number : ℕ) → Phase
  -- a reply is written, of which these bytes are left
  writing : (left : List ℕ) → Phase
  -- it has ended
  ended : (cause : EndCause) → Phase

-- a connection: how many frames were whole so far, and what it is doing
pub record ConnView : Type 0 where
  pub frames : ℕ
  pub phase : Phase

-- a new connection
abbrev pub fresh_conn : ConnView
fresh_conn = record { frames = 0; phase = sizing [] }

-- the bytes held of the size or the frame that is under way
abbrev pub bytes_held : Phase → List ℕ
bytes_held (sizing bytes) = bytes
bytes_held (held size) = to_be_bytes w32 size
bytes_held (framing size bytes) = to_be_bytes w32 size ++ bytes
bytes_held _ = []

-- how many bytes of the size or of the payload are missing
abbrev pub missing : Phase → ℕ
missing (sizing bytes) = 4 - length bytes
missing (framing size bytes) = size - length bytes
missing _ = 0

-- how many of the missing bytes are asked for at once
abbrev pub wanted : Phase → ℕ
wanted phase = min (missing phase) most_read

-- the size of a frame that isn't admitted
abbrev pub size_asked : Phase → Option ℕ
size_asked (held size) = Some size
size_asked _ = None

-- what is left of a reply
abbrev pub left_to_write : Phase → List ℕ
left_to_write (writing left) = left
left_to_write _ = []

-- why it has ended
abbrev pub cause_of : Phase → Option EndCause
cause_of (ended cause) = Some cause
cause_of _ = None

-- a frame waits for its admission
abbrev pub IsHeld : Phase → Type 0
IsHeld (held size) = Unit {0}
IsHeld _ = ⊥

-- a size or a payload is read
abbrev pub IsReading : Phase → Type 0
IsReading (sizing bytes) = Unit {0}
IsReading (framing size bytes) = Unit {0}
IsReading _ = ⊥

-- a whole payload can be handed out
abbrev pub IsReady : Phase → Type 0
IsReady (ready number payload) = Unit {0}
IsReady _ = ⊥

-- the outcome of a frame is awaited
abbrev pub IsWaiting : Phase → Type 0
IsWaiting (waiting number) = Unit {0}
IsWaiting _ = ⊥

-- a reply is written
abbrev pub IsWriting : Phase → Type 0
IsWriting (writing left) = Unit {0}
IsWriting _ = ⊥

-- it hasn't ended
abbrev pub HasNotEnded : Phase → Type 0
HasNotEnded (ended cause) = ⊥
HasNotEnded _ = Unit {0}
