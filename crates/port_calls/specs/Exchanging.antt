-- Steps of an exchange on a pipe: what is sent, and what is heard.
use Rattle.std.specs.Prelude.{◌≡◌, ◌≢◌, ◌⊎◌, ℕ, ◌<◌, ◌≤◌, Bool, true, false, List, [], Option, None, Some, Result, Ok, Err, MatchResult, length}
use Rattle.streams.specs.Cause.{Rose, HasCause}
use Rattle.streams.specs.Content.{told_more}
use Rattle.streams.specs.Taken.{IsTakenInPart}
use Rattle.outside.specs.Pipes.{PipeState, told_end}
use Rattle.host_model.specs.Conversation.{IsPrefix}
use Rattle.host_model.specs.Frames.{frame, size_bytes, IsPayload, IsOutside, IsPartial}
use Rattle.port_calls.specs.declared.asking_fault.AskingFault.{AskingFault}
use Rattle.port_calls.specs.declared.asking_fault.AskingFault.TheVariants as faults
use Rattle.port_calls.specs.declared.hearing.Unheard.{Unheard}
use Rattle.port_calls.specs.declared.hearing.Unheard.TheVariants as unheard

-- All of these bytes were written, or a write failed, and a beginning of them was; nothing was read.
pub record HasSent {A E : Type 0} (bytes : List ℕ) (old new : PipeState) (result : Result A E) : Type 0 where
  pub port : new.port ≡ old.port
  pub given : new.given ≡ old.given
  pub ended : new.ended ≡ old.ended
  pub read_faults : new.read_faults ≡ old.read_faults
  pub written : MatchResult result (λ _. new.written ≡ told_more old.written bytes) (λ _. IsTakenInPart old.written new.written bytes)
  pub cause : HasCause old.write_faults new.write_faults result

-- These bytes were read, and the end was answered now or it wasn't; nothing was written.
pub record HasGot (bytes : List ℕ) (end : Bool) (old new : PipeState) : Type 0 where
  pub port : new.port ≡ old.port
  pub written : new.written ≡ old.written
  pub write_faults : new.write_faults ≡ old.write_faults
  pub given : new.given ≡ told_more old.given bytes
  pub ended : new.ended ≡ told_end old.ended end

-- so many bytes were read that were wanted, or the end came before
pub record HasBytes (want : ℕ) (bytes : List ℕ) (old new : PipeState) : Type 0 where
  pub within : length bytes ≤ want
  pub whole : length bytes ≡ want → HasGot bytes false old new
  pub short : length bytes < want → HasGot bytes true old new
  pub kept : new.read_faults ≡ old.read_faults

-- fewer bytes were read than were wanted, and no end
pub record HasFewer (want : ℕ) (old new : PipeState) : Type 0 where
  pub bytes : List ℕ
  pub got : HasGot bytes false old new
  pub fewer : length bytes < want

-- what was read, where it is told why no more was
abbrev pub HeardSo : {A : Type 0} → ℕ → (A → List ℕ) → PipeState → PipeState → Result A Unheard → Type 0
HeardSo want bytes old new (Ok a) = HasBytes want (bytes a) old new
HeardSo want bytes old new (Err unheard.NetFault) = HasFewer want old new × Rose old.read_faults new.read_faults
HeardSo want bytes old new (Err unheard.NoMemory) = HasFewer want old new × (new.read_faults ≡ old.read_faults)

-- So many bytes are wanted.
pub record HasHeard {A : Type 0} (want : ℕ) (bytes : A → List ℕ) (old new : PipeState) (result : Result A Unheard) : Type 0 where
  pub so : HeardSo want bytes old new result

-- what it comes to that bytes weren't read
abbrev pub fault_of : Unheard → AskingFault
fault_of unheard.NetFault = faults.NetFault
fault_of unheard.NoMemory = faults.NoMemory

-- less than a frame was read, and so was the end or it wasn't
pub record HasPart (most : ℕ) (end : Bool) (old new : PipeState) : Type 0 where
  pub bytes : List ℕ
  pub got : HasGot bytes end old new
  pub partial : IsPartial most bytes

-- what was read of a frame
abbrev pub FrameSo : {A : Type 0} → ℕ → (A → List ℕ) → PipeState → PipeState → Result A AskingFault → Type 0
FrameSo most payload old new (Ok a) = HasGot (frame (payload a)) false old new × IsPayload most (payload a) × (new.read_faults ≡ old.read_faults)
FrameSo most payload old new (Err faults.Cut) = HasPart most true old new × (new.read_faults ≡ old.read_faults)
FrameSo most payload old new (Err (faults.SizeFault z)) = HasGot (size_bytes z) false old new × IsOutside most z × (new.read_faults ≡ old.read_faults)
FrameSo most payload old new (Err faults.NetFault) = HasPart most false old new × Rose old.read_faults new.read_faults
FrameSo most payload old new (Err faults.NoMemory) = HasPart most false old new × (new.read_faults ≡ old.read_faults)

-- One frame is wanted, whose payload has 1 to most bytes.
pub record HasHeardFrame {A : Type 0} (most : ℕ) (payload : A → List ℕ) (old new : PipeState) (result : Result A AskingFault) : Type 0 where
  pub so : FrameSo most payload old new result

-- These bytes were written, those were read, and the end was answered or it wasn't.
pub record HasMoved (sent read : List ℕ) (end : Bool) (old new : PipeState) : Type 0 where
  pub port : new.port ≡ old.port
  pub written : new.written ≡ told_more old.written sent
  pub given : new.given ≡ told_more old.given read
  pub ended : new.ended ≡ told_end old.ended end

-- no read and no write failed
pub record HasNoFault (old new : PipeState) : Type 0 where
  pub reads : new.read_faults ≡ old.read_faults
  pub writes : new.write_faults ≡ old.write_faults

-- A beginning was written, and where it is all and an answer is awaited, less than a frame was read; no read answered the end.
pub record HasMovedInPart (bytes : List ℕ) (waits : Bool) (most : ℕ) (old new : PipeState) : Type 0 where
  pub sent : List ℕ
  pub read : List ℕ
  pub moved : HasMoved sent read false old new
  pub begun : IsPrefix sent bytes
  pub behind : read ≢ [] → (sent ≡ bytes) × (waits ≡ true)
  pub partial : IsPartial most read

-- what was done on a pipe
abbrev pub TalkedSo : {A : Type 0} → (A → List ℕ) → List ℕ → Bool → ℕ → PipeState → PipeState → Result (Option A) AskingFault → Type 0
TalkedSo payload bytes waits most old new (Ok None) = (waits ≡ false) × HasMoved bytes [] false old new × HasNoFault old new
TalkedSo payload bytes waits most old new (Ok (Some a)) = (waits ≡ true) × IsPayload most (payload a) × HasMoved bytes (frame (payload a)) false old new × HasNoFault old new
TalkedSo payload bytes waits most old new (Err faults.Cut) =
    (waits ≡ true) × (read : List ℕ) × IsPartial most read × HasMoved bytes read true old new × HasNoFault old new
TalkedSo payload bytes waits most old new (Err (faults.SizeFault z)) = (waits ≡ true) × IsOutside most z × HasMoved bytes (size_bytes z) false old new × HasNoFault old new
TalkedSo payload bytes waits most old new (Err faults.NetFault) =
    HasMovedInPart bytes waits most old new × (Rose old.read_faults new.read_faults ⊎ Rose old.write_faults new.write_faults)
TalkedSo payload bytes waits most old new (Err faults.NoMemory) = HasMovedInPart bytes waits most old new × HasNoFault old new

-- Bytes were sent, and an answer is awaited or isn't.
pub record HasTalked {A : Type 0} (payload : A → List ℕ) (bytes : List ℕ) (waits : Bool) (most : ℕ) (old new : PipeState) (result : Result (Option A) AskingFault) : Type 0 where
  pub so : TalkedSo payload bytes waits most old new result
