-- What is known of a port that was asked.
use Rattle.std.specs.Prelude.{◌≡◌, ◌≢◌, ◌⊎◌, ⊤, ℕ, Bool, true, false, List, [], ◌∷◌, ◌++◌, Option, None, Some, Result, Ok, Err}
use Rattle.streams.specs.Cause.{Rose}
use Rattle.outside.specs.Binding.{there_and_back}
use Rattle.outside.specs.Calling.{PastPipe, Dialled}
use Rattle.host_model.specs.Conversation.{IsPrefix}
use Rattle.host_model.specs.Frames.{frame, size_bytes, IsPayload, IsOutside, IsPartial}
use Rattle.port_calls.specs.declared.asking_fault.AskingFault.{AskingFault}
use Rattle.port_calls.specs.declared.asking_fault.AskingFault.TheVariants as faults

-- what is kept of a pipe to this port on which all of these bytes were written, and those were read
abbrev pub exchanged : ℕ → List ℕ → List ℕ → Bool → PastPipe
exchanged port sent read ended = record { port = port; written = sent; read = read; ended = ended }

-- It was broken off: a beginning was written, and where it is all and an answer is awaited, less than a frame was read. No read answered the end.
pub record IsBrokenExchange (port : ℕ) (sent : List ℕ) (waits : Bool) (most : ℕ) (pipe : PastPipe) : Type 0 where
  pub port_is : pipe.port ≡ port
  pub begun : IsPrefix pipe.written sent
  pub behind : pipe.read ≢ [] → (pipe.written ≡ sent) × (waits ≡ true)
  pub partial : IsPartial most pipe.read
  pub not_ended : pipe.ended ≡ false

-- What came of it by itself: an answer comes where one is awaited, and there alone, and its size is one that a frame has, or isn't.
abbrev pub MayCome : {A : Type 0} → (A → List ℕ) → Bool → ℕ → Result (Option A) AskingFault → Type 0
MayCome payload waits most (Ok None) = waits ≡ false
MayCome payload waits most (Ok (Some a)) = (waits ≡ true) × IsPayload most (payload a)
MayCome payload waits most (Err faults.Cut) = waits ≡ true
MayCome payload waits most (Err (faults.SizeFault z)) = (waits ≡ true) × IsOutside most z
MayCome payload waits most (Err faults.NetFault) = ⊤
MayCome payload waits most (Err faults.NoMemory) = ⊤

-- What happened on the pipe: the bytes were written, and one frame was read, or nothing, or a size that no frame has, or less than a frame and the end.
abbrev pub PipeTells : {A : Type 0} → (A → List ℕ) → ℕ → List ℕ → Bool → ℕ → Result (Option A) AskingFault → PastPipe → Type 0
PipeTells payload port sent waits most (Ok None) pipe = pipe ≡ exchanged port sent [] false
PipeTells payload port sent waits most (Ok (Some a)) pipe = pipe ≡ exchanged port sent (frame (payload a)) false
PipeTells payload port sent waits most (Err faults.Cut) pipe = (read : List ℕ) × IsPartial most read × (pipe ≡ exchanged port sent read true)
PipeTells payload port sent waits most (Err (faults.SizeFault z)) pipe = pipe ≡ exchanged port sent (size_bytes z) false
PipeTells payload port sent waits most (Err faults.NetFault) pipe = IsBrokenExchange port sent waits most pipe
PipeTells payload port sent waits most (Err faults.NoMemory) pipe = IsBrokenExchange port sent waits most pipe

-- no pipe may have been dialled
abbrev pub MayBeUndialled : {A : Type 0} → Result A AskingFault → Type 0
MayBeUndialled (Err faults.NetFault) = ⊤
MayBeUndialled (Err faults.NoMemory) = ⊤
MayBeUndialled _ = ⊥

-- one pipe more was hung up, of which this holds, where the pipes are told
abbrev pub TellsOneMore : Option (List PastPipe) → Option (List PastPipe) → (PastPipe → Type 0) → Type 0
TellsOneMore None now P = now ≡ None
TellsOneMore (Some before) now P = (pipe : PastPipe) × (now ≡ Some (before ++ pipe ∷ [])) × P pipe

-- one pipe was dialled and hung up again, of which this holds, where that is told; nothing else was dialled
pub record HungUpOne (before now : Dialled) (P : PastPipe → Type 0) : Type 0 where
  pub once : now.handed ≡ there_and_back before.handed
  pub told : TellsOneMore before.called now.called P

-- A port was asked: these bytes were sent to it, and an answer of 1 to most bytes is awaited or isn't. One pipe was dialled, to that port, and hung up, and what was
-- written to it and read of it says just what came of it; only where the net failed or memory ran out, there may be none.
pub record MeansAsked {A : Type 0} (payload : A → List ℕ) (before now : Dialled) (port : ℕ) (sent : List ℕ) (waits : Bool) (most : ℕ) (result : Result (Option A) AskingFault) : Type 0 where
  pub comes : MayCome payload waits most result
  pub so : HungUpOne before now (PipeTells payload port sent waits most result) ⊎ ((now ≡ before) × MayBeUndialled result)

-- the net is said to have failed only where the count of faults rose, and with any other answer it is as before
pub record HasAskingCause {A : Type 0} (before now : ℕ) (result : Result A AskingFault) : Type 0 where
  pub failed : result ≡ Err faults.NetFault → Rose before now
  pub kept : result ≢ Err faults.NetFault → now ≡ before
