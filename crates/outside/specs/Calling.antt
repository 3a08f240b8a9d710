-- What a dialled port answers with, and what is kept of the pipes that were hung up.
use Rattle.std.specs.Prelude.{◌≡◌, ℕ, Bool, false, ◌||◌, nat_lt, if◌then◌else◌, List, [], ◌∷◌, ◌++◌, Option, None, Some, IfSome}
use Rattle.streams.specs.Cause.{next_count}
use Rattle.streams.specs.Told.{StartsEmpty}
use Rattle.outside.specs.Binding.{HandedOut}
use Rattle.outside.specs.Pipes.{PipeState}

-- a pipe that was hung up: its port, what was written to it and what was read of it, and whether a read answered the end
pub record PastPipe : Type 0 where
  pub port : ℕ
  pub written : List ℕ
  pub read : List ℕ
  pub ended : Bool

-- what a binder tells of calls: the pipes that were hung up, and how many links and pipes it has handed out and taken back
pub record Dialled : Type 0 where
  pub called : Option (List PastPipe)
  pub handed : HandedOut

-- no read has answered the end yet, and that is told where this is
abbrev pub StartsUnended : {A : Type 0} → Option A → Option Bool → Type 0
StartsUnended None ended = IfSome ended (λ is. is ≡ false)
StartsUnended (Some told) ended = ended ≡ Some false

-- Nothing has happened on a pipe to this port, nor failed; it tells where what was called is told.
pub record StartsCalling (called : Option (List PastPipe)) (port : ℕ) (pipe : PipeState) : Type 0 where
  pub port_is : pipe.port ≡ port
  pub written : StartsEmpty called pipe.written
  pub given : StartsEmpty called pipe.given
  pub ended : StartsUnended called pipe.ended
  pub reads : pipe.read_faults ≡ 0
  pub writes : pipe.write_faults ≡ 0

-- the pipes that were hung up so far, and one to this port, where all that it did is told
abbrev pub called_with : List PastPipe → ℕ → Option (List ℕ) → Option (List ℕ) → Option Bool → Option (List PastPipe)
called_with called port (Some written) (Some read) (Some ended) = Some (called ++ record { port = port; written = written; read = read; ended = ended } ∷ [])
called_with called port _ _ _ = None

-- the pipes that were hung up so far, and this one, where both are told
abbrev pub told_called : Option (List PastPipe) → PipeState → Option (List PastPipe)
told_called None pipe = None
told_called (Some called) pipe = called_with called pipe.port pipe.written pipe.given pipe.ended

-- one fault more, where a read or a write of the pipe has failed
abbrev pub next_if_either : ℕ → ℕ → ℕ → ℕ
next_if_either reads writes count = if nat_lt 0 reads || nat_lt 0 writes then next_count count else count
