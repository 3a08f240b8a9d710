-- How a run stops: each connection that is open ends, by rising number, since the host stops.
use Rattle.std.specs.Prelude.{◌≡◌, ℕ, zero, suc, ◌<◌, Option, None, Some, List, [], ◌∷◌, ◌++◌, map, length, slice_get}
use Rattle.streams.specs.declared.marks.Mark.{Mark}
use Rattle.streams.specs.declared.marks.Mark.TheVariants.{Closed}
use Rattle.host_model.specs.declared.cause.EndCause.{EndCause}
use Rattle.host_model.specs.declared.cause.EndCause.TheVariants.{Stopped}
use Rattle.machine_model.specs.Loop.{LoopConn, Loop, gives_up}
use Rattle.machine_model.specs.Machine.{MachineEvent, on_conn}

-- a number, where its connection has no cause
abbrev pub if_open : Option EndCause → ℕ → List ℕ
if_open None c = c ∷ []
if_open (Some cause) c = []

-- which of the first n connections are open, by rising number
abbrev pub open_below : (ℕ → LoopConn) → ℕ → List ℕ
open_below conns zero = []
open_below conns (suc n) = open_below conns n ++ if_open (conns n).cause n

-- which connections of a loop are open, by rising number
abbrev pub open_numbers : Loop → List ℕ
open_numbers loop = open_below loop.conns loop.count

-- connection c is given up, since the host stops
abbrev pub stop_of : ℕ → MachineEvent
stop_of c = on_conn (gives_up c Stopped)

-- each open connection of a loop is
abbrev pub stops_of : Loop → List MachineEvent
stops_of loop = map stop_of (open_numbers loop)

-- a cause, or that of a stop
abbrev pub cause_or_stop : Option EndCause → EndCause
cause_or_stop None = Stopped
cause_or_stop (Some cause) = cause

-- A run that stopped with this loop has this tape and these causes: the connections that were open were closed by rising number, and ended as Stopped; the
-- others had ended before.
pub record IsStopped (loop : Loop) (tape : List Mark) (causes : List EndCause) : Type 0 where
  pub closed : tape ≡ loop.tape ++ map Closed (open_numbers loop)
  pub count : length causes ≡ loop.count
  pub each : (c : ℕ) → c < loop.count → slice_get causes c ≡ Some (cause_or_stop (loop.conns c).cause)
