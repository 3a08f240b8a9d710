-- What a read makes, on both sides: of a connection's phase, and of the machine's connection.
use Rattle.std.specs.Prelude.{◌≡◌, ℕ, ℤ, Some, List, ◌++◌}
use Rattle.host_model.specs.declared.cause.EndCause.TheVariants.{SizeFault}
use Rattle.conn_state.specs.Phase.{Phase, sizing, framing, ready, ended}
use Rattle.machine_model.specs.Loop.{LoopConn, part, bad_size, whole, read_more}
use Rattle.machine_model.specs.Plain.{progress_by}
use Rattle.conn_refinement.specs.Phases.{IsOpenTied, IsFraming, IsLean}

-- a phase in which the frame that was under way goes on
abbrev pub GoesOnFrom : Phase → Phase → Type 0
GoesOnFrom (sizing bytes) new = IsLean new
GoesOnFrom (framing size bytes) new = IsFraming new
GoesOnFrom _ new = ⊥

-- a phase after a read, with so many frames, is that of the connection that has made the same progress
abbrev pub MakesPhase : ℕ → LoopConn → List ℕ → Phase → ℕ → Phase → Type 0
MakesPhase max conn bytes old frames (ready number payload) =
    IsFraming old × (progress_by max (conn.held ++ bytes) ≡ Some (whole payload))
    × IsOpenTied max (record { frames = frames; phase = ready number payload }) (read_more conn bytes (whole payload))
MakesPhase max conn bytes old frames (ended cause) = (z : ℤ) × IsLean old × (cause ≡ SizeFault z) × (progress_by max (conn.held ++ bytes) ≡ Some (bad_size z))
MakesPhase max conn bytes old frames phase =
    GoesOnFrom old phase × (progress_by max (conn.held ++ bytes) ≡ Some part) × IsOpenTied max (record { frames = frames; phase = phase }) (read_more conn bytes part)
