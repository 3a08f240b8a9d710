-- What each call makes of a connection.
use Rattle.std.specs.Prelude.{ℕ, ◌+◌, ℤ, pos, negsuc, nat_lt, nat_le, ◌&&◌, if◌then◌else◌, List, [], ◌∷◌, ◌++◌, length}
use Rattle.std.specs.Int.{w32, from_be_bytes, cast_signed}
use Rattle.streams.specs.declared.outcomes.Settled.{Settled}
use Rattle.streams.specs.declared.outcomes.Settled.TheVariants.{Reply, Nothing, Close, NoMemory as NoRoom}
use Rattle.host_model.specs.declared.cause.EndCause.{EndCause}
use Rattle.host_model.specs.declared.cause.EndCause.TheVariants.{End, Cut, SizeFault, Envelope, ReadFault, WriteFault, NoMemory, Stopped}
use Rattle.conn_state.specs.Phase.{Phase, ConnView, sizing, held, framing, ready, writing, ended}

-- a whole size: that of a frame, or one below 1 or above max, which ends the connection
abbrev pub after_size : ℕ → ℤ → Phase
after_size max (pos size) = if nat_le 1 size && nat_le size max then held size else ended (SizeFault (pos size))
after_size max (negsuc size) = ended (SizeFault (negsuc size))

-- the bytes of a size, fewer than four or all of them
abbrev pub after_size_bytes : ℕ → List ℕ → Phase
after_size_bytes max bytes =
    if nat_lt (length bytes) 4 then sizing bytes else after_size max (cast_signed w32 (from_be_bytes w32 bytes))

-- the bytes of a payload, fewer than its size or all of them
abbrev pub after_payload_bytes : ℕ → ℕ → List ℕ → ConnView
after_payload_bytes frames size bytes =
    if nat_lt (length bytes) size then record { frames = frames; phase = framing size bytes }
    else record { frames = frames + 1; phase = ready frames bytes }

-- bytes were taken
abbrev pub after_bytes : ℕ → ℕ → Phase → List ℕ → ConnView
after_bytes max frames (sizing held_bytes) bytes =
    record { frames = frames; phase = after_size_bytes max (held_bytes ++ bytes) }
after_bytes max frames (framing size held_bytes) bytes = after_payload_bytes frames size (held_bytes ++ bytes)
after_bytes max frames phase bytes = record { frames = frames; phase = phase }

-- bytes were taken, said of the view
abbrev pub after_took : ℕ → ConnView → List ℕ → ConnView
after_took max view bytes = after_bytes max view.frames view.phase bytes

-- a frame was admitted
abbrev pub after_admission : Phase → Phase
after_admission (held size) = framing size []
after_admission phase = phase

-- a frame was settled
abbrev pub after_answer : Settled → Phase
after_answer (Reply reply) = writing reply
after_answer Nothing = sizing []
after_answer (Close fault) = ended (Envelope fault)
after_answer NoRoom = ended NoMemory

-- bytes of a reply were written, and these are left
abbrev pub after_wrote : List ℕ → Phase
after_wrote [] = sizing []
after_wrote (byte ∷ left) = writing (byte ∷ left)

-- the input ended
abbrev pub after_end_of_input : Phase → Phase
after_end_of_input (sizing []) = ended End
after_end_of_input _ = ended Cut

-- a cause that comes from outside the connection's bytes
abbrev pub IsFromOutside : EndCause → Type 0
IsFromOutside ReadFault = Unit {0}
IsFromOutside WriteFault = Unit {0}
IsFromOutside NoMemory = Unit {0}
IsFromOutside Stopped = Unit {0}
IsFromOutside _ = ⊥
