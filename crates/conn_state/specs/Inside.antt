-- What the state that a connection keeps stands for.
use Rattle.std.specs.Prelude.{◌<◌, ◌≤◌, length, drop}
use Rattle.std.specs.Vec.{vec_capacity}
use Rattle.conn_state.specs.declared.machine.State.{State}
use Rattle.conn_state.specs.declared.machine.State.TheVariants.{ReadingSize, Held, ReadingFrame, Ready, Waiting, Writing, Ended}
use Rattle.conn_state.specs.Phase.{Phase, sizing, held, framing, ready, waiting, writing, ended}

-- what a state is doing
abbrev pub phase_of : State → Phase
phase_of (ReadingSize bytes) = sizing bytes
phase_of (Held size) = held size
phase_of (ReadingFrame size payload) = framing size payload.items
phase_of (Ready number payload) = ready number payload.items
phase_of (Waiting number) = waiting number
phase_of (Writing reply done) = writing (drop done reply)
phase_of (Ended cause) = ended cause

-- A size that is held is whole only where it was looked at; a payload under way isn't whole and has room for the rest of
-- it; a reply isn't written past its end.
abbrev pub IsSoundState : State → Type 0
IsSoundState (ReadingSize bytes) = length bytes < 4
IsSoundState (Held size) = 0 < size
IsSoundState (ReadingFrame size payload) = (length payload.items < size) × (size ≤ vec_capacity payload)
IsSoundState (Ready number payload) = Unit {0}
IsSoundState (Waiting number) = Unit {0}
IsSoundState (Writing reply done) = done ≤ length reply
IsSoundState (Ended cause) = Unit {0}
