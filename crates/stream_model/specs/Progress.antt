-- What becomes of bytes under a plan.
use Rattle.std.specs.Prelude.{◌≡◌, ⊤, ℕ, ◌+◌, ◌-◌, List, length, take, drop, nat_lt, if◌then◌else◌}
pub use Rattle.stream_model.specs.declared.outcome.MessageProgress.{MessageProgress}
pub use Rattle.stream_model.specs.declared.outcome.MessageProgress.TheVariants.{Wants, Whole, Refused}
use Rattle.stream_model.specs.declared.fault.StreamFault.TheVariants.{TooLong}
use Rattle.stream_model.specs.Plan.{Plan, needs, room, faulty, ends, message_plan}

-- Bytes that a plan reads from a place on, where a message may have so many bytes. An item that would pass them, and a size
-- that does, is too long as soon as the bytes before it are there
abbrev pub progress : ℕ → ℕ → Plan → List ℕ → MessageProgress
progress max at (needs count next) bytes =
    if nat_lt max (at + count) then Refused at TooLong
    else if nat_lt (length bytes) count then Wants (count - length bytes) else progress max (at + count) (next (take count bytes)) (drop count bytes)
progress max at (room count next) bytes = if nat_lt max (at + count) then Refused at TooLong else progress max at next bytes
progress max at (faulty fault) bytes = Refused at fault
progress max at ends bytes = Whole at

-- the bytes as a message from its first byte on
abbrev pub message_progress : ℕ → List ℕ → MessageProgress
message_progress max bytes = progress max 0 (message_plan max) bytes

-- nothing is wanted: the message is whole, or it has its fault
abbrev pub IsDecided : MessageProgress → Type 0
IsDecided (Wants _) = ⊥
IsDecided (Whole _) = ⊤
IsDecided (Refused _ _) = ⊤

-- it is settled at this place: there the message ends, or has its fault
abbrev pub IsDecidedAt : ℕ → MessageProgress → Type 0
IsDecidedAt n (Wants _) = ⊥
IsDecidedAt n (Whole behind) = behind ≡ n
IsDecidedAt n (Refused at _) = at ≡ n
