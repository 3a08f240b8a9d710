-- What is handed on of a stream without frames to who reads frames: a frame of each message, and a tail that comes to the same as the rest.
use Rattle.std.specs.Prelude.{ℕ, Bool, if◌then◌else◌, List, [], ◌∷◌, ◌++◌, take}
use Rattle.std.specs.List.{flat_map}
use Rattle.host_model.specs.Frames.{frame}
use Rattle.stream_model.specs.declared.fault.StreamFault.{StreamFault}
use Rattle.stream_model.specs.declared.fault.StreamFault.TheVariants.{Envelope, Body, TooLong}
use Rattle.stream_model.specs.Progress.{MessageProgress, Wants, Whole, Refused, message_progress}
use Rattle.stream_model.specs.Messages.{split_of}

-- a size that no frame has
abbrev pub no_size : List ℕ
no_size = 0 ∷ 0 ∷ 0 ∷ 0 ∷ []

-- of a rest that has a fault: of a head the frame of what was read of it, which has the head's fault too; else a size that no frame has
abbrev pub tail_at : List ℕ → ℕ → StreamFault → List ℕ
tail_at rest at (Envelope _) = frame (take at rest)
tail_at rest at (Body _) = no_size
tail_at rest at TooLong = no_size

-- of a rest of which a byte has come: where it has no fault nothing, and once the input has ended the first byte of a size, so that it is cut off
abbrev pub tail_by : List ℕ → Bool → MessageProgress → List ℕ
tail_by rest ended (Refused at fault) = tail_at rest at fault
tail_by rest ended (Wants _) = if ended then 0 ∷ [] else []
tail_by rest ended (Whole _) = []

-- of an empty rest nothing
abbrev pub tail : ℕ → List ℕ → Bool → List ℕ
tail max [] ended = []
tail max (byte ∷ bytes) ended = tail_by (byte ∷ bytes) ended (message_progress max (byte ∷ bytes))

-- of all bytes that have come, where the input has ended or may go on
abbrev pub handed : ℕ → List ℕ → Bool → List ℕ
handed max bytes ended = flat_map frame (split_of max bytes).0 ++ tail max (split_of max bytes).1 ended
