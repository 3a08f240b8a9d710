-- What every run of a connection keeps: the bytes taken are frames, the payloads handed out, and what is held.
use Rattle.std.specs.Prelude.{◌≡◌, ◌≢◌, ℕ, ℤ, ◌+◌, ◌<◌, ◌≤◌, ◌⊎◌, List, [], ◌∷◌, ◌++◌, length}
use Rattle.std.specs.List.{enumerate_from}
use Rattle.host_model.specs.declared.cause.EndCause.{EndCause}
use Rattle.host_model.specs.declared.cause.EndCause.TheVariants.{End, Cut, SizeFault, Envelope}
use Rattle.host_model.specs.Frames.{Frames, frame, size_bytes, IsPayload, IsOutside, HasNoBadSize, IsPartial}
use Rattle.conn_state.specs.Phase.{Phase, ConnView, sizing, held, framing, ready, waiting, writing, ended, bytes_held}
use Rattle.conn_state.specs.Run.{EachIsByte}

-- each payload was handed out, under its number
abbrev pub AllGiven : List (List ℕ) → List (ℕ × List ℕ) → Type 0
AllGiven payloads handed_out = handed_out ≡ enumerate_from 0 payloads

-- each payload but the last was handed out, under its number; this is the last, and its number
pub record LastIsLeft (payloads : List (List ℕ)) (handed_out : List (ℕ × List ℕ)) (number : ℕ) (payload : List ℕ) : Type 0 where
  pub before : List (List ℕ)
  pub last : payloads ≡ before ++ payload ∷ []
  pub numbered : number ≡ length before
  pub handed : AllGiven before handed_out

-- a payload was whole and not handed out when the connection was ended from outside, so it is lost
pub record OneIsLost (payloads : List (List ℕ)) (rest : List ℕ) (handed_out : List (ℕ × List ℕ)) : Type 0 where
  pub number : ℕ
  pub payload : List ℕ
  pub left : LastIsLeft payloads handed_out number payload
  pub nothing_behind : rest ≡ []

-- the size of a frame that max allows, and fewer bytes of its payload
pub record IsPartOfFrame (max size : ℕ) (bytes : List ℕ) : Type 0 where
  pub some : 1 ≤ size
  pub within : size ≤ max
  pub fewer : length bytes < size

-- what a phase holds is less than a size, or a size that max allows and less than its payload
abbrev pub HoldsLess : ℕ → Phase → Type 0
HoldsLess max (sizing bytes) = (length bytes < 4) × EachIsByte bytes
HoldsLess max (held size) = IsPartOfFrame max size []
HoldsLess max (framing size bytes) = IsPartOfFrame max size bytes
HoldsLess max _ = ⊥

-- what a cause says of the payloads, the rest behind them, and what was handed out
abbrev pub CauseSays : ℕ → List (List ℕ) → List ℕ → List (ℕ × List ℕ) → EndCause → Type 0
CauseSays max payloads rest handed_out End = AllGiven payloads handed_out × (rest ≡ [])
CauseSays max payloads rest handed_out Cut =
    AllGiven payloads handed_out × (rest ≢ []) × HasNoBadSize max rest
CauseSays max payloads rest handed_out (SizeFault size) =
    AllGiven payloads handed_out × (rest ≡ size_bytes size) × IsOutside max size
CauseSays max payloads rest handed_out (Envelope fault) =
    AllGiven payloads handed_out × (rest ≡ []) × (0 < length payloads)
CauseSays max payloads rest handed_out _ =
    (AllGiven payloads handed_out ⊎ OneIsLost payloads rest handed_out) × HasNoBadSize max rest

-- what a phase says of them
abbrev pub PhaseSays : ℕ → List (List ℕ) → List ℕ → List (ℕ × List ℕ) → Phase → Type 0
PhaseSays max payloads rest handed_out (sizing bytes) =
    AllGiven payloads handed_out × (rest ≡ bytes_held (sizing bytes)) × HoldsLess max (sizing bytes)
PhaseSays max payloads rest handed_out (held size) =
    AllGiven payloads handed_out × (rest ≡ bytes_held (held size)) × HoldsLess max (held size)
PhaseSays max payloads rest handed_out (framing size bytes) =
    AllGiven payloads handed_out × (rest ≡ bytes_held (framing size bytes)) × HoldsLess max (framing size bytes)
PhaseSays max payloads rest handed_out (ready number payload) =
    LastIsLeft payloads handed_out number payload × (rest ≡ [])
PhaseSays max payloads rest handed_out (waiting number) =
    AllGiven payloads handed_out × (rest ≡ []) × (length payloads ≡ number + 1)
PhaseSays max payloads rest handed_out (writing left) = AllGiven payloads handed_out × (rest ≡ [])
PhaseSays max payloads rest handed_out (ended cause) = CauseSays max payloads rest handed_out cause

-- The bytes taken split into the payloads of whole frames and a rest, as many as are counted, and the phase says which
-- of them were handed out and what the rest is.
pub record Splits (max : ℕ) (bytes : List ℕ) (handed_out : List (ℕ × List ℕ)) (view : ConnView) : Type 0 where
  pub payloads : List (List ℕ)
  pub rest : List ℕ
  pub frames : Frames max bytes payloads rest
  pub counted : view.frames ≡ length payloads
  pub stands : PhaseSays max payloads rest handed_out view.phase

-- bytes that are less than a frame are held by the phase, and no frame more is counted
pub record IsLessThanFrame (max frames : ℕ) (bytes : List ℕ) (now : ℕ) (phase : Phase) : Type 0 where
  pub partial : IsPartial max bytes
  pub same : bytes ≡ bytes_held phase
  pub holds : HoldsLess max phase
  pub counted : now ≡ frames

-- bytes that are a frame are counted as one more, whose payload is whole under the number of frames before it
pub record IsOneFrame (max frames : ℕ) (bytes : List ℕ) (now number : ℕ) (payload : List ℕ) : Type 0 where
  pub allowed : IsPayload max payload
  pub same : bytes ≡ frame payload
  pub numbered : number ≡ frames
  pub counted : now ≡ frames + 1

-- bytes that are a size that no frame has
pub record IsBadSize (max frames : ℕ) (bytes : List ℕ) (now : ℕ) (size : ℤ) : Type 0 where
  pub outside : IsOutside max size
  pub same : bytes ≡ size_bytes size
  pub counted : now ≡ frames

-- The bytes held, with a piece behind them, are less than a frame, or just one frame, or just one size that no frame
-- has: a piece never goes past the size or the frame that is under way.
abbrev pub StaysWithin : ℕ → ℕ → List ℕ → ℕ → Phase → Type 0
StaysWithin max frames bytes now (sizing part) = IsLessThanFrame max frames bytes now (sizing part)
StaysWithin max frames bytes now (held size) = IsLessThanFrame max frames bytes now (held size)
StaysWithin max frames bytes now (framing size part) = IsLessThanFrame max frames bytes now (framing size part)
StaysWithin max frames bytes now (ready number payload) = IsOneFrame max frames bytes now number payload
StaysWithin max frames bytes now (ended (SizeFault size)) = IsBadSize max frames bytes now size
StaysWithin max frames bytes now _ = ⊥
