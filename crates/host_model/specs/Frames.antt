-- The split of a stream into frames (Thrift framed transport).
use Rattle.std.specs.Prelude.{◌≡◌, ℕ, ℤ, pos, ◌≤◌, ◌<ℤ◌, ◌⊎◌, FitsSigned, List, ◌++◌, length}
use Rattle.std.specs.Int.{w32, to_be_bytes, cast_unsigned}
use Rattle.std.specs.List.{flat_map, AllByRecursion}

-- a frame: the payload's length in four bytes, most significant first, and the payload
abbrev pub frame : List ℕ → List ℕ
frame payload = to_be_bytes w32 (length payload) ++ payload

-- a payload has 1 to max bytes
pub record IsPayload (max : ℕ) (payload : List ℕ) : Type 0 where
  pub some : 1 ≤ length payload
  pub within : length payload ≤ max

-- each of these is one
abbrev pub ArePayloads : ℕ → List (List ℕ) → Type 0
ArePayloads max payloads = AllByRecursion (IsPayload max) payloads

-- no whole frame stands at the front of the bytes
abbrev pub IsRest : ℕ → List ℕ → Type 0
IsRest max bytes = (payload more : List ℕ) → IsPayload max payload → bytes ≡ frame payload ++ more → ⊥

-- the bytes are the frames of these payloads, one behind the other, and a rest with no whole frame at its front
pub record Frames (max : ℕ) (bytes : List ℕ) (payloads : List (List ℕ)) (rest : List ℕ) : Type 0 where
  pub whole : bytes ≡ flat_map frame payloads ++ rest
  pub each : ArePayloads max payloads
  pub no_more : IsRest max rest

-- the four bytes of a size, two's complement, most significant first
abbrev pub size_bytes : ℤ → List ℕ
size_bytes z = to_be_bytes w32 (cast_unsigned w32 z)

-- a size of four bytes that no frame has: below 1, or above max
abbrev pub IsOutside : ℕ → ℤ → Type 0
IsOutside max z = FitsSigned w32 z × ((z <ℤ pos 1) ⊎ (pos max <ℤ z))

-- where a whole size stands at the front of the bytes, it is 1 to max
abbrev pub HasNoBadSize : ℕ → List ℕ → Type 0
HasNoBadSize max bytes = (z : ℤ) (more : List ℕ) → IsOutside max z → bytes ≡ size_bytes z ++ more → ⊥

-- less than a frame: no whole one, and no size that no frame has
pub record IsPartial (max : ℕ) (bytes : List ℕ) : Type 0 where
  pub rest : IsRest max bytes
  pub size : HasNoBadSize max bytes
