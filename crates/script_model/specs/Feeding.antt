-- How the pieces in which bytes arrive cut what is read of a connection.
use Rattle.std.specs.Prelude.{◌≡◌, ℕ, ◌+◌, ◌-◌, ◌<◌, ◌≤◌, ◌⊎◌, min, nat_lt, if◌then◌else◌, List, [], ◌∷◌, ◌++◌, length}
use Rattle.std.specs.Int.{w32, to_be_bytes}
use Rattle.streams.specs.declared.marks.Mark.{Mark}
use Rattle.streams.specs.declared.marks.Mark.TheVariants.{Read}
use Rattle.host_model.specs.Frames.{Frames}
use Rattle.host_model.specs.Marks.{marks_of, input}

-- `count` bytes more complete the payload whose size and first bytes these are
pub record IsInPayload (max : ℕ) (rest : List ℕ) (count : ℕ) : Type 0 where
  pub size : ℕ
  pub bytes : List ℕ
  pub same : rest ≡ to_be_bytes w32 size ++ bytes
  pub within : size ≤ max
  pub all : length bytes + count ≡ size

-- `count` bytes more complete the size or the payload under way
abbrev pub Completes : ℕ → List ℕ → ℕ → Type 0
Completes max rest count = (0 < count) × ((length rest + count ≡ 4) ⊎ IsInPayload max rest count)

-- where the piece ends in which byte number `at` stands, by the pieces' ends
abbrev pub piece_end : List ℕ → ℕ → ℕ
piece_end [] at = at
piece_end (end ∷ ends) at = if nat_lt at end then end else piece_end ends at

-- After what was read, these bytes are read, one at least: as many as are missing of the size or the payload under way, at most 65,536, and at most those
-- that are left of the piece.
pub record TakesItsPart (max : ℕ) (ends read bytes : List ℕ) : Type 0 where
  pub payloads : List (List ℕ)
  pub rest : List ℕ
  pub frames : Frames max read payloads rest
  pub missing : ℕ
  pub completes : Completes max rest missing
  pub some : 0 < length bytes
  pub count : length bytes ≡ min (min missing 65536) (piece_end ends (length read) - length read)

-- each read of connection c takes its part of the pieces with these ends
abbrev pub EachReadTakesItsPart : (max c : ℕ) (ends : List ℕ) → List Mark → Type 0
EachReadTakesItsPart max c ends tape =
    (front back : List Mark) (bytes : List ℕ) → tape ≡ front ++ Read c bytes ∷ back → TakesItsPart max ends (input (marks_of c front)) bytes
