-- A buffer in front of a sink.
use Rattle.std.specs.Prelude.{◌≡◌, ℕ, suc, ◌+◌, ◌≤◌, List, [], ◌∷◌, ◌++◌, length, Option, None, Some}
use Rattle.streams.specs.Content.{told_more}

-- how many bytes are held at most
abbrev pub most_held : ℕ
most_held = 65536

-- What a line does to a buffer, in front of a sink that had taken `before`: no more is held than there is room for; and where there is room for the
-- line too, the sink has taken nothing, and the line stands behind what was held.
pub record EntersBuffer (before now : Option (List ℕ)) (held_before held line : List ℕ) : Type 0 where
  pub bound : length held ≤ most_held
  pub passes_nothing : length held_before + length line ≤ most_held → (now ≡ before) × (held ≡ held_before ++ line)

-- A sink with a buffer in front: the sink, and as it was when a line began; what it has taken since then, and what is held.
pub record BufferState (K : Type 0) : Type 0 where
  pub sink : K
  pub start : K
  pub passed : List ℕ
  pub held : List ℕ

-- The sink has taken what was passed on since a line began. No more bytes are held than may be; and nothing was passed on for which there was room.
pub record IsBuffer (start now : Option (List ℕ)) (passed held : List ℕ) : Type 0 where
  pub taken : now ≡ told_more start passed
  pub bound : length held ≤ most_held
  pub passes_late : length passed + length held ≤ most_held → passed ≡ []

-- what a sink has taken, told so that it shows where it ends: a number in front is that of its bytes and one more, and 0 where nothing is told
abbrev pub measured : Option (List ℕ) → List ℕ
measured None = 0 ∷ []
measured (Some bytes) = suc (length bytes) ∷ bytes

-- what a sink had taken when a line began, and behind it all that went into its buffer, be it passed on or held
abbrev pub entered_since : (start : Option (List ℕ)) (passed held : List ℕ) → List ℕ
entered_since start passed held = measured start ++ (passed ++ held)

-- of what was held a sink took these bytes at the front, and the others are held still
pub record PassesOn (before now : Option (List ℕ)) (held_before held bytes : List ℕ) : Type 0 where
  pub taken : now ≡ told_more before bytes
  pub parts : held_before ≡ bytes ++ held
