-- When the count of a connection's faults rises, and how many bytes a call moves.
use Rattle.std.specs.Prelude.{◌≡◌, ℕ, ◌≤◌, List, [], ◌∷◌}
use Rattle.streams.specs.Cause.{Rose}
use Rattle.outside.specs.declared.answers.Taken.{Taken}
use Rattle.outside.specs.declared.answers.Taken.TheVariants.{Bytes, End, NotYet, Failed, NoMemory}

-- the count rose where the call failed, and nowhere else
abbrev pub CountsItsFault : Taken → ℕ → ℕ → Type 0
CountsItsFault Failed before now = (before ≤ now) × Rose before now
CountsItsFault (Bytes count) before now = now ≡ before
CountsItsFault End before now = now ≡ before
CountsItsFault NotYet before now = now ≡ before
CountsItsFault NoMemory before now = now ≡ before

-- bytes that were moved are one at least, and at most so many
abbrev pub MovesWithin : ℕ → Taken → Type 0
MovesWithin most (Bytes count) = (1 ≤ count) × (count ≤ most)
MovesWithin most _ = Unit {0}

-- the length of what was lent, where bytes were moved
abbrev pub length_lent : ℕ → Taken → List ℕ
length_lent lent (Bytes count) = lent ∷ []
length_lent lent _ = []
