-- The places of files in memory: where the first of a name stands, and how it is looked for and changed.
use Rattle.std.specs.Prelude.{◌≡◌, ℕ, zero, suc, ◌+◌, ◌≤◌, List, [], ◌∷◌, length, drop, Bool, true, false, None}
use Rattle.std.specs.Str.{bytes_eq}
use Rattle.streams.specs.Files.{File, content_of}
use Rattle.streams.specs.Making.{with_file}
use Rattle.streams.specs.Memory.{FilesState}

-- the file at this place is the first of this name
abbrev pub IsFirstAt : List File → List ℕ → ℕ → Type 0
IsFirstAt [] name at = ⊥
IsFirstAt (file ∷ files) name zero = bytes_eq file.name name ≡ true
IsFirstAt (file ∷ files) name (suc at) = (bytes_eq file.name name ≡ false) × IsFirstAt files name at

-- none of the files before this place has this name
pub record HasPassed (files : List File) (name : List ℕ) (at : ℕ) : Type 0 where
  pub within : at ≤ length files
  pub found : content_of files name ≡ content_of (drop at files) name
  pub place : (i : ℕ) → IsFirstAt (drop at files) name i → IsFirstAt files name (at + i)

-- the first file of this name has these bytes now, where there is one, and nothing else has changed
abbrev pub PutsFile : FilesState → FilesState → List ℕ → List ℕ → Bool → Type 0
PutsFile old new name bytes true = new ≡ record old { files = with_file old.files name bytes }
PutsFile old new name bytes false = (new ≡ old) × (content_of old.files name ≡ None)
