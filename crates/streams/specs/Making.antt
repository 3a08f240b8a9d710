-- What becomes of a store of files where a file is made, and where its sink is handed back.
use Rattle.std.specs.Prelude.{◌≡◌, ℕ, List, [], ◌∷◌, Option, Some, None, IsSome, if◌then◌else◌}
use Rattle.std.specs.Str.{bytes_eq}
use Rattle.streams.specs.Files.{File, OnTold}
use Rattle.streams.specs.Told.{StartsEmpty}

-- the files once the first of this name holds these bytes; where there is none of this name, it stands behind them
abbrev pub with_file : List File → List ℕ → List ℕ → List File
with_file [] name bytes = record { name = name; bytes = bytes } ∷ []
with_file (file ∷ files) name bytes = if bytes_eq file.name name then record file { bytes = bytes } ∷ files else file ∷ with_file files name bytes

-- the same, where both the files and the bytes are told
abbrev pub told_with_file : Option (List File) → List ℕ → Option (List ℕ) → Option (List File)
told_with_file None name bytes = None
told_with_file (Some files) name None = None
told_with_file (Some files) name (Some bytes) = Some (with_file files name bytes)

-- where the files are told, there is one of this name
abbrev pub IsThere : Option (List File) → List ℕ → Type 0
IsThere told name = OnTold told name (λ held. IsSome held)

-- The file of this name was made, or emptied, and a sink was given for it that has taken nothing, which it tells where the files are told, and
-- counted no fault.
pub record MakesFile (before now : Option (List File)) (name : List ℕ) (taken : Option (List ℕ)) (faults : ℕ) : Type 0 where
  pub files : now ≡ told_with_file before name (Some [])
  pub there : IsThere now name
  pub empty : StartsEmpty before taken
  pub faultless : faults ≡ 0
