-- The content of a store of files, which may be untold, and what a read of a whole file answers.
use Rattle.std.specs.Prelude.{◌≡◌, ◌≢◌, ℕ, ◌<◌, ◌≤◌, List, [], ◌∷◌, length, Option, Some, None, Bool, true, false, nat_le, Result, Err, IfOk, if◌then◌else◌, ⊤}
use Rattle.std.specs.Str.{bytes_eq}
use Rattle.streams.specs.Cause.{Rose}
use Rattle.streams.specs.declared.files.FileFail.{FileFail}
use Rattle.streams.specs.declared.files.FileFail.TheVariants.{Absent, TooLong, Failed}

-- a file: its name and what it holds, in bytes
pub record File : Type 0 where
  pub name : List ℕ
  pub bytes : List ℕ

-- what the first file of this name holds
abbrev pub content_of : List File → List ℕ → Option (List ℕ)
content_of [] name = None
content_of (file ∷ files) name = if bytes_eq file.name name then Some file.bytes else content_of files name

-- where the files are told, this holds of what the file of this name holds
abbrev pub OnTold : Option (List File) → List ℕ → (Option (List ℕ) → Type 0) → Type 0
OnTold None name P = ⊤
OnTold (Some files) name P = P (content_of files name)

-- a file is there and has more than `limit` bytes
abbrev pub IsLonger : ℕ → Option (List ℕ) → Type 0
IsLonger limit None = ⊥
IsLonger limit (Some bytes) = limit < length bytes

-- a file is there and has at most `limit` bytes
abbrev pub fits : ℕ → Option (List ℕ) → Bool
fits limit None = false
fits limit (Some bytes) = nat_le (length bytes) limit

-- What a read of a whole file answers: its bytes, at most `limit`; that there is none; that it has more. Where the files are told, the last two come
-- exactly where it is so, also at a read that fails: so only a file that is there, and isn't too long, fails to be read.
pub record IsWholeFile {A : Type 0} (told : Option (List File)) (name : List ℕ) (limit : ℕ) (items : A → List ℕ) (result : Result A FileFail) : Type 0 where
  pub read : IfOk result (λ file. OnTold told name (λ held. held ≡ Some (items file)))
  pub within : IfOk result (λ file. length (items file) ≤ limit)
  pub absent : result ≡ Err Absent → OnTold told name (λ held. held ≡ None)
  pub too_long : result ≡ Err TooLong → OnTold told name (λ held. (bytes : List ℕ) × (held ≡ Some bytes) × (limit < length bytes))
  pub where_absent : OnTold told name (λ held. held ≡ None → result ≡ Err Absent)
  pub where_longer : OnTold told name (λ held. IsLonger limit held → result ≡ Err TooLong)

-- the read failed
abbrev pub has_failed : {A : Type 0} → Result A FileFail → Bool
has_failed (Err Failed) = true
has_failed _ = false

-- the count of faults never falls, a read is said to have failed only where it rose, and with any other answer it is as before
pub record HasFileCause {A : Type 0} (before now : ℕ) (result : Result A FileFail) : Type 0 where
  pub later : before ≤ now
  pub failed : result ≡ Err Failed → Rose before now
  pub kept : result ≢ Err Failed → now ≡ before
