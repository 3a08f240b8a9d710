-- Names with their numbers, looked up by file and name.
use Rattle.std.specs.Prelude.{◌≡◌, ℕ, ◌==◌, ◌&&◌, List, Bool, slice_get, Option, Some, None, if◌then◌else◌}
use Rattle.std.specs.Option.{option_and_then, option_or}
use Rattle.std.specs.Str.{bytes_eq}
use Rattle.indexmap.specs.IndexMap.{IndexMap, get_by}
use Rattle.std.specs.declared.hash.FoldHasher.{FoldHasher}
use Rattle.std.specs.declared.hash.BuildHasherDefault.{BuildHasherDefault}
use denote.Ref.{Bor}

-- names, borrowed from where they stand, with their numbers
abbrev pub NameMap : Type 0
NameMap = IndexMap (Bor (List ℕ)) ℕ (BuildHasherDefault FoldHasher)

-- the number of a name
abbrev pub number_of_name : NameMap → List ℕ → Option ℕ
number_of_name m name = get_by (λ (key : Bor (List ℕ)). bytes_eq name key.now) m

-- the number of a name in the file of some number
abbrev pub number_in_file : List NameMap → ℕ → List ℕ → Option ℕ
number_in_file maps file name = option_and_then (λ m. number_of_name m name) (slice_get maps file)

-- a number, if something holds
abbrev pub number_if : Bool → ℕ → Option ℕ
number_if holds number = if holds then Some number else None

-- the names of a file have one more, unless it is there
abbrev pub HasOneMore : List ℕ → ℕ → NameMap → NameMap → Type 0
HasOneMore name number old new =
    (other : List ℕ) → number_of_name new other ≡ option_or (number_of_name old other) (number_if (bytes_eq name other) number)

-- the same of one file among several
abbrev pub HasOneMoreIn : ℕ → List ℕ → ℕ → List NameMap → List NameMap → Type 0
HasOneMoreIn file name number old new =
    (f : ℕ) (other : List ℕ) → number_in_file new f other ≡ option_or (number_in_file old f other) (number_if ((file == f) && bytes_eq name other) number)
