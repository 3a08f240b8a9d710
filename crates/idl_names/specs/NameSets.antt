-- Sets of names and ids.
use Rattle.std.specs.Prelude.{◌≡◌, ◌||◌, ℕ, ℤ, List, Bool}
use Rattle.std.specs.Ordering.{int_eq}
use Rattle.std.specs.List.{list_any}
use Rattle.std.specs.Str.{bytes_eq}
use Rattle.indexmap.specs.IndexSet.{IndexSet}
use Rattle.std.specs.declared.hash.FoldHasher.{FoldHasher}
use Rattle.std.specs.declared.hash.BuildHasherDefault.{BuildHasherDefault}
use denote.Ref.{Bor}

-- names, borrowed from where they stand
abbrev pub NameSet : Type 0
NameSet = IndexSet (Bor (List ℕ)) (BuildHasherDefault FoldHasher)

-- the name is in the set
abbrev pub has_name : NameSet → List ℕ → Bool
has_name s name = list_any (λ (key : Bor (List ℕ)). bytes_eq key.now name) s.keys

-- the set has this name too
abbrev pub HasNameToo : List ℕ → NameSet → NameSet → Type 0
HasNameToo name old new = (other : List ℕ) → has_name new other ≡ (has_name old other || bytes_eq name other)

-- ids
abbrev pub IdSet : Type 0
IdSet = IndexSet ℤ (BuildHasherDefault FoldHasher)

-- the id is in the set
abbrev pub has_id : IdSet → ℤ → Bool
has_id s id = list_any (int_eq id) s.keys

-- the set has this id too
abbrev pub HasIdToo : ℤ → IdSet → IdSet → Type 0
HasIdToo id old new = (other : ℤ) → has_id new other ≡ (has_id old other || int_eq other id)
