-- Which names of functions services inherit, as sets in memory tell it.
use Rattle.std.specs.Prelude.{◌≡◌, ◌<◌, ◌⊎◌, ◌↔◌, ◌||◌, ◌++◌, ⊤, ℕ, Bool, true, false, List, [], ◌∷◌, map, length, slice_get, slice_index_or, Option, Some, None}
use Rattle.std.specs.Option.{option_map_or}
use Rattle.std.specs.List.{list_any}
use Rattle.std.specs.Str.{bytes_eq}
use Rattle.idl_parser.specs.declared.tree.Function.{Function}
use Rattle.idl_parser.specs.declared.tree.Service.{Service}
use Rattle.graph_cycles.specs.Walks.{LeadsTo}
use Rattle.idl_include.specs.Program.{Program}
use Rattle.idl_include.specs.Cycles.{listed, Inherits}
use Rattle.idl_names.specs.declared.filed.InFile.{InFile}
use Rattle.idl_names.specs.NameSets.{NameSet, has_name}
use Rattle.idl_types.specs.declared.inherited.InheritedNames.{InheritedNames}
use Rattle.idl_types.specs.declared.offers.Offered.{Offered}

-- one of the functions has this name
abbrev pub is_function : List Function → List ℕ → Bool
is_function functions name = list_any (λ (f : Function). bytes_eq f.name.text name) functions

-- the functions of the service of some number
abbrev pub functions_at : List (InFile Service) → ℕ → List Function
functions_at services service = option_map_or (λ (s : InFile Service). s.item.now.functions.items) (slice_get services service) []

-- some service that this one extends, directly or not, has a function of this name
abbrev pub InheritsBy : List (Option ℕ) → List (InFile Service) → ℕ → List ℕ → Type 0
InheritsBy parents services service name =
    (ancestor : ℕ) × LeadsTo (map listed parents) service ancestor × (is_function (functions_at services ancestor) name ≡ true)

-- the service has a function of this name, or inherits one
abbrev pub Offers : List (Option ℕ) → List (InFile Service) → ℕ → List ℕ → Type 0
Offers parents services service name = (is_function (functions_at services service) name ≡ true) ⊎ InheritsBy parents services service name

-- the name is in the set of some number
abbrev pub is_in_set : List NameSet → ℕ → List ℕ → Bool
is_in_set sets which name = option_map_or (λ (s : NameSet). has_name s name) (slice_get sets which) false

-- the name is in a set, if there is one
abbrev pub is_in_base : List NameSet → Option ℕ → List ℕ → Bool
is_in_base sets None name = false
is_in_base sets (Some which) name = is_in_set sets which name

-- the number of a parent's set, if there is a parent, is the one that was made
abbrev pub IsBase : List (Option ℕ) → Option ℕ → Option ℕ → Type 0
IsBase made None None = ⊤
IsBase made None (Some which) = ⊥
IsBase made (Some parent) None = ⊥
IsBase made (Some parent) (Some which) = slice_index_or made parent None ≡ Some which

-- the set of a service is that of some number, and those of the others are as they were
pub record IsMade (service which : ℕ) (old new : List (Option ℕ)) : Type 0 where
  pub here : slice_index_or new service None ≡ Some which
  pub others : (other : ℕ) → (other ≡ service → ⊥) → slice_index_or new other None ≡ slice_index_or old other None

-- a set has the names of another, if there is one, and of functions
abbrev pub HasBoth : List NameSet → Option ℕ → List Function → NameSet → Type 0
HasBoth sets base functions set = (name : List ℕ) → has_name set name ≡ (is_in_base sets base name || is_function functions name)

-- one set more, of a service
pub record AddsSet (service : ℕ) (base : Option ℕ) (functions : List Function) (old new : Offered) : Type 0 where
  pub set : NameSet
  pub names : HasBoth old.sets.items base functions set
  pub pushed : new.sets.items ≡ old.sets.items ++ set ∷ []
  pub made : IsMade service (length old.sets.items) old.made.items new.made.items

-- the set of some number has what a service offers
pub record IsSetOf (parents : List (Option ℕ)) (services : List (InFile Service)) (sets : List NameSet) (service which : ℕ) : Type 0 where
  pub within : which < length sets
  pub right : (name : List ℕ) → (is_in_set sets which name ≡ true) ↔ Offers parents services service name

-- sets that are made have what services offer
abbrev pub AreOffered : List (Option ℕ) → List (InFile Service) → List NameSet → List (Option ℕ) → Type 0
AreOffered parents services sets made = (service which : ℕ) → slice_index_or made service None ≡ Some which → IsSetOf parents services sets service which

-- they do so still
abbrev pub KeepsOffered : List (Option ℕ) → List (InFile Service) → Offered → Offered → Type 0
KeepsOffered parents services old new = AreOffered parents services old.sets.items old.made.items → AreOffered parents services new.sets.items new.made.items

-- the sets of parents are those that were made
abbrev pub AreInherited : List (Option ℕ) → List (Option ℕ) → List (Option ℕ) → Type 0
AreInherited made parents sets = (service : ℕ) → IsBase made (slice_index_or parents service None) (slice_index_or sets service None)

-- the service of some number is told to inherit a name
abbrev pub is_told : InheritedNames → ℕ → List ℕ → Bool
is_told names service name = is_in_base names.sets.items (slice_index_or names.inherited.items service None) name

-- Names that services inherit are told.
abbrev pub TellsInherited : Program → InheritedNames → Type 0
TellsInherited program names = (service : ℕ) (name : List ℕ) → (is_told names service name ≡ true) ↔ Inherits program service name
