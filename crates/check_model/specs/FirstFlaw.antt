-- The first fault of a program.
use Rattle.std.specs.Prelude.{◌≡◌, ℕ, List, ◌∷◌, ◌++◌}
use Rattle.std.specs.List.{AllByRecursion}
use Rattle.idl_token.specs.declared.Place.{Place}
use Rattle.idl_include.specs.Program.{Program}
use Rattle.idl_include.specs.Spots.{Spotted, value_spot, Spot, spots_of}
use Rattle.check_model.specs.Worths.{ConstFlaw}
use Rattle.check_model.specs.Passes.{Pass, bad_constant, passes, FindsFault, place_shown, HasConstFlaw}

-- what kind of fault it is: that of a pass, or of a constant value
pub data FlawKind : Type 0 where
  found_by : Pass → FlawKind
  of_value : ConstFlaw → FlawKind

-- a fault: the number of its file, the place in it, and its kind
pub record ProgramFlaw : Type 0 where
  pub file : ℕ
  pub at : Place
  pub kind : FlawKind

-- a given value is at fault
abbrev pub IsValueFlaw : Program → ℕ → Spotted → ProgramFlaw → Type 0
IsValueFlaw program file (value_spot v) flaw =
    (at : Place) × (kind : ConstFlaw) × HasConstFlaw program file v at kind × (flaw ≡ record { file = file; at = at; kind = of_value kind })
IsValueFlaw program file _ flaw = ⊥

-- A pass finds this fault at a spot.
abbrev pub IsAtFault : Pass → Program → Spot → ProgramFlaw → Type 0
IsAtFault bad_constant program spot flaw = IsValueFlaw program spot.file spot.shows flaw
IsAtFault pass program spot flaw =
    FindsFault pass program spot.file spot.shows × (flaw ≡ record { file = spot.file; at = place_shown spot.shows; kind = found_by pass })

-- a pass finds nothing at a spot
abbrev pub IsClearAt : Program → Pass → Spot → Type 0
IsClearAt program pass spot = (flaw : ProgramFlaw) → IsAtFault pass program spot flaw → ⊥

-- a pass finds nothing in a program
abbrev pub FindsNothing : Program → Pass → Type 0
FindsNothing program pass = AllByRecursion (IsClearAt program pass) (spots_of program)

-- the first fault that a pass finds in a program
pub record IsFirstOf (program : Program) (pass : Pass) (flaw : ProgramFlaw) : Type 0 where
  pub before : List Spot
  pub spot : Spot
  pub after : List Spot
  pub split : spots_of program ≡ before ++ spot ∷ after
  pub clear : AllByRecursion (IsClearAt program pass) before
  pub here : IsAtFault pass program spot flaw

-- The first fault of a program: the first that the first pass finds that finds any.
pub record IsFirstFlaw (program : Program) (flaw : ProgramFlaw) : Type 0 where
  pub earlier : List Pass
  pub pass : Pass
  pub later : List Pass
  pub split : passes ≡ earlier ++ pass ∷ later
  pub clear : AllByRecursion (FindsNothing program) earlier
  pub first : IsFirstOf program pass flaw

-- No pass finds a fault.
abbrev pub HasNoFlaw : Program → Type 0
HasNoFlaw program = AllByRecursion (FindsNothing program) passes
