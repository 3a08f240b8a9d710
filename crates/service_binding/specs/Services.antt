-- Which service a pair names, and which shapes it has.
use Rattle.std.specs.Prelude.{ℕ, Bool, true, false, List, Option, None, Some, Result, Ok, Err}
use Rattle.std.specs.List.{list_any}
use Rattle.std.specs.Str.{bytes_eq}
use Rattle.schema.specs.LookUp.{service_named}
use Rattle.schema.specs.PlainSchema.{PlainSchema}
use Rattle.schema.specs.Shapes.{AreShapesOf}
use Rattle.service_binding.specs.Pairs.{NamedKind}
use Rattle.service_binding.specs.declared.fault.BindKind.{BindKind}
use Rattle.service_binding.specs.declared.fault.BindKind.TheVariants.{UnknownService, SameService}

-- one of the pairs has this name
abbrev pub is_name_taken : List NamedKind → List ℕ → Bool
is_name_taken pairs name = list_any (λ (pair : NamedKind). bytes_eq pair.0 name) pairs

-- the number that a name stands for, where it stands for one and isn't named before
abbrev pub new_number : Bool → Option ℕ → Result ℕ BindKind
new_number named None = Err UnknownService
new_number true (Some number) = Err SameService
new_number false (Some number) = Ok number

-- the number of the service that a pair names behind these others
abbrev pub number_for : PlainSchema → List NamedKind → NamedKind → Result ℕ BindKind
number_for s before pair = new_number (is_name_taken before pair.0) (service_named s pair.0)

-- the service at a number has shapes of which this holds; it has just one list of them
abbrev pub HasShapes : PlainSchema → ℕ → (List (List ℕ) → Type 0) → Type 0
HasShapes s number Holds = (lines : List (List ℕ)) × AreShapesOf s number lines × Holds lines
