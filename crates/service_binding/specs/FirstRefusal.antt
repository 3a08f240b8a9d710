-- What is refused first, of pairs and a default.
use Rattle.std.specs.Prelude.{◌≡◌, ⊤, ℕ, ◌⊎◌, List, ◌∷◌, ◌++◌, length, Option, Err}
use Rattle.service_binding.specs.Binding.{AreBound, IsRefused, NumberedName}
use Rattle.call_rules.specs.Handling.{ServiceState}
use Rattle.service_binding.specs.Defaults.{slot_for_default}
use Rattle.service_binding.specs.Pairs.{NamedKind}
use Rattle.schema.specs.PlainSchema.{PlainSchema}
use Rattle.service_binding.specs.declared.fault.BindFault.{BindFault}
use Rattle.service_binding.specs.declared.fault.BindFault.TheVariants.{Refused, NoMemory}
use Rattle.service_binding.specs.declared.fault.BindKind.{BindKind}

-- the pairs in front of this place are bound, and the pair at it is refused
pub record IsFirstRefusal (s : PlainSchema) (services : List ServiceState) (pairs : List NamedKind) (place : ℕ) (kind : BindKind) : Type 0 where
  pub before : List NamedKind
  pub pair : NamedKind
  pub after : List NamedKind
  pub whole : pairs ≡ before ++ pair ∷ after
  pub at : length before ≡ place
  pub bindings : List NumberedName
  pub bound : List ServiceState
  pub good : AreBound s services before bindings bound
  pub refused : IsRefused s services before pair kind

-- the pairs are bound, and the default is refused, which stands behind the last of them
pub record NamesNoPair (s : PlainSchema) (services : List ServiceState) (pairs : List NamedKind) (default_service : Option (List ℕ)) (place : ℕ) (kind : BindKind) : Type 0 where
  pub bindings : List NumberedName
  pub bound : List ServiceState
  pub good : AreBound s services pairs bindings bound
  pub at : length pairs ≡ place
  pub refused : slot_for_default bindings default_service ≡ Err kind

-- the first pair that is refused, or where all are bound the default
abbrev pub IsRefusedFirst : PlainSchema → List ServiceState → List NamedKind → Option (List ℕ) → ℕ → BindKind → Type 0
IsRefusedFirst s services pairs default_service place kind =
    IsFirstRefusal s services pairs place kind ⊎ NamesNoPair s services pairs default_service place kind

-- of a fault that refuses a pair this holds; want of memory is free
abbrev pub OnRefusal : BindFault → (ℕ → BindKind → Type 0) → Type 0
OnRefusal (Refused pair kind) Holds = Holds pair kind
OnRefusal NoMemory Holds = ⊤
