-- What it is that pairs are bound, and that one is refused.
use Rattle.std.specs.Prelude.{◌≡◌, ⊤, ℕ, ◌⊎◌, List, [], ◌∷◌, ◌++◌, Ok, Err}
use Rattle.call_rules.specs.Handling.{ServiceState}
use Rattle.call_rules.specs.Suited.{IsSuited}
use Rattle.service_binding.specs.Pairs.{NamedKind}
use Rattle.schema.specs.PlainSchema.{PlainSchema}
use Rattle.service_binding.specs.declared.fault.BindKind.{BindKind}
use Rattle.service_binding.specs.declared.fault.BindKind.TheVariants.{Unsuited}
use Rattle.service_binding.specs.Handlers.{handler_for}
use Rattle.service_binding.specs.Services.{HasShapes, number_for}

-- a name of a service, and its number in the schema
abbrev pub NumberedName : Type 0
NumberedName = List ℕ × ℕ

-- the name
abbrev pub numbered_name : NumberedName → List ℕ
numbered_name named = named.0

-- Behind these other pairs a pair is bound: its name to a service's number, and to a handler that suits the service's shapes.
pub record IsBound (s : PlainSchema) (services : List ServiceState) (before : List NamedKind) (pair : NamedKind) (binding : NumberedName) (service : ServiceState) : Type 0 where
  pub name : binding.0 ≡ pair.0
  pub number : number_for s before pair ≡ Ok binding.1
  pub handler : handler_for services before pair ≡ Ok service
  pub suits : HasShapes s binding.1 (IsSuited service.kind)

-- the pairs are bound one by one, behind these others
abbrev pub AreBoundBehind : PlainSchema → List ServiceState → (before pairs : List NamedKind) → List NumberedName → List ServiceState → Type 0
AreBoundBehind s services before [] [] [] = ⊤
AreBoundBehind s services before (pair ∷ pairs) (binding ∷ bindings) (service ∷ bound) =
    IsBound s services before pair binding service × AreBoundBehind s services (before ++ pair ∷ []) pairs bindings bound
AreBoundBehind s services before _ _ _ = ⊥

-- the pairs are bound: these are the names with their numbers, and the services of the handlers, in the order of the pairs
abbrev pub AreBound : PlainSchema → List ServiceState → List NamedKind → List NumberedName → List ServiceState → Type 0
AreBound s services pairs bindings bound = AreBoundBehind s services [] pairs bindings bound

-- the pair has a service and a handler, and the service has shapes that the handler doesn't suit
pub record IsUnsuited (s : PlainSchema) (services : List ServiceState) (before : List NamedKind) (pair : NamedKind) : Type 0 where
  pub which : ℕ
  pub service : ServiceState
  pub number : number_for s before pair ≡ Ok which
  pub handler : handler_for services before pair ≡ Ok service
  pub shapes : HasShapes s which (λ lines. IsSuited service.kind lines → ⊥)

-- the pair has a service, and no handler for this reason
pub record HasNoHandler (s : PlainSchema) (services : List ServiceState) (before : List NamedKind) (pair : NamedKind) (kind : BindKind) : Type 0 where
  pub which : ℕ
  pub number : number_for s before pair ≡ Ok which
  pub handler : handler_for services before pair ≡ Err kind

-- Behind these other pairs a pair is refused: for its service, else for its handler, else since that doesn't suit.
abbrev pub IsRefused : PlainSchema → List ServiceState → List NamedKind → NamedKind → BindKind → Type 0
IsRefused s services before pair kind =
    (number_for s before pair ≡ Err kind) ⊎ (HasNoHandler s services before pair kind ⊎ ((kind ≡ Unsuited) × IsUnsuited s services before pair))
