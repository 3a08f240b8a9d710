-- Pairs that are bound one after another. No part of what is promised.
use Rattle.std.specs.Prelude.{◌≡◌, ⊤, ℕ, Bool, List, [], ◌∷◌, drop, cond, Option, None, Some}
use Rattle.service_binding.specs.Binding.{AreBound, NumberedName}
use Rattle.call_rules.specs.declared.kind.Kind.{Kind}
use Rattle.call_rules.specs.declared.kind.Kind.TheVariants.{Calculator, Store, Mirror}
use Rattle.call_rules.specs.Handling.{ServiceState}
use Rattle.service_binding.specs.Pairs.{NamedKind}
use Rattle.schema.specs.PlainSchema.{PlainSchema}
use Rattle.service_binding.specs.declared.fault.BindKind.{BindKind}
use Rattle.service_binding.specs.declared.fault.BindFault.{BindFault}
use Rattle.service_binding.specs.declared.fault.BindFault.TheVariants as bind_faults
use Rattle.service_binding.specs.declared.fault.PairFault.{PairFault}
use Rattle.service_binding.specs.declared.fault.PairFault.TheVariants as faults
use Rattle.service_binding.specs.declared.handlers.HandedIn.{HandedIn}
use Rattle.service_binding.specs.Handlers.{is_handed_in, left_behind, same_kind, services_of_kind}

-- the test of a kind
abbrev pub has_kind : HandedIn → Kind → Bool
has_kind handed Calculator = handed.calculator
has_kind handed Store = handed.store
has_kind handed Mirror = handed.mirror

-- the tests are right of these handlers
abbrev pub IsHanded : HandedIn → List ServiceState → Type 0
IsHanded handed services = (kind : Kind) → has_kind handed kind ≡ is_handed_in kind services

-- these handlers are left after the pairs, of each kind
abbrev pub AreLeftBehind : List ServiceState → List NamedKind → List ServiceState → Type 0
AreLeftBehind services pairs left = (kind : Kind) → services_of_kind kind left ≡ left_behind kind pairs services

-- the first handler of a kind was taken out, where there is one
abbrev pub TakesFirst : Kind → List ServiceState → Option ServiceState → List ServiceState → Type 0
TakesFirst kind old None new = services_of_kind kind old ≡ []
TakesFirst kind old (Some service) new =
    (services_of_kind kind old ≡ service ∷ services_of_kind kind new)
    × ((other : Kind) → services_of_kind other new ≡ drop (cond (same_kind other kind) 1 0) (services_of_kind other old))

-- what is bound so far, and what is left
pub record IsBoundSoFar (s : PlainSchema) (services : List ServiceState) (pairs : List NamedKind) (bindings : List NumberedName) (bound left : List ServiceState) : Type 0 where
  pub bound_so_far : AreBound s services pairs bindings bound
  pub left_over : AreLeftBehind services pairs left

-- of a fault that refuses a pair this holds; want of memory is free
abbrev pub OnPairFault : PairFault → (BindKind → Type 0) → Type 0
OnPairFault (faults.Refused kind) Holds = Holds kind
OnPairFault faults.NoMemory Holds = ⊤

-- the fault of the pair at a place
abbrev pub refusal_at : ℕ → PairFault → BindFault
refusal_at place (faults.Refused kind) = bind_faults.Refused place kind
refusal_at place faults.NoMemory = bind_faults.NoMemory
