-- What is refused is determined, the default among it.
use Rattle.std.proofs.Common.{◌≡◌, ℕ, List, [], Option, Ok, sym, ap, ◌∙◌, inl, inr}
use Rattle.call_rules.specs.Handling.{ServiceState}
use Rattle.schema.specs.PlainSchema.{PlainSchema}
use Rattle.schema.specs.Sound.{IsSound}
use Rattle.service_binding.specs.Binding.{AreBound, NumberedName}
use Rattle.service_binding.specs.Defaults.{slot_for_default}
use Rattle.service_binding.specs.FirstRefusal.{IsRefusedFirst}
use Rattle.service_binding.specs.Pairs.{NamedKind}
use Rattle.service_binding.specs.declared.fault.BindKind.{BindKind}
use Rattle.service_binding.proofs.Determined.{err_once, no_both, one_way, bound_or_refused, refused_once}

module _ (s : PlainSchema) (services : List ServiceState) (pairs : List NamedKind) (default_service : Option (List ℕ)) where
  pub bound_or_refused_in_all : (bindings : List NumberedName) (bound : List ServiceState) (slot : Option ℕ) (place : ℕ) (kind : BindKind) → IsSound s
      → AreBound s services pairs bindings bound → slot_for_default bindings default_service ≡ Ok slot → IsRefusedFirst s services pairs default_service place kind → ⊥
  bound_or_refused_in_all bindings bound slot place kind sound are has (inl pair) = bound_or_refused s services pairs bindings bound place kind sound are pair
  bound_or_refused_in_all bindings bound slot place kind sound are has (inr none) =
      let same = one_way s services [] pairs bindings none.bindings bound none.bound are none.good in
      no_both (slot_for_default bindings default_service) slot kind has (ap (λ bs. slot_for_default bs default_service) same.0 ∙ none.refused)

  pub refused_once_in_all : (place other : ℕ) (kind reason : BindKind) → IsSound s → IsRefusedFirst s services pairs default_service place kind
      → IsRefusedFirst s services pairs default_service other reason → (place ≡ other) × (kind ≡ reason)
  refused_once_in_all place other kind reason sound (inl x) (inl y) = refused_once s services pairs place other kind reason sound x y
  refused_once_in_all place other kind reason sound (inl x) (inr y) = absurd (bound_or_refused s services pairs y.bindings y.bound place kind sound y.good x)
  refused_once_in_all place other kind reason sound (inr x) (inl y) = absurd (bound_or_refused s services pairs x.bindings x.bound other reason sound x.good y)
  refused_once_in_all place other kind reason sound (inr x) (inr y) =
      let same = one_way s services [] pairs x.bindings y.bindings x.bound y.bound x.good y.good in (
        sym x.at ∙ y.at,
        err_once (slot_for_default y.bindings default_service) kind reason (ap (λ bs. slot_for_default bs default_service) (sym same.0) ∙ x.refused) y.refused,
      )
