-- A pair more is bound.
use Rattle.std.proofs.Common.{◌≡◌, ℕ, ◌+◌, ◌<◌, List, [], ◌∷◌, ◌++◌, length, take, drop, get_or, sym, ap, ◌∙◌, subst, arith, append_assoc, append-nil, take-append-drop}
use Rattle.std.proofs.lemmas.List.{drop_more}
use Rattle.std.proofs.lemmas.Grind.{common_steps}
use Rattle.service_binding.specs.Binding.{AreBound, AreBoundBehind, IsBound, IsRefused, NumberedName}
use Rattle.call_rules.specs.Handling.{ServiceState}
use Rattle.service_binding.specs.Pairs.{NamedKind}
use Rattle.schema.specs.PlainSchema.{PlainSchema}
use Rattle.service_binding.specs.declared.fault.BindFault.{BindFault}
use Rattle.service_binding.specs.declared.fault.BindKind.{BindKind}
use Rattle.service_binding.specs.declared.fault.PairFault.{PairFault}
use Rattle.service_binding.specs.declared.fault.PairFault.TheVariants as faults
use Rattle.service_binding.specs.FirstRefusal.{IsFirstRefusal, OnRefusal}
use Rattle.service_binding.specs.Steps.{AreLeftBehind, IsBoundSoFar, OnPairFault, refusal_at}

-- a pair is bound behind those that are
pub bound_more : (s : PlainSchema) (services : List ServiceState) (front before : List NamedKind) (bindings : List NumberedName) (bound : List ServiceState) (pair : NamedKind) (binding : NumberedName) (service : ServiceState)
    → AreBoundBehind s services front before bindings bound → IsBound s services (front ++ before) pair binding service
    → AreBoundBehind s services front (before ++ pair ∷ []) (bindings ++ binding ∷ []) (bound ++ service ∷ [])
bound_more s services front [] [] [] pair binding service are is = (subst (λ (l : List NamedKind). IsBound s services l pair binding service) (append-nil front) is, tt)
bound_more s services front (p ∷ before) (b ∷ bindings) (h ∷ bound) pair binding service are is = (
  are.0,
  bound_more s services (front ++ p ∷ []) before bindings bound pair binding service are.1
      (subst (λ (l : List NamedKind). IsBound s services l pair binding service) (sym (append_assoc front (p ∷ []) before)) is),
)
bound_more s services front [] [] (h ∷ bound) pair binding service are is = absurd are
bound_more s services front [] (b ∷ bindings) bound pair binding service are is = absurd are
bound_more s services front (p ∷ before) [] bound pair binding service are is = absurd are
bound_more s services front (p ∷ before) (b ∷ bindings) [] pair binding service are is = absurd are

-- the pair at a place is the first that is refused
pub refused_at : (s : PlainSchema) (services : List ServiceState) (pairs : List NamedKind) (place : ℕ) (pair : NamedKind) (kind : BindKind) (bindings : List NumberedName) (bound : List ServiceState)
    → place < length pairs → pair ≡ get_or pairs place pair → AreBound s services (take place pairs) bindings bound
    → IsRefused s services (take place pairs) pair kind → IsFirstRefusal s services pairs place kind
refused_at s services pairs place pair kind bindings bound within is good refused =
    record {
      before = take place pairs;
      pair = pair;
      after = drop (place + 1) pairs;
      whole =
          sym (take-append-drop place pairs)
          ∙ ap (λ l. take place pairs ++ l) (drop_more pairs place pair within ∙ ap (λ p. p ∷ drop (place + 1) pairs) (sym is));
      at = grind (arith, common_steps);
      bindings = bindings;
      bound = bound;
      good = good;
      refused = refused;
    }

-- a pair more is bound, and what is left is left
pub progress_more : (s : PlainSchema) (services : List ServiceState) (before : List NamedKind) (pair : NamedKind) (name : List ℕ) (number : ℕ) (service : ServiceState)
    (bindings more : List NumberedName) (bound taken left new : List ServiceState) → IsBoundSoFar s services before bindings bound left
    → IsBound s services before pair (pair.0, number) service → AreLeftBehind services (before ++ pair ∷ []) new
    → name ≡ pair.0 → more ≡ bindings ++ (name, number) ∷ [] → taken ≡ bound ++ service ∷ [] → IsBoundSoFar s services (before ++ pair ∷ []) more taken new
progress_more s services before pair name number service bindings more bound taken left new so_far is are same named entered =
    let here : IsBound s services before pair (name, number) service = record { name = same; number = is.number; handler = is.handler; suits = is.suits } in
    let one = bound_more s services [] before bindings bound pair (name, number) service so_far.bound_so_far here in
    record {
      bound_so_far =
          subst (λ (bs : List NumberedName). AreBound s services (before ++ pair ∷ []) bs taken) (sym named)
          (subst (λ (hs : List ServiceState). AreBound s services (before ++ pair ∷ []) (bindings ++ (name, number) ∷ []) hs) (sym entered) one);
      left_over = are;
    }

-- a fault of the pair at a place
pub on_fault : (fault : PairFault) (place : ℕ) (result : BindFault) (P : BindKind → Type 0) (Q : ℕ → BindKind → Type 0) → result ≡ refusal_at place fault
    → ((kind : BindKind) → P kind → Q place kind) → OnPairFault fault P → OnRefusal result Q
on_fault (faults.Refused kind) place result P Q is step p = subst (λ (f : BindFault). OnRefusal f Q) (sym is) (step kind p)
on_fault faults.NoMemory place result P Q is step p = subst (λ (f : BindFault). OnRefusal f Q) (sym is) tt
