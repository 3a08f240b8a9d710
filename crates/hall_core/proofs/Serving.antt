-- One service of many answers a call.
use Rattle.std.proofs.Common.{◌≡◌, ℕ, ◌<◌, None, Some, Option, List, map, length, slice_get, slice_set, get_or, option_map, refl, sym, ap, ◌∙◌, subst}
use Rattle.std.specs.Prelude.{MatchOption}
use Rattle.std.proofs.lemmas.Option.{slice_get-map, slice_get_read}
use Rattle.std.proofs.lemmas.List.{map-set, set-get_or}
use Rattle.host_model.specs.Journal.{after_call}
use Rattle.call_rules.specs.PlainCalls.{PlainCall, PlainAnswer}
use Rattle.call_rules.specs.Handling.{ServiceState, handled, service_after, handler_rules}
use Rattle.hall_core.specs.Answered.{IsAnswerOf}

module _ {X : Type 0} (service : X → ServiceState) (xs : List X) (call : PlainCall) (x : X) (within : call.slot < length xs) (is : x ≡ get_or xs call.slot x) where
  there : slice_get (map service xs) call.slot ≡ Some (service x)
  there = slice_get-map service xs call.slot ∙ ap (option_map service) (slice_get_read xs (length xs) call.slot x refl within is)

  pub answer_of_service : (answer : PlainAnswer) → answer ≡ (handled (service x) call.method call.args).answer → IsAnswerOf (map service xs) call answer
  answer_of_service answer e =
      subst (λ (o : Option ServiceState). MatchOption o ⊥ (λ s. answer ≡ (handled s call.method call.args).answer)) (sym there) e

  pub service_moved : (new : X) → service new ≡ service_after (service x) call.method call.args
      → map service (slice_set xs call.slot new) ≡ after_call handler_rules (map service xs) call
  service_moved new e =
      map-set service xs call.slot new ∙ ap (λ (s : ServiceState). slice_set (map service xs) call.slot s) e
      ∙ sym (ap (λ (o : Option ServiceState). elim o [
        | None ↦ map service xs
        | Some s ↦ slice_set (map service xs) call.slot (service_after s call.method call.args)
      ]) there)

  pub service_kept : (new : X) → service new ≡ service x → map service (slice_set xs call.slot new) ≡ map service xs
  service_kept new e =
      map-set service xs call.slot new ∙ ap (λ (s : ServiceState). slice_set (map service xs) call.slot s) e
      ∙ sym (map-set service xs call.slot x) ∙ ap (map service) (ap (slice_set xs call.slot) is ∙ set-get_or xs call.slot x)

  -- the same, where the service is told by its place
  pub moved_from : (method : List ℕ) → method ≡ call.method → (new : X) → service new ≡ service_after (service (get_or xs call.slot x)) method call.args
      → map service (slice_set xs call.slot new) ≡ after_call handler_rules (map service xs) call
  moved_from method same new e =
      service_moved new (e ∙ ap (λ (y : X). service_after (service y) method call.args) (sym is) ∙ ap (λ (t : List ℕ). service_after (service x) t call.args) same)

  pub kept_from : (new : X) → service new ≡ service (get_or xs call.slot x) → map service (slice_set xs call.slot new) ≡ map service xs
  kept_from new e = service_kept new (e ∙ ap service (sym is))

  pub answered_from : (method : List ℕ) → method ≡ call.method → (answer : PlainAnswer) → answer ≡ (handled (service (get_or xs call.slot x)) method call.args).answer → IsAnswerOf (map service xs) call answer
  answered_from method same answer e =
      answer_of_service answer (e ∙ ap (λ (y : X). (handled (service y) method call.args).answer) (sym is) ∙ ap (λ (t : List ℕ). (handled (service x) t call.args).answer) same)
