-- A history of a hub is one of a hall that keeps all outcomes.
use Rattle.std.proofs.Common.{◌≡◌, ℕ, List, [], ◌∷◌, ◌++◌, refl, sym, ap, ◌∙◌, subst, inl, inr, ⊎_elim}
use Rattle.host_model.specs.declared.key.Key.{Key}
use Rattle.host_model.specs.Journal.{ServiceRules}
use Rattle.call_history.specs.History.{meaning_after, IsHistory}
use Rattle.machine_model.specs.HallState.{JobOutcome, HallState}
use Rattle.machine_model.specs.HallRule.{HallOperation, HallAnswer, done, job, empty, is_closed, applied, no_memory, journal_fault, is_broken, outcome, outcome_of, TakesEffect, ApplyGives, HallGives}
use Rattle.machine_model.specs.OwnCalls.{HallCall}
use Rattle.hub_model.specs.HubState.{HubState, as_hall, but_outcomes}
use Rattle.hub_model.specs.HubRule.{HubOperation, submit_from, take_one, apply_one, put_one, collect_for, close_all, HubCall, HubGives}
use Rattle.hub_model.specs.Seen.{calls_with}
use Rattle.hub_model.specs.OneHall.{put_after, hall_ask, hall_seat, hall_calls, all_put}

module _ {C A M : Type 0} (n : ℕ) (r : ServiceRules C A M) where
  -- an ask, if any, leads from one hall to another
  abbrev Leads : List (HallOperation C × HallAnswer A) → HallState C A M → HallState C A M → Type 0
  Leads [] old new = new ≡ old
  Leads (x ∷ asks) old new = HallGives r old x.0 x.1 new

  module _ (outcomes : List JobOutcome) (old new : HubState C A M) where
    with_all : (h : HallState C A M) → but_outcomes new ≡ h → as_hall new outcomes ≡ record h { outcomes = outcomes }
    with_all h e = ap (λ (x : HallState C A M). record x { outcomes = outcomes }) e

    effect_is : (key : Key) (call : C) (answer : A) (faults : ℕ) → TakesEffect r (but_outcomes old) key call answer faults (but_outcomes new) → TakesEffect r (as_hall old outcomes) key call answer faults (as_hall new outcomes)
    effect_is key call answer faults t = (t.0, with_all _ t.1)

    apply_is : (key : Key) (call : C) (faults : ℕ) (answer : HallAnswer A) → ApplyGives r (but_outcomes old) key call faults answer (but_outcomes new) → ApplyGives r (as_hall old outcomes) key call faults answer (as_hall new outcomes)
    apply_is key call faults (applied a) g = (g.0, effect_is key call a faults g.1)
    apply_is key call faults no_memory g = (
      g.0,
      ⊎_elim (λ (t : but_outcomes new ≡ record (but_outcomes old) { faults = faults }). inl (with_all (record (but_outcomes old) { faults = faults }) t))
          (λ (t : (a : A) × TakesEffect r (but_outcomes old) key call a faults (but_outcomes new)). inr (t.0, effect_is key call t.0 faults t.1)) g.1,
    )
    apply_is key call faults journal_fault g = (g.0, g.1, with_all _ g.2)
    apply_is key call faults is_broken g = (g.0, with_all (record (but_outcomes old) { faults = faults }) g.1)
    apply_is key call faults _ g = absurd g

    step_is : (op : HubOperation C) (answer : HallAnswer A) → HubGives n r old op answer new → Leads (hall_ask op answer) (as_hall old outcomes) (as_hall new (put_after outcomes op))
    step_is (submit_from l key payload) done g = (g.0.0, with_all _ g.0.1)
    step_is (submit_from l key payload) is_closed g = (g.0.0, with_all (but_outcomes old) g.0.1)
    step_is (submit_from l key payload) _ g = absurd g.0
    step_is take_one (job key payload) g = (g.0.0, g.0.1, with_all _ g.0.2)
    step_is take_one empty g = (g.0.0, g.0.1, with_all (but_outcomes old) g.0.2)
    step_is take_one is_closed g = (g.0.0, g.0.1, with_all (but_outcomes old) g.0.2)
    step_is take_one _ g = absurd g.0
    step_is (apply_one key call) answer g = (g.0, g.1, apply_is key call g.0 answer g.2, g.3)
    step_is (put_one key settled) done g = ap (λ (x : HubState C A M). as_hall x (outcomes ++ outcome_of key settled ∷ [])) g
    step_is (put_one key settled) _ g = absurd g
    step_is (collect_for l) (outcome key settled) g = ap (λ (x : HubState C A M). as_hall x outcomes) g.2
    step_is (collect_for l) empty g = ap (λ (x : HubState C A M). as_hall x outcomes) g.2
    step_is (collect_for l) is_closed g = ap (λ (x : HubState C A M). as_hall x outcomes) g.2
    step_is (collect_for l) _ g = absurd g
    step_is close_all done g = with_all _ g.0
    step_is close_all _ g = absurd g.0

  in_front : (asks : List (HallOperation C × HallAnswer A)) (seat : ℕ) (old new : HallState C A M) (rest : List (HallCall C A M)) → Leads asks old new → IsHistory (HallGives r) new rest
      → IsHistory (HallGives r) old (calls_with seat asks new ++ rest)
  in_front [] seat old new rest f h = subst (λ (x : HallState C A M). IsHistory (HallGives r) x rest) f h
  in_front (x ∷ asks) seat old new rest f h = (f, h)

  ends_same : (asks : List (HallOperation C × HallAnswer A)) (seat : ℕ) (old new : HallState C A M) (rest : List (HallCall C A M)) → Leads asks old new
      → meaning_after old (calls_with seat asks new ++ rest) ≡ meaning_after new rest
  ends_same [] seat old new rest f = ap (λ (x : HallState C A M). meaning_after x rest) (sym f)
  ends_same (x ∷ asks) seat old new rest f = refl

  pub is_one_hall : (outcomes : List JobOutcome) (hub : HubState C A M) (log : List (HubCall C A M)) → IsHistory (HubGives n r) hub log
      → IsHistory (HallGives r) (as_hall hub outcomes) (hall_calls n outcomes log)
  is_one_hall outcomes hub [] h = tt
  is_one_hall outcomes hub (e ∷ log) h =
      in_front (hall_ask e.op e.reply) (hall_seat n e.seat) (as_hall hub outcomes) (as_hall e.after (put_after outcomes e.op)) (hall_calls n (put_after outcomes e.op) log)
      (step_is outcomes hub e.after e.op e.reply h.0) (is_one_hall (put_after outcomes e.op) e.after log h.1)

  pub ends_as_one : (outcomes : List JobOutcome) (hub : HubState C A M) (log : List (HubCall C A M)) → IsHistory (HubGives n r) hub log
      → meaning_after (as_hall hub outcomes) (hall_calls n outcomes log) ≡ as_hall (meaning_after hub log) (all_put outcomes log)
  ends_as_one outcomes hub [] h = refl
  ends_as_one outcomes hub (e ∷ log) h =
      ends_same (hall_ask e.op e.reply) (hall_seat n e.seat) (as_hall hub outcomes) (as_hall e.after (put_after outcomes e.op)) (hall_calls n (put_after outcomes e.op) log)
      (step_is outcomes hub e.after e.op e.reply h.0)
      ∙ ends_as_one (put_after outcomes e.op) e.after log h.1
