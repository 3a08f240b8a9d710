-- The one journal of a hub: it is legal, the services are behind it, and a fault of it counts.
use Rattle.std.proofs.Common.{◌≡◌, ℕ, true, false, List, [], ◌∷◌, ◌++◌, refl, sym, ap, ◌∙◌, subst, ⊎_elim}
use Rattle.std.proofs.lemmas.Bool.{false≢true}
use Rattle.streams.specs.Cause.{Rose}
use Rattle.host_model.specs.declared.key.Key.{Key}
use Rattle.host_model.specs.Journal.{ServiceRules, Legal, after, after_call}
use Rattle.host_model.proofs.Filters.{legal_push}
use Rattle.call_history.specs.History.{meaning_after, IsHistory}
use Rattle.call_history.specs.Calls.{asks_of}
use Rattle.machine_model.specs.HallState.{HallState, IsNewlyOpened}
use Rattle.machine_model.specs.HallRule.{HallOperation, submit, take_job, apply, put, collect, close, HallAnswer, done, job, empty, is_closed, applied, no_memory, journal_fault, is_broken, outcome, entry_under, TakesEffect, ApplyGives, HallGives}
use Rattle.machine_model.specs.OwnCalls.{HallCall}
use Rattle.machine_model.proofs.Lists.{after_push}
use Rattle.machine_model.proofs.Breaking.{broken_rose, whole_count}
use Rattle.machine_model.proofs.Troubles.{Accounted, account}
use Rattle.hub_model.specs.HubState.{HubState, as_hall, IsOpenedHub, IsNewHub}
use Rattle.hub_model.specs.HubRule.{HubCall, HubGives}
use Rattle.hub_model.specs.OneHall.{hall_calls, all_put}
use Rattle.hub_model.proofs.AsOneHall.{is_one_hall, ends_as_one}

module _ {C A M : Type 0} (r : ServiceRules C A M) (memories : List M) where
  -- the journal is legal, and until it failed the services are behind it
  record IsSound (hall : HallState C A M) : Type 0 where
    legal : Legal r memories hall.journal
    behind : hall.broken ≡ false → hall.memories ≡ after r memories hall.journal

  module _ (old : HallState C A M) (s : IsSound old) (new : HallState C A M) where
    stays : (other : HallState C A M) → new ≡ other → other.memories ≡ old.memories → other.journal ≡ old.journal → other.broken ≡ old.broken → IsSound new
    stays other is m j b =
        let journal : new.journal ≡ old.journal = ap (λ (h : HallState C A M). h.journal) is ∙ j in
        record {
          legal = subst (Legal r memories) (sym journal) s.legal;
          behind = λ whole. ap (λ (h : HallState C A M). h.memories) is ∙ m ∙ s.behind (sym b ∙ sym (ap (λ (h : HallState C A M). h.broken) is) ∙ whole) ∙ ap (after r memories) (sym journal);
        }

    effect_is : (key : Key) (call : C) (answer : A) (faults : ℕ) → old.broken ≡ false → TakesEffect r old key call answer faults new → IsSound new
    effect_is key call answer faults whole t =
        let journal : new.journal ≡ old.journal ++ entry_under key call answer ∷ [] = ap (λ (h : HallState C A M). h.journal) t.1 in
        record {
          legal = subst (Legal r memories) (sym journal)
              (legal_push r memories old.journal (entry_under key call answer) s.legal
              (subst (λ (m : List M). Rattle.host_model.specs.Journal.IsAnswered r m (entry_under key call answer)) (s.behind whole) t.0));
          behind = λ still. ap (λ (h : HallState C A M). h.memories) t.1 ∙ ap (λ (m : List M). after_call r m call) (s.behind whole)
              ∙ sym (after_push r memories old.journal (entry_under key call answer)) ∙ ap (after r memories) (sym journal);
        }

    apply_is : (key : Key) (call : C) (faults : ℕ) (answer : HallAnswer A) → ApplyGives r old key call faults answer new → IsSound new
    apply_is key call faults (applied a) g = effect_is key call a faults g.0 g.1
    apply_is key call faults no_memory g =
        ⊎_elim (λ (t : new ≡ record old { faults = faults }). stays (record old { faults = faults }) t refl refl refl)
        (λ (t : (a : A) × TakesEffect r old key call a faults new). effect_is key call t.0 faults g.0 t.1) g.1
    apply_is key call faults journal_fault g =
        record {
          legal = subst (Legal r memories) (sym (ap (λ (h : HallState C A M). h.journal) g.2)) s.legal;
          behind = λ whole. absurd (false≢true (sym whole ∙ ap (λ (h : HallState C A M). h.broken) g.2));
        }
    apply_is key call faults is_broken g = stays (record old { faults = faults }) g.1 refl refl refl
    apply_is key call faults _ g = absurd g

    step_is : (op : HallOperation C) (answer : HallAnswer A) → HallGives r old op answer new → IsSound new
    step_is (submit key payload) done g = stays _ g.1 refl refl refl
    step_is (submit key payload) is_closed g = stays old g.1 refl refl refl
    step_is (submit key payload) _ g = absurd g
    step_is take_job (job key payload) g = stays _ g.2 refl refl refl
    step_is take_job empty g = stays old g.2 refl refl refl
    step_is take_job is_closed g = stays old g.2 refl refl refl
    step_is take_job _ g = absurd g
    step_is (apply key call) answer g = apply_is key call g.0 answer g.2
    step_is (put key settled) done g = stays _ g refl refl refl
    step_is (put key settled) _ g = absurd g
    step_is collect (outcome key settled) g = stays _ g.2 refl refl refl
    step_is collect empty g = stays old g.2 refl refl refl
    step_is collect is_closed g = stays old g.2 refl refl refl
    step_is collect _ g = absurd g
    step_is close done g = stays _ g refl refl refl
    step_is close _ g = absurd g

  all_sound : (hall : HallState C A M) (log : List (HallCall C A M)) → IsSound hall → IsHistory (HallGives r) hall log → IsSound (meaning_after hall log)
  all_sound hall [] s h = s
  all_sound hall (e ∷ log) s h = all_sound e.after log (step_is hall s e.after e.op e.reply h.0) h.1

module _ {C A M : Type 0} (n : ℕ) (r : ServiceRules C A M) (hub : HubState C A M) (log : List (HubCall C A M)) (history : IsHistory (HubGives n r) hub log) where
  abbrev last : HubState C A M
  last = meaning_after hub log

  abbrev opening : HallState C A M
  opening = as_hall hub []

  abbrev one : List (HallCall C A M)
  one = hall_calls n [] log

  one_history : IsHistory (HallGives r) opening one
  one_history = is_one_hall n r [] hub log history

  one_end : meaning_after opening one ≡ as_hall last (all_put [] log)
  one_end = ends_as_one n r [] hub log history

  pub newly : IsOpenedHub hub → IsNewlyOpened opening
  newly o = record { jobs = o.jobs; taken = o.taken; outcomes = refl; closed = o.closed; broken = o.broken }

  -- of a new hub
  module _ (memories : List M) (new : IsNewHub memories hub) where
    sound : IsSound r memories (meaning_after opening one)
    sound =
        all_sound r memories opening one
        (record { legal = subst (Legal r memories) (sym new.journal) tt; behind = λ whole. new.memories ∙ ap (after r memories) (sym new.journal) }) one_history

    pub journal_is_legal : Legal r memories last.journal
    journal_is_legal = subst (λ (h : HallState C A M). Legal r memories h.journal) one_end sound.legal

    pub services_behind : last.broken ≡ false → last.memories ≡ after r memories last.journal
    services_behind = subst (λ (h : HallState C A M). h.broken ≡ false → h.memories ≡ after r memories h.journal) one_end sound.behind

    pub services_ahead : last.broken ≡ true → (call : C) × (last.memories ≡ after_call r (after r memories last.journal) call)
    services_ahead =
        subst (λ (h : HallState C A M). h.broken ≡ true → (call : C) × (h.memories ≡ after_call r (after r memories h.journal) call)) one_end
        (subst (λ (m : List M). (meaning_after opening one).broken ≡ true
        → (call : C) × ((meaning_after opening one).memories ≡ after_call r (after r m (meaning_after opening one).journal) call)) new.memories a.services.ahead)
      where
        a : Accounted r opening (asks_of one) (meaning_after opening one)
        a = account r opening memories one (record { opened = newly new.opened; memories = new.memories; journal = new.journal }) one_history

  pub broken_shows : IsOpenedHub hub → last.broken ≡ true → Rose hub.faults last.faults
  broken_shows o = subst (λ (h : HallState C A M). h.broken ≡ true → Rose hub.faults h.faults) one_end (broken_rose r opening one (newly o) one_history)

  pub whole_counts : last.broken ≡ false → last.faults ≡ hub.faults
  whole_counts = subst (λ (h : HallState C A M). h.broken ≡ false → h.faults ≡ hub.faults) one_end (λ whole. (whole_count r opening one one_history whole).1)
