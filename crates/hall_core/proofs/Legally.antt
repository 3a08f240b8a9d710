-- The journal of a hall is a legal history of its services, and leaves the memories that they have unless it failed.
use Rattle.std.proofs.Common.{◌≡◌, ℕ, ◌⊎◌, Bool, true, false, List, [], ◌∷◌, ◌++◌, map, refl, sym, ap, ◌∙◌, subst, inl, inr, ⊎_elim}
use Rattle.std.proofs.lemmas.Bool.{true≢false}
use Rattle.streams.specs.Cause.{Rose}
use Rattle.host_model.specs.declared.key.Key.{Key}
use Rattle.host_model.specs.Journal.{JournalEntry, ServiceRules, after, after_call, IsAnswered, Legal}
use Rattle.host_model.proofs.Filters.{legal_push}
use Rattle.call_history.specs.History.{meaning_after, IsHistory}
use Rattle.call_rules.specs.PlainCalls.{PlainCall, PlainAnswer}
use Rattle.call_rules.specs.Entries.{CallEntry}
use Rattle.call_rules.specs.Handling.{ServiceState, handler_rules}
use Rattle.machine_model.specs.HallState.{HallState, IsNewlyOpened}
use Rattle.machine_model.specs.HallRule.{HallOperation, submit, take_job, apply, put, collect, close, HallAnswer, done, job, empty, is_closed, applied, no_memory, journal_fault, is_broken, outcome, entry_under, TakesEffect, ApplyGives, HallGives}
use Rattle.machine_model.specs.OwnCalls.{HallCall}
use Rattle.machine_model.specs.SeenHall.{MayHave, filled, SeenCall}
use Rattle.machine_model.proofs.Lists.{after_push}
use Rattle.machine_model.proofs.Filling.{IsFilled, fill}
use Rattle.machine_model.proofs.Breaking.{broken_rose}
use Rattle.hall_core.specs.Meant.{ServedHall}
use Rattle.hall_core.specs.Asked.{StepGives, StepCall}
use Rattle.hall_core.specs.Following.{call_seen, same_end, seen_history}

module _ {C A M : Type 0} (r : ServiceRules C A M) (first : List M) where
  -- the journal is legal, and leaves the memories unless the hall is broken
  abbrev Keeps : HallState C A M → Type 0
  Keeps hall = Legal r first hall.journal × (hall.broken ≡ false → hall.memories ≡ after r first hall.journal)

  keeps_same : (old other new : HallState C A M) → new ≡ other → Keeps other → Keeps new
  keeps_same old other new is k = subst Keeps (sym is) k

  took_effect : (old new : HallState C A M) (key : Key) (call : C) (answer : A) (faults : ℕ) → old.broken ≡ false → TakesEffect r old key call answer faults new → Keeps old → Keeps new
  took_effect old new key call answer faults whole g k =
      let e : JournalEntry C A = entry_under key call answer in
      let is : old.memories ≡ after r first old.journal = k.1 whole in
      let other : HallState C A M = record old { journal = old.journal ++ e ∷ []; memories = after_call r old.memories call; faults = faults } in
      keeps_same old other new g.1 (
        legal_push r first old.journal e k.0 (subst (λ (ms : List M). IsAnswered r ms e) is g.0),
        (λ h. ap (λ (ms : List M). after_call r ms call) is ∙ sym (after_push r first old.journal e)),
      )

  applying : (old new : HallState C A M) (key : Key) (call : C) (answer : HallAnswer A) (faults : ℕ) → ApplyGives r old key call faults answer new → Keeps old → Keeps new
  applying old new key call (applied reply) faults g k = took_effect old new key call reply faults g.0 g.1 k
  applying old new key call no_memory faults g k =
      ⊎_elim (λ (t : new ≡ record old { faults = faults }). keeps_same old _ new t k)
      (λ (t : (reply : A) × TakesEffect r old key call reply faults new). took_effect old new key call t.0 faults g.0 t.1 k) g.1
  applying old new key call journal_fault faults g k = keeps_same old _ new g.2 (k.0, (λ h. absurd (true≢false h)))
  applying old new key call is_broken faults g k = keeps_same old _ new g.1 k
  applying old new key call _ faults g k = absurd g

  stepping : (old new : HallState C A M) (op : HallOperation C) (answer : HallAnswer A) → HallGives r old op answer new → Keeps old → Keeps new
  stepping old new (submit key payload) done g k = keeps_same old _ new g.1 k
  stepping old new (submit key payload) is_closed g k = keeps_same old _ new g.1 k
  stepping old new (submit key payload) _ g k = absurd g
  stepping old new take_job (job key payload) g k = keeps_same old _ new g.2 k
  stepping old new take_job empty g k = keeps_same old _ new g.2 k
  stepping old new take_job is_closed g k = keeps_same old _ new g.2 k
  stepping old new take_job _ g k = absurd g
  stepping old new (apply key call) answer g k = applying old new key call answer g.0 g.2 k
  stepping old new (put key settled) done g k = keeps_same old _ new g k
  stepping old new (put key settled) _ g k = absurd g
  stepping old new collect (outcome key settled) g k = keeps_same old _ new g.2 k
  stepping old new collect empty g k = keeps_same old _ new g.2 k
  stepping old new collect is_closed g k = keeps_same old _ new g.2 k
  stepping old new collect _ g k = absurd g
  stepping old new close done g k = keeps_same old _ new g k
  stepping old new close _ g k = absurd g

  kept : (hall : HallState C A M) (log : List (HallCall C A M)) → Keeps hall → IsHistory (HallGives r) hall log → Keeps (meaning_after hall log)
  kept hall [] k history = k
  kept hall (e ∷ log) k history = kept e.after log (stepping hall e.after e.op e.reply history.0 k) history.1

-- a hall that was newly opened over an empty journal
pub tells : (opening : ServedHall) (log : List StepCall) → IsNewlyOpened (filled opening []) → MayHave opening.told [] → IsHistory StepGives opening log
    → (entries : List CallEntry) × MayHave (meaning_after opening log).told entries × Legal handler_rules opening.memories entries
    × (((meaning_after opening log).memories ≡ after handler_rules opening.memories entries) ⊎ Rose opening.faults (meaning_after opening log).faults)
tells opening log opened may history =
    subst (λ (hall : ServedHall). (entries : List CallEntry) × MayHave hall.told entries × Legal handler_rules opening.memories entries
    × ((hall.memories ≡ after handler_rules opening.memories entries) ⊎ Rose opening.faults hall.faults)) (same_end opening log)
    (full.1, full.4, legal.0, either last.broken refl)
  where
    seen : List (SeenCall PlainCall PlainAnswer ServiceState)
    seen = map call_seen log

    last : ServedHall
    last = meaning_after opening seen

    full : IsFilled handler_rules opening [] seen
    full = fill handler_rules opening [] seen may (seen_history opening log history)

    legal : Keeps handler_rules opening.memories (filled last full.1)
    legal = subst (Keeps handler_rules opening.memories) full.5 (kept handler_rules opening.memories (filled opening []) full.0 (tt, (λ h. refl)) full.2)

    either : (b : Bool) → last.broken ≡ b → (last.memories ≡ after handler_rules opening.memories full.1) ⊎ Rose opening.faults last.faults
    either false is = inl (legal.1 is)
    either true is = inr (subst (λ (h : HallState PlainCall PlainAnswer ServiceState). Rose opening.faults h.faults) full.5
        (broken_rose handler_rules (filled opening []) full.0 opened full.2 (ap (λ (h : HallState PlainCall PlainAnswer ServiceState). h.broken) full.5 ∙ is)))
