-- In a run the journal only grows.
use Rattle.std.proofs.Common.{◌≡◌, List, [], ◌∷◌, ◌++◌, refl, sym, ap, ◌∙◌, ⊎_elim, append_assoc, append-nil}
use Rattle.host_model.specs.Journal.{JournalEntry, ServiceRules}
use Rattle.host_model.specs.DeskRules.{DeskRules}
use Rattle.machine_model.specs.HallState.{HallState}
use Rattle.machine_model.specs.HallRule.{HallOperation, submit, take_job, apply, put, collect, close, HallAnswer, done, job, empty, is_closed, applied, no_memory, journal_fault, is_broken, outcome, entry_under, TakesEffect, HallGives}
use Rattle.machine_model.specs.Machine.{Cell, MachineEvent, on_conn, submits, takes, applies, puts, collects, closes, Steps, EventsLead}

module _ {C A M : Type 0} (r : ServiceRules C A M) where
  -- from old to new entries were added
  abbrev pub Grows : HallState C A M → HallState C A M → Type 0
  Grows old new = (more : List (JournalEntry C A)) × (new.journal ≡ old.journal ++ more)

  journal_same : (old other new : HallState C A M) → new ≡ other → other.journal ≡ old.journal → Grows old new
  journal_same old other new is same = ([], ap (λ (h : HallState C A M). h.journal) is ∙ same ∙ sym (append-nil old.journal))

  call_grows : (old new : HallState C A M) (op : HallOperation C) (answer : HallAnswer A) → HallGives r old op answer new → Grows old new
  call_grows old new (submit key payload) done g = journal_same old _ new g.1 refl
  call_grows old new (submit key payload) is_closed g = journal_same old _ new g.1 refl
  call_grows old new (submit key payload) _ g = absurd g
  call_grows old new take_job (job key payload) g = journal_same old _ new g.2 refl
  call_grows old new take_job empty g = journal_same old _ new g.2 refl
  call_grows old new take_job is_closed g = journal_same old _ new g.2 refl
  call_grows old new take_job _ g = absurd g
  call_grows old new (apply key call) (applied answer) g = (entry_under key call answer ∷ [], ap (λ (h : HallState C A M). h.journal) g.2.1.1)
  call_grows old new (apply key call) no_memory g =
      ⊎_elim (λ (t : new ≡ record old { faults = g.0 }). journal_same old _ new t refl)
      (λ (t : (reply : A) × TakesEffect r old key call reply g.0 new). (entry_under key call t.0 ∷ [], ap (λ (h : HallState C A M). h.journal) t.1.1)) g.2.1
  call_grows old new (apply key call) journal_fault g = journal_same old _ new g.2.2 refl
  call_grows old new (apply key call) is_broken g = journal_same old _ new g.2.1 refl
  call_grows old new (apply key call) _ g = absurd g.2
  call_grows old new (put key settled) done g = journal_same old _ new g refl
  call_grows old new (put key settled) _ g = absurd g
  call_grows old new collect (outcome key settled) g = journal_same old _ new g.2 refl
  call_grows old new collect empty g = journal_same old _ new g.2 refl
  call_grows old new collect is_closed g = journal_same old _ new g.2 refl
  call_grows old new collect _ g = absurd g
  call_grows old new close done g = journal_same old _ new g refl
  call_grows old new close _ g = absurd g

  at_hall : (old hall new : HallState C A M) → new ≡ hall → Grows old hall → Grows old new
  at_hall old hall new is g = (g.0, ap (λ (h : HallState C A M). h.journal) is ∙ g.1)

  module _ (d : DeskRules C A) where
    step_grows : (old new : Cell C A M) (event : MachineEvent) → Steps d r old event new → Grows old.hall new.hall
    step_grows old new (on_conn conn_event) t = journal_same old.hall old.hall new.hall (ap (λ (x : Cell C A M). x.hall) t.2) refl
    step_grows old new (submits c) t = at_hall old.hall t.2.2 new.hall (ap (λ (x : Cell C A M). x.hall) t.2.5) (call_grows old.hall t.2.2 (submit _ t.1) t.2.0 t.2.4)
    step_grows old new (takes w) t = at_hall old.hall t.2 new.hall (ap (λ (x : Cell C A M). x.hall) t.5) (call_grows old.hall t.2 take_job t.0 t.4)
    step_grows old new (applies w) t = at_hall old.hall t.2.2 new.hall (ap (λ (x : Cell C A M). x.hall) t.2.5) (call_grows old.hall t.2.2 (apply t.0 t.1) t.2.0 t.2.4)
    step_grows old new (puts w) t = at_hall old.hall t.2.2 new.hall (ap (λ (x : Cell C A M). x.hall) t.2.5) (call_grows old.hall t.2.2 (put t.0 t.1) t.2.0 t.2.4)
    step_grows old new collects t = at_hall old.hall t.2 new.hall (ap (λ (x : Cell C A M). x.hall) t.5) (call_grows old.hall t.2 collect t.0 t.4)
    step_grows old new closes t = at_hall old.hall t.2 new.hall (ap (λ (x : Cell C A M). x.hall) t.5) (call_grows old.hall t.2 close t.0 t.4)

    pub run_grows : (events : List MachineEvent) (old new : Cell C A M) → EventsLead d r old events new → Grows old.hall new.hall
    run_grows [] old new t = journal_same old.hall old.hall new.hall (ap (λ (x : Cell C A M). x.hall) t) refl
    run_grows (event ∷ events) old new t =
        let one : Grows old.hall t.0.hall = step_grows old t.0 event t.1 in
        let rest : Grows t.0.hall new.hall = run_grows events t.0 new t.2 in
        (one.0 ++ rest.0, rest.1 ∙ ap (λ l. l ++ rest.0) one.1 ∙ append_assoc old.hall.journal one.0 rest.0)
