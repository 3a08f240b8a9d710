-- In a rehearsal in which each connection has ended nothing is left under way; so just where memory ran out, some cause is want of memory.
use Rattle.std.proofs.Common.{◌≡◌, ◌≢◌, ◌↔◌, ℕ, ◌+◌, ◌<◌, ◌≤◌, ◌⊎◌, Some, List, [], ◌∷◌, map, length, slice_get, sym, ap, ◌∙◌, subst, inl, inr, refl, arith, length-append}
use Rattle.std.proofs.lemmas.Bool.{cases_lt}
use Rattle.std.proofs.lemmas.Option.{none-some, slice_get_past}
use Rattle.host_model.specs.declared.key.Key.{Key}
use Rattle.host_model.specs.declared.cause.EndCause.{EndCause}
use Rattle.host_model.specs.declared.cause.EndCause.TheVariants.{NoMemory}
use Rattle.host_model.specs.Journal.{ServiceRules, entries_of}
use Rattle.host_model.specs.DeskRules.{DeskRules}
use Rattle.host_model.proofs.Lists.{nil-cons}
use Rattle.machine_model.specs.HallState.{Job, JobOutcome}
use Rattle.machine_model.specs.Worker.{WorkerState, idle, holds, has_answer, has_none, key_held}
use Rattle.machine_model.specs.Machine.{Cell, MachineEvent, EventsLead, IsFirst, HaveAllEnded}
use Rattle.machine_model.specs.Plain.{Told, event_told, run_plain}
use Rattle.machine_model.specs.Places.{PayloadPlace, collected_all, ready, queued, held_by, put_out, jobs_of, outcomes_of, IsUncollected, PayloadIsAt, CellKeeps}
use Rattle.machine_model.proofs.Lists.{get_within, own_first}
use Rattle.script_model.specs.ScriptLines.{ScriptPlan}
use Rattle.script_model.specs.Playing.{MemoryAt}
use Rattle.script_model.specs.Rehearsing.{IsRehearsalOf}
use Rattle.script_model.proofs.Waiting.{first_outcome}
use Rattle.script_model.proofs.Wanting.{ShowsAt, shown, at_its_end}

module _ {C A M : Type 0} (d : DeskRules C A) (r : ServiceRules C A M) (opening : List M) (cell : Cell C A M) (s : CellKeeps d r opening cell) where
  -- a connection's last payload isn't collected
  abbrev IsUnderWay : ℕ → Type 0
  IsUnderWay c = (cell.loop.conns c).collected < length (cell.loop.conns c).payloads

  under_way : (c : ℕ) (before : List (List ℕ)) (p : List ℕ) → IsUncollected (cell.loop.conns c) before p → IsUnderWay c
  under_way c before p u =
      let m : length (cell.loop.conns c).payloads ≡ length before + 1 = ap length u.last ∙ length-append before (p ∷ []) in
      let n : (cell.loop.conns c).collected ≡ length before = u.collected in
      omega arith

  abbrev IsAt : ℕ → PayloadPlace → Type 0
  IsAt c place = PayloadIsAt d cell.workers (jobs_of c cell.hall.jobs) (outcomes_of c cell.hall.outcomes) (entries_of c cell.hall.journal) c (cell.loop.conns c) place

  job_under_way : (c : ℕ) (j : Job) (js : List Job) → jobs_of c cell.hall.jobs ≡ j ∷ js → (place : PayloadPlace) → IsAt c place → IsUnderWay c
  job_under_way c j js e collected_all a = absurd (nil-cons j js (sym a.0 ∙ e))
  job_under_way c j js e ready a = absurd (nil-cons j js (sym a.3 ∙ e))
  job_under_way c j js e queued a = under_way c a.0 a.1 a.2
  job_under_way c j js e (held_by w) a = absurd (nil-cons j js (sym a.3 ∙ e))
  job_under_way c j js e (put_out settled) a = absurd (nil-cons j js (sym a.3 ∙ e))

  held_under_way : (w : ℕ) (key : Key) → key_held (cell.workers w) ≡ Some key → (key.c < cell.loop.count) × IsUnderWay key.c
  held_under_way w key e = (t.0, go (subst (IsAt key.c) t.1 (s.at key.c t.0)))
    where
      t : (key.c < cell.loop.count) × (s.place key.c ≡ held_by w)
      t = s.workers w key e

      go : IsAt key.c (held_by w) → IsUnderWay key.c
      go a = under_way key.c a.0 a.1 a.2

  -- where nothing is under way, no job waits, no outcome is left, and no worker has a job
  module _ (none : (c : ℕ) → c < cell.loop.count → IsUnderWay c → ⊥) where
    no_jobs : cell.hall.jobs ≡ []
    no_jobs = go cell.hall.jobs refl
      where
        found : (j : Job) (js : List Job) → cell.hall.jobs ≡ j ∷ js → (j.key.c < cell.loop.count) ⊎ (cell.loop.count ≤ j.key.c) → ⊥
        found j js e (inl l) =
            none j.key.c l (job_under_way j.key.c j (jobs_of j.key.c js) (ap (jobs_of j.key.c) e ∙ own_first (λ (x : Job). x.key.c) j.key.c j js refl) (s.place j.key.c) (s.at j.key.c l))
        found j js e (inr l) =
            nil-cons j (jobs_of j.key.c js) (sym (s.nobody j.key.c l).0 ∙ ap (jobs_of j.key.c) e ∙ own_first (λ (x : Job). x.key.c) j.key.c j js refl)

        go : (jobs : List Job) → cell.hall.jobs ≡ jobs → cell.hall.jobs ≡ []
        go [] e = e
        go (j ∷ js) e = absurd (found j js e (cases_lt j.key.c cell.loop.count))

    no_outcomes : cell.hall.outcomes ≡ []
    no_outcomes = go cell.hall.outcomes refl
      where
        go : (outs : List JobOutcome) → cell.hall.outcomes ≡ outs → cell.hall.outcomes ≡ []
        go [] e = e
        go (o ∷ outs) e = absurd (let t : (o.key.c < cell.loop.count) × IsUnderWay o.key.c = first_outcome d r opening cell s o outs e in none o.key.c t.0 t.1)

    no_holder : (w : ℕ) → cell.workers w ≡ idle
    no_holder w = go (cell.workers w) refl
      where
        held : (worker : WorkerState A) (key : Key) → key_held worker ≡ Some key → cell.workers w ≡ worker → ⊥
        held worker key h e = let t : (key.c < cell.loop.count) × IsUnderWay key.c = held_under_way w key (ap key_held e ∙ h) in none key.c t.0 t.1

        go : (worker : WorkerState A) → cell.workers w ≡ worker → cell.workers w ≡ idle
        go idle e = e
        go (holds key payload) e = absurd (held (holds key payload) key refl e)
        go (has_answer key payload answer) e = absurd (held (has_answer key payload answer) key refl e)
        go (has_none key payload) e = absurd (held (has_none key payload) key refl e)

module _ {C A M : Type 0} (d : DeskRules C A) (r : ServiceRules C A M) (memory : ℕ → MemoryAt) (memories : List M) (first : Cell C A M)
    (computes : (first cell : Cell C A M) (told : List Told) → run_plain d r told (Some first) ≡ Some cell → EventsLead d r first (map event_told told) cell)
    (stands : (cell : Cell C A M) (events : List MachineEvent) → EventsLead d r first events cell → CellKeeps d r memories cell)
    (budget workers : ℕ) (script : ScriptPlan) (wants : ℕ) (last : Cell C A M) (is_first : IsFirst memories first) (t : IsRehearsalOf d r memory budget workers script wants first last) where
  at_end : ShowsAt d r memory memories first computes stands last wants
  at_end = shown d r memory memories first computes stands budget workers script wants last is_first t

  -- where memory ran out at no move, no connection has ended for want of it
  pub only_then : wants ≡ 0 → (c : ℕ) → c < last.loop.count → (last.loop.conns c).cause ≢ Some NoMemory
  only_then z c l e = at_end.only z (inl (c, l, e))

  module _ (causes : List EndCause) (ended : HaveAllEnded last.loop causes) where
    none_left : (c : ℕ) → c < last.loop.count → (last.loop.conns c).collected < length (last.loop.conns c).payloads → ⊥
    none_left c l f =
        let n : length causes ≡ last.loop.count = ended.count in
        let k : (x : EndCause) × (slice_get causes c ≡ Some x) = get_within causes c (omega arith) in
        none-some k.0 (sym (at_end.waits.each c l f).0 ∙ ended.each c l ∙ k.1)

    pub nothing_left : (last.hall.jobs ≡ []) × (last.hall.outcomes ≡ []) × ((w : ℕ) → last.workers w ≡ idle)
    nothing_left =
        let k : CellKeeps d r memories last = stands last at_end.events at_end.lead in
        (no_jobs d r memories last k none_left, no_outcomes d r memories last k none_left, no_holder d r memories last k none_left)

    pub exactly : (wants ≡ 0) ↔ ((c : ℕ) → slice_get causes c ≢ Some NoMemory)
    exactly = (
      λ z c e. go z c e (cases_lt c last.loop.count),
      λ n.
          at_its_end d r memory memories first computes stands budget workers script wants last is_first t nothing_left.2 nothing_left.1 (λ c l e. n c (sym (ended.each c l) ∙ e)),
    )
      where
        go : wants ≡ 0 → (c : ℕ) → slice_get causes c ≡ Some NoMemory → (c < last.loop.count) ⊎ (last.loop.count ≤ c) → ⊥
        go z c e (inl l) = only_then z c l (ended.each c l ∙ e)
        go z c e (inr l) = let n : length causes ≡ last.loop.count = ended.count in none-some NoMemory (sym (slice_get_past causes c (omega arith)) ∙ e)
