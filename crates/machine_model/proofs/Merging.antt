-- One history of the hall and the loop's weave, step by step, are a run.
use Rattle.std.proofs.Common.{◌≡◌, ◌≢◌, ℕ, ◌⊎◌, ◌==◌, if◌then◌else◌, List, [], ◌∷◌, ◌++◌, map, refl, sym, ap, ◌∙◌, subst, inl, inr, eq-eqb, ne_eqb}
use Rattle.std.specs.List.{flat_map}
use Rattle.std.proofs.lemmas.Bool.{cases_eq}
use Rattle.host_model.specs.declared.cause.EndCause.{EndCause}
use Rattle.host_model.specs.Journal.{ServiceRules}
use Rattle.host_model.specs.Headline.{Headline}
use Rattle.host_model.specs.DeskRules.{DeskRules}
use Rattle.host_model.proofs.Lists.{nil-cons, cons_parts}
use Rattle.machine_model.specs.HallState.{HallState, IsNew}
use Rattle.machine_model.specs.HallRule.{HallOperation, submit, take_job, apply, put, collect, close, HallAnswer, empty, is_closed, HallGives}
use Rattle.call_history.specs.History.{meaning_after, IsHistory}
use Rattle.call_history.specs.Calls.{calls_by, ask_of, asks_of}
use Rattle.call_history.specs.Laws.{calls_by-first, calls_by-first-other}
use Rattle.machine_model.specs.OwnCalls.{HallCall, HallAsk}
use Rattle.machine_model.specs.Loop.{Loop, LoopAsks}
use Rattle.machine_model.specs.Worker.{WorkerState, idle, holds, tried, WorkerAsks}
use Rattle.machine_model.specs.Machine.{Cell, with_worker, MachineEvent, Steps, EventsLead, IsFirst, HaveAllEnded}
use Rattle.machine_model.specs.Merge.{LoopItem, handles, calls, WorkerTurn, worked, worked_by_call, found_none, stopped, asked, AreTurns, event_by, op_with_answer, OfTurns, calls_in, Weaves, up_to_call, behind_call, threaded, merge, event_of, IsOneHistory, cell_at_first}
use Rattle.machine_model.proofs.Lists.{put_same, put_other}

module _ {C A : Type 0} (d : DeskRules C A) where
  -- what a worker asks, one after another, from the hand that it has
  abbrev pub Works : WorkerState A → List (HallOperation C × HallAnswer A) → Type 0
  Works worker [] = Unit {0}
  Works worker (a ∷ asks) = (next : WorkerState A) × WorkerAsks d worker a.0 a.1 next × Works next asks

  -- turns are such
  turns_work : (turns : List (WorkerTurn C A)) → AreTurns d turns → Works idle (flat_map asked turns)
  turns_work [] t = tt
  turns_work (worked key payload settled ∷ turns) t = (holds key payload, (refl, refl), (idle, (t.0, refl), turns_work turns t.1))
  turns_work (worked_by_call key payload call answer settled ∷ turns) t =
      (holds key payload, (refl, refl), (tried key payload answer, (payload, refl, t.0, refl), (idle, (t.2, refl), turns_work turns t.3)))
  turns_work (found_none empty ∷ turns) t = (idle, (refl, refl), turns_work turns t.1)
  turns_work (found_none is_closed ∷ turns) t = (idle, (refl, refl), turns_work turns t.1)
  turns_work (found_none _ ∷ turns) t = absurd t.0
  turns_work (stopped key payload call answer ∷ turns) t = (
    holds key payload,
    (refl, refl),
    (
      tried key payload answer,
      (payload, refl, t.0, refl),
      (tried key payload answer, refl, subst (λ ts. Works (tried key payload answer) (flat_map asked ts)) (sym t.2) tt),
    ),
  )

module _ {C A : Type 0} where
  -- what a weave has from its first call on
  abbrev from_call : List (LoopItem C A) → List (LoopItem C A)
  from_call [] = []
  from_call (handles conn_event ∷ items) = from_call items
  from_call (calls e ∷ items) = calls e ∷ items

  no_call : (items : List (LoopItem C A)) → [] ≡ calls_in items → from_call items ≡ []
  no_call [] e = refl
  no_call (handles conn_event ∷ items) e = no_call items e
  no_call (calls x ∷ items) e = absurd (nil-cons x (calls_in items) e)

  first_call : (items : List (LoopItem C A)) (x : HallAsk C A) (log : List (HallAsk C A)) → x ∷ log ≡ calls_in items
      → (from_call items ≡ calls x ∷ behind_call items) × (log ≡ calls_in (behind_call items))
  first_call [] x log e = absurd (nil-cons x log (sym e))
  first_call (handles conn_event ∷ items) x log e = first_call items x log e
  first_call (calls y ∷ items) x log e =
      let parts : (x ≡ y) × (log ≡ calls_in items) = cons_parts x y log (calls_in items) e in
      (ap (λ z. calls z ∷ items) (sym parts.0), parts.1)

  map_event-append : (xs ys : List (LoopItem C A)) → map event_of (xs ++ ys) ≡ map event_of xs ++ map event_of ys
  map_event-append [] ys = refl
  map_event-append (x ∷ xs) ys = ap (λ r. event_of x ∷ r) (map_event-append xs ys)

module _ {C A M : Type 0} (d : DeskRules C A) (r : ServiceRules C A M) where
  pub runs-append : (old mid new : Cell C A M) (xs ys : List MachineEvent) → EventsLead d r old xs mid → EventsLead d r mid ys new → EventsLead d r old (xs ++ ys) new
  runs-append old mid new [] ys a b = subst (λ x. EventsLead d r x ys new) a b
  runs-append old mid new (x ∷ xs) ys a b = (a.0, a.1, runs-append a.0 mid new xs ys a.2 b)

  -- a call of the loop, and one of a worker, is a step
  step_by_loop : (cell : Cell C A M) (seat : ℕ) (op : HallOperation C) (answer : HallAnswer A) (loop : Loop) (hall : HallState C A M) → LoopAsks cell.loop op answer loop → HallGives r cell.hall op answer hall
      → Steps d r cell (event_by seat op) (record cell { loop = loop; hall = hall })
  step_by_loop cell seat (submit key payload) answer loop hall asks g = (key.i, payload, (answer, loop, hall, asks, g, refl))
  step_by_loop cell seat take_job answer loop hall asks g = absurd asks
  step_by_loop cell seat (apply key call) answer loop hall asks g = absurd asks
  step_by_loop cell seat (put key settled) answer loop hall asks g = absurd asks
  step_by_loop cell seat collect answer loop hall asks g = (answer, loop, hall, asks, g, refl)
  step_by_loop cell seat close answer loop hall asks g = (answer, loop, hall, asks, g, refl)

  same_workers : (workers : ℕ → WorkerState A) (w : ℕ) (worker : WorkerState A) → worker ≡ workers w → with_worker workers w worker ≡ workers
  same_workers workers w worker e = λ i v. go v (cases_eq v w) i
    where
      go : (v : ℕ) → (v ≡ w) ⊎ (v ≡ w → ⊥) → with_worker workers w worker v ≡ workers v
      go v (inl same) = subst (λ x. with_worker workers w worker x ≡ workers x) (sym same) (put_same workers w worker ∙ e)
      go v (inr other) = put_other workers w worker v other

  step_by_worker : (cell : Cell C A M) (seat : ℕ) (op : HallOperation C) (answer : HallAnswer A) (worker : WorkerState A) (hall : HallState C A M) → WorkerAsks d (cell.workers seat) op answer worker
      → HallGives r cell.hall op answer hall → Steps d r cell (event_by seat op) (record cell { hall = hall; workers = with_worker cell.workers seat worker })
  step_by_worker cell seat (submit key payload) answer worker hall asks g = absurd asks
  step_by_worker cell seat take_job answer worker hall asks g = (answer, worker, hall, asks, g, refl)
  step_by_worker cell seat (apply key call) answer worker hall asks g = (key, call, (answer, worker, hall, asks, g, refl))
  step_by_worker cell seat (put key settled) answer worker hall asks g = (key, settled, (answer, worker, hall, asks, g, refl))
  step_by_worker cell seat collect answer worker hall asks g = absurd asks
  step_by_worker cell seat close answer worker hall asks g =
      (answer, cell.loop, hall, refl, g, ap (λ hs. record cell { hall = hall; workers = hs }) (same_workers cell.workers seat worker asks))

  -- what the loop does before its first call
  lead_runs : (items : List (LoopItem C A)) (cell : Cell C A M) (loop : Loop) → Weaves d.max cell.loop items loop
      → (mid : Loop) × EventsLead d r cell (map event_of (up_to_call items)) (record cell { loop = mid }) × Weaves d.max mid (from_call items) loop
  lead_runs [] cell loop t = (cell.loop, refl, t)
  lead_runs (handles conn_event ∷ items) cell loop t =
      let next : Cell C A M = record cell { loop = t.0 } in
      let u : (mid : Loop) × EventsLead d r next (map event_of (up_to_call items)) (record next { loop = mid }) × Weaves d.max mid (from_call items) loop = lead_runs items next loop t.2 in
      (u.0, (next, (t.0, t.1, refl), u.1), u.2)
  lead_runs (calls e ∷ items) cell loop t = (cell.loop, refl, t)

  -- where a run of these ends
  abbrev EndsAt : Cell C A M → List (LoopItem C A) → Loop → HallState C A M → Type 0
  EndsAt cell items loop hall = (new : Cell C A M) × EventsLead d r cell (map event_of items) new × (new.loop ≡ loop) × (new.hall ≡ hall)

  -- a history and a weave, of which what stands before the first call is done, run on
  abbrev Threads : List (HallCall C A M) → Type 0
  Threads log =
      (weave : List (LoopItem C A)) (cell : Cell C A M) (loop : Loop) → IsHistory (HallGives r) cell.hall log → calls_by 0 (asks_of log) ≡ calls_in weave
      → Weaves d.max cell.loop (from_call weave) loop → ((v : ℕ) → v ≢ 0 → Works d (cell.workers v) (map op_with_answer (calls_by v (asks_of log))))
      → EndsAt cell (threaded (asks_of log) (behind_call weave)) loop (meaning_after cell.hall log)

  one_more : (e : HallCall C A M) (log : List (HallCall C A M)) → Threads log → Threads (e ∷ log)
  one_more e log threads weave cell loop h same t work = go (cases_eq e.seat 0)
    where
      go : (e.seat ≡ 0) ⊎ (e.seat ≡ 0 → ⊥) → EndsAt cell (threaded (asks_of (e ∷ log)) (behind_call weave)) loop (meaning_after e.after log)
      go (inl zero) =
          let parts : (from_call weave ≡ calls (ask_of e) ∷ behind_call weave) × (calls_by 0 (asks_of log) ≡ calls_in (behind_call weave)) =
          first_call weave (ask_of e) (calls_by 0 (asks_of log)) (sym (calls_by-first 0 (ask_of e) (asks_of log) zero) ∙ same) in
          let u : (next : Loop) × LoopAsks cell.loop e.op e.reply next × Weaves d.max next (behind_call weave) loop = subst (λ w. Weaves d.max cell.loop w loop) parts.0 t in
          let next : Cell C A M = record cell { loop = u.0; hall = e.after } in
          let l : (mid : Loop) × EventsLead d r next (map event_of (up_to_call (behind_call weave))) (record next { loop = mid }) × Weaves d.max mid (from_call (behind_call weave)) loop =
          lead_runs (behind_call weave) next loop u.2 in
          let later : EndsAt (record next { loop = l.0 }) (threaded (asks_of log) (behind_call (behind_call weave))) loop (meaning_after e.after log) =
          threads (behind_call weave) (record next { loop = l.0 }) loop h.1 parts.1 l.2
          (λ v n. subst (λ own. Works d (cell.workers v) (map op_with_answer own)) (calls_by-first-other v (ask_of e) (asks_of log) (λ q. n (sym q ∙ zero))) (work v n)) in
          let items : List (LoopItem C A) = behind_call weave in
          let events : List MachineEvent = map event_of (up_to_call items) ++ map event_of (threaded (asks_of log) (behind_call items)) in
          let chosen : map event_of (if e.seat == 0 then up_to_call items ++ threaded (asks_of log) (behind_call items) else threaded (asks_of log) items) ≡ events =
          ap (λ b. map event_of (if b then up_to_call items ++ threaded (asks_of log) (behind_call items) else threaded (asks_of log) items)) (eq-eqb e.seat 0 zero)
          ∙ map_event-append (up_to_call items) (threaded (asks_of log) (behind_call items)) in (
            later.0,
            (
              next,
              step_by_loop cell e.seat e.op e.reply u.0 e.after u.1 h.0,
              subst (λ es. EventsLead d r next es later.0) (sym chosen)
                  (runs-append next (record next { loop = l.0 }) later.0 (map event_of (up_to_call items)) (map event_of (threaded (asks_of log) (behind_call items))) l.1 later.1),
            ),
            later.2,
            later.3,
          )
      go (inr n) =
          let w : (worker : WorkerState A) × WorkerAsks d (cell.workers e.seat) e.op e.reply worker × Works d worker (map op_with_answer (calls_by e.seat (asks_of log))) =
          subst (λ own. Works d (cell.workers e.seat) (map op_with_answer own)) (calls_by-first e.seat (ask_of e) (asks_of log) refl) (work e.seat n) in
          let next : Cell C A M = record cell { hall = e.after; workers = with_worker cell.workers e.seat w.0 } in
          let later : EndsAt next (threaded (asks_of log) (behind_call weave)) loop (meaning_after e.after log) =
          threads weave next loop h.1 (sym (calls_by-first-other 0 (ask_of e) (asks_of log) n) ∙ same) t (λ v m. works v m w.0 w.2 (cases_eq v e.seat)) in
          let items : List (LoopItem C A) = behind_call weave in
          let chosen : map event_of (if e.seat == 0 then up_to_call items ++ threaded (asks_of log) (behind_call items) else threaded (asks_of log) items) ≡ map event_of (threaded (asks_of log) items) =
          ap (λ b. map event_of (if b then up_to_call items ++ threaded (asks_of log) (behind_call items) else threaded (asks_of log) items)) (ne_eqb e.seat 0 n) in (
            later.0,
            (next, step_by_worker cell e.seat e.op e.reply w.0 e.after w.1 h.0, subst (λ es. EventsLead d r next es later.0) (sym chosen) later.1),
            later.2,
            later.3,
          )
        where
          works : (v : ℕ) → v ≢ 0 → (worker : WorkerState A) → Works d worker (map op_with_answer (calls_by e.seat (asks_of log))) → (v ≡ e.seat) ⊎ (v ≡ e.seat → ⊥)
              → Works d (with_worker cell.workers e.seat worker v) (map op_with_answer (calls_by v (asks_of log)))
          works v m worker w (inl same) =
              subst (λ x. Works d (with_worker cell.workers e.seat worker x) (map op_with_answer (calls_by x (asks_of log)))) (sym same)
              (subst (λ x. Works d x (map op_with_answer (calls_by e.seat (asks_of log)))) (sym (put_same cell.workers e.seat worker)) w)
          works v m worker w (inr other) =
              subst (λ x. Works d x (map op_with_answer (calls_by v (asks_of log)))) (sym (put_other cell.workers e.seat worker v other))
              (subst (λ own. Works d (cell.workers v) (map op_with_answer own)) (calls_by-first-other v (ask_of e) (asks_of log) (λ q. other (sym q))) (work v m))

  threaded_runs : (log : List (HallCall C A M)) → Threads log
  threaded_runs [] weave cell loop h same t work = (cell, refl, sym (subst (λ w. Weaves d.max cell.loop w loop) (no_call weave same) t), refl)
  threaded_runs (e ∷ log) weave cell loop h same t work = one_more e log (threaded_runs log) weave cell loop h same t work

  pub merged : (memories : List M) (opening : HallState C A M) (log : List (HallCall C A M)) (weave : List (LoopItem C A)) (loop : Loop) → IsOneHistory d r memories opening log weave loop
      → EndsAt (cell_at_first opening) (merge (asks_of log) weave) loop (meaning_after opening log)
  merged memories opening log weave loop o =
      let first : Cell C A M = cell_at_first opening in
      let l : (mid : Loop) × EventsLead d r first (map event_of (up_to_call weave)) (record first { loop = mid }) × Weaves d.max mid (from_call weave) loop = lead_runs weave first loop o.woven in
      let later : EndsAt (record first { loop = l.0 }) (threaded (asks_of log) (behind_call weave)) loop (meaning_after opening log) =
      threaded_runs log weave (record first { loop = l.0 }) loop o.history o.same l.2
      (λ v n. let t : OfTurns d (calls_by v (asks_of log)) = o.turns v n in subst (Works d idle) (sym t.2) (turns_work d t.0 t.1)) in (
        later.0,
        subst (λ es. EventsLead d r first es later.0) (sym (map_event-append (up_to_call weave) (threaded (asks_of log) (behind_call weave))))
            (runs-append first (record first { loop = l.0 }) later.0 (map event_of (up_to_call weave)) (map event_of (threaded (asks_of log) (behind_call weave))) l.1 later.1),
        later.2,
        later.3,
      )

  pub first_is : (memories : List M) (opening : HallState C A M) → IsNew memories opening → IsFirst memories (cell_at_first opening)
  first_is memories opening n = record { tape = refl; count = refl; hall = n; workers = λ w. refl }

  -- and so it meets what every run meets
  pub merged_meets : (memories : List M) (opening : HallState C A M) (log : List (HallCall C A M)) (weave : List (LoopItem C A)) (loop : Loop) (causes : List EndCause)
      → ((cell : Cell C A M) (events : List MachineEvent) → EventsLead d r (cell_at_first opening) events cell → HaveAllEnded cell.loop causes
      → Headline d r memories cell.loop.tape cell.hall.journal causes)
      → IsOneHistory d r memories opening log weave loop → HaveAllEnded loop causes → Headline d r memories loop.tape (meaning_after opening log).journal causes
  merged_meets memories opening log weave loop causes law o ended =
      let m : EndsAt (cell_at_first opening) (merge (asks_of log) weave) loop (meaning_after opening log) = merged memories opening log weave loop o in
      subst (λ (t : Loop × HallState C A M). Headline d r memories t.0.tape t.1.journal causes) (λ i. (m.2 i, m.3 i))
      (law m.0 (map event_of (merge (asks_of log) weave)) m.1 (subst (λ l. HaveAllEnded l causes) (sym m.2) ended))
