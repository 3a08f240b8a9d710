-- A moment of the loop's own order is a moment of the run that it makes with one history of the hall.
use Rattle.std.proofs.Common.{◌≡◌, ◌≢◌, ℕ, ◌⊎◌, List, [], ◌∷◌, ◌++◌, map, refl, sym, ap, ◌∙◌, subst, inl, inr}
use Rattle.std.specs.List.{flat_map}
use Rattle.std.proofs.lemmas.Bool.{cases_eq}
use Rattle.host_model.specs.Journal.{ServiceRules}
use Rattle.host_model.specs.DeskRules.{DeskRules}
use Rattle.host_model.proofs.Lists.{nil-cons, cons_parts}
use Rattle.call_history.specs.History.{meaning_after, IsHistory}
use Rattle.call_history.specs.Calls.{calls_by, ask_of, asks_of}
use Rattle.call_history.specs.Laws.{calls_by-first, calls_by-first-other}
use Rattle.machine_model.specs.HallState.{HallState}
use Rattle.machine_model.specs.HallRule.{HallOperation, submit, take_job, apply, put, collect, close, HallAnswer, empty, is_closed, HallGives}
use Rattle.machine_model.specs.OwnCalls.{HallCall, HallAsk}
use Rattle.machine_model.specs.Loop.{Loop, LoopAsks}
use Rattle.machine_model.specs.Worker.{WorkerState, idle, holds, tried, WorkerAsks}
use Rattle.machine_model.specs.Machine.{Cell, with_worker, MachineEvent, on_conn, Steps, EventsLead}
use Rattle.machine_model.specs.Merge.{LoopItem, handles, calls, WorkerTurn, worked, worked_by_call, found_none, stopped, asked, AreTurns, event_by, op_with_answer, OfTurns, calls_in, no_loop, Weaves, IsOneHistory, cell_at_first}
use Rattle.machine_model.proofs.Lists.{put_same, put_other}

module _ {C A : Type 0} (d : DeskRules C A) where
  -- what a worker asks, one after another, leads from the hand that it has to one of which this holds
  abbrev pub WorksTo : (WorkerState A → Type 0) → WorkerState A → List (HallOperation C × HallAnswer A) → Type 0
  WorksTo Holds worker [] = Holds worker
  WorksTo Holds worker (a ∷ asks) = (next : WorkerState A) × WorkerAsks d worker a.0 a.1 next × WorksTo Holds next asks

  -- what a worker has in its hand after its turns
  abbrev pub hand_behind : List (WorkerTurn C A) → WorkerState A
  hand_behind [] = idle
  hand_behind (worked key payload settled ∷ turns) = hand_behind turns
  hand_behind (worked_by_call key payload call answer settled ∷ turns) = hand_behind turns
  hand_behind (found_none answer ∷ turns) = hand_behind turns
  hand_behind (stopped key payload call answer ∷ turns) = tried key payload answer

  pub turns_lead : (Holds : WorkerState A → Type 0) (turns : List (WorkerTurn C A)) → AreTurns d turns → Holds (hand_behind turns) → WorksTo Holds idle (flat_map asked turns)
  turns_lead Holds [] t h = h
  turns_lead Holds (worked key payload settled ∷ turns) t h = (holds key payload, (refl, refl), (idle, (t.0, refl), turns_lead Holds turns t.1 h))
  turns_lead Holds (worked_by_call key payload call answer settled ∷ turns) t h =
      (holds key payload, (refl, refl), (tried key payload answer, (payload, refl, t.0, refl), (idle, (t.2, refl), turns_lead Holds turns t.3 h)))
  turns_lead Holds (found_none empty ∷ turns) t h = (idle, (refl, refl), turns_lead Holds turns t.1 h)
  turns_lead Holds (found_none is_closed ∷ turns) t h = (idle, (refl, refl), turns_lead Holds turns t.1 h)
  turns_lead Holds (found_none _ ∷ turns) t h = absurd t.0
  turns_lead Holds (stopped key payload call answer ∷ turns) t h = (
    holds key payload,
    (refl, refl),
    (
      tried key payload answer,
      (payload, refl, t.0, refl),
      (tried key payload answer, refl, subst (λ ts. WorksTo Holds (tried key payload answer) (flat_map asked ts)) (sym t.2) h),
    ),
  )

module _ {C A M : Type 0} (d : DeskRules C A) (r : ServiceRules C A M) (Has : ℕ → WorkerState A → Type 0) where
  -- a call of the loop, and one of a worker, is a step
  step_by_loop : (cell : Cell C A M) (seat : ℕ) (op : HallOperation C) (answer : HallAnswer A) (loop : Loop) (hall : HallState C A M) → LoopAsks cell.loop op answer loop → HallGives r cell.hall op answer hall
      → Steps d r cell (event_by seat op) (record cell { loop = loop; hall = hall })
  step_by_loop cell seat (submit key payload) answer loop hall asks g = (key.i, payload, (answer, loop, hall, asks, g, refl))
  step_by_loop cell seat take_job answer loop hall asks g = absurd asks
  step_by_loop cell seat (apply key call) answer loop hall asks g = absurd asks
  step_by_loop cell seat (put key settled) answer loop hall asks g = absurd asks
  step_by_loop cell seat collect answer loop hall asks g = (answer, loop, hall, asks, g, refl)
  step_by_loop cell seat close answer loop hall asks g = (answer, loop, hall, asks, g, refl)

  same_workers : (workers : ℕ → WorkerState A) (w : ℕ) (worker : WorkerState A) → worker ≡ workers w → with_worker workers w worker ≡ workers
  same_workers workers w worker e = λ i v. go v (cases_eq v w) i
    where
      go : (v : ℕ) → (v ≡ w) ⊎ (v ≡ w → ⊥) → with_worker workers w worker v ≡ workers v
      go v (inl same) = subst (λ x. with_worker workers w worker x ≡ workers x) (sym same) (put_same workers w worker ∙ e)
      go v (inr other) = put_other workers w worker v other

  step_by_worker : (cell : Cell C A M) (seat : ℕ) (op : HallOperation C) (answer : HallAnswer A) (worker : WorkerState A) (hall : HallState C A M) → WorkerAsks d (cell.workers seat) op answer worker
      → HallGives r cell.hall op answer hall → Steps d r cell (event_by seat op) (record cell { hall = hall; workers = with_worker cell.workers seat worker })
  step_by_worker cell seat (submit key payload) answer worker hall asks g = absurd asks
  step_by_worker cell seat take_job answer worker hall asks g = (answer, worker, hall, asks, g, refl)
  step_by_worker cell seat (apply key call) answer worker hall asks g = (key, call, (answer, worker, hall, asks, g, refl))
  step_by_worker cell seat (put key settled) answer worker hall asks g = (key, settled, (answer, worker, hall, asks, g, refl))
  step_by_worker cell seat collect answer worker hall asks g = absurd asks
  step_by_worker cell seat close answer worker hall asks g =
      (answer, cell.loop, hall, refl, g, ap (λ hs. record cell { hall = hall; workers = hs }) (same_workers cell.workers seat worker asks))

  -- what each seat but the loop's still asks leads its worker to the hand that it is to have at last
  abbrev pub AllWork : Cell C A M → List (HallCall C A M) → Type 0
  AllWork cell log = (v : ℕ) → v ≢ 0 → WorksTo d (Has v) (cell.workers v) (map op_with_answer (calls_by v (asks_of log)))

  -- where a run of these events ends
  pub record EndsAt (cell : Cell C A M) (loop : Loop) (hall : HallState C A M) : Type 0 where
    pub last : Cell C A M
    pub events : List MachineEvent
    pub runs : EventsLead d r cell events last
    pub loop_is : last.loop ≡ loop
    pub hall_is : last.hall ≡ hall
    pub hands_are : (v : ℕ) → v ≢ 0 → Has v (last.workers v)

  -- a run on which this moment of the loop lies
  pub record PassesBy (cell : Cell C A M) (mid loop : Loop) (hall : HallState C A M) : Type 0 where
    pub moment : Cell C A M
    pub before : List MachineEvent
    pub leads : EventsLead d r cell before moment
    pub moment_is : moment.loop ≡ mid
    pub behind : EndsAt moment loop hall

  one_more_event : (cell next : Cell C A M) (event : MachineEvent) (loop : Loop) (hall : HallState C A M) → Steps d r cell event next → EndsAt next loop hall → EndsAt cell loop hall
  one_more_event cell next event loop hall step e =
      record { last = e.last; events = event ∷ e.events; runs = (next, step, e.runs); loop_is = e.loop_is; hall_is = e.hall_is; hands_are = e.hands_are }

  one_more_before : (cell next : Cell C A M) (event : MachineEvent) (mid loop : Loop) (hall : HallState C A M) → Steps d r cell event next → PassesBy next mid loop hall → PassesBy cell mid loop hall
  one_more_before cell next event mid loop hall step p =
      record { moment = p.moment; before = event ∷ p.before; leads = (next, step, p.leads); moment_is = p.moment_is; behind = p.behind }

  -- A call of the loop is the history's first, and one of another seat is its worker's next.
  record NextOfLoop (cell : Cell C A M) (e : HallCall C A M) (log : List (HallCall C A M)) (x : HallAsk C A) (items : List (LoopItem C A)) : Type 0 where
    is : ask_of e ≡ x
    rest : calls_by 0 (asks_of log) ≡ calls_in items
    work : (loop : Loop) (hall : HallState C A M) → AllWork (record cell { loop = loop; hall = hall }) log

  next_of_loop : (cell : Cell C A M) (e : HallCall C A M) (log : List (HallCall C A M)) (x : HallAsk C A) (items : List (LoopItem C A)) → e.seat ≡ 0
      → calls_by 0 (asks_of (e ∷ log)) ≡ calls_in (calls x ∷ items) → AllWork cell (e ∷ log) → NextOfLoop cell e log x items
  next_of_loop cell e log x items zeroth same work =
      let parts : (ask_of e ≡ x) × (calls_by 0 (asks_of log) ≡ calls_in items) =
      cons_parts (ask_of e) x (calls_by 0 (asks_of log)) (calls_in items) (sym (calls_by-first 0 (ask_of e) (asks_of log) zeroth) ∙ same) in
      record {
        is = parts.0;
        rest = parts.1;
        work = λ loop hall v n.
            subst (λ own. WorksTo d (Has v) (cell.workers v) (map op_with_answer own)) (calls_by-first-other v (ask_of e) (asks_of log) (λ q. n (sym q ∙ zeroth))) (work v n);
      }

  record NextOfWorker (cell : Cell C A M) (e : HallCall C A M) (log : List (HallCall C A M)) (own : List (HallAsk C A)) : Type 0 where
    worker : WorkerState A
    asks : WorkerAsks d (cell.workers e.seat) e.op e.reply worker
    rest : calls_by 0 (asks_of log) ≡ own
    work : AllWork (record cell { hall = e.after; workers = with_worker cell.workers e.seat worker }) log

  next_of_worker : (cell : Cell C A M) (e : HallCall C A M) (log : List (HallCall C A M)) (own : List (HallAsk C A)) → (e.seat ≡ 0 → ⊥)
      → calls_by 0 (asks_of (e ∷ log)) ≡ own → AllWork cell (e ∷ log) → NextOfWorker cell e log own
  next_of_worker cell e log own n same work =
      let w : (worker : WorkerState A) × WorkerAsks d (cell.workers e.seat) e.op e.reply worker × WorksTo d (Has e.seat) worker (map op_with_answer (calls_by e.seat (asks_of log))) =
      subst (λ own. WorksTo d (Has e.seat) (cell.workers e.seat) (map op_with_answer own)) (calls_by-first e.seat (ask_of e) (asks_of log) refl) (work e.seat n) in
      record {
        worker = w.0;
        asks = w.1;
        rest = sym (calls_by-first-other 0 (ask_of e) (asks_of log) n) ∙ same;
        work = λ v m. works v m w.0 w.2 (cases_eq v e.seat);
      }
    where
      works : (v : ℕ) → v ≢ 0 → (worker : WorkerState A) → WorksTo d (Has e.seat) worker (map op_with_answer (calls_by e.seat (asks_of log))) → (v ≡ e.seat) ⊎ (v ≡ e.seat → ⊥)
          → WorksTo d (Has v) (with_worker cell.workers e.seat worker v) (map op_with_answer (calls_by v (asks_of log)))
      works v m worker w (inl q) =
          subst (λ x. WorksTo d (Has x) (with_worker cell.workers e.seat worker x) (map op_with_answer (calls_by x (asks_of log)))) (sym q)
          (subst (λ x. WorksTo d (Has e.seat) x (map op_with_answer (calls_by e.seat (asks_of log)))) (sym (put_same cell.workers e.seat worker)) w)
      works v m worker w (inr other) =
          subst (λ x. WorksTo d (Has v) x (map op_with_answer (calls_by v (asks_of log)))) (sym (put_other cell.workers e.seat worker v other))
          (subst (λ own. WorksTo d (Has v) (cell.workers v) (map op_with_answer own)) (calls_by-first-other v (ask_of e) (asks_of log) (λ q. other (sym q))) (work v m))

  -- A history and the loop's own order run on to their end.
  abbrev pub RunsOn : List (HallCall C A M) → Type 0
  RunsOn log =
      (weave : List (LoopItem C A)) (cell : Cell C A M) (loop : Loop) → IsHistory (HallGives r) cell.hall log → calls_by 0 (asks_of log) ≡ calls_in weave
      → Weaves d.max cell.loop weave loop → AllWork cell log → EndsAt cell loop (meaning_after cell.hall log)

  no_calls_left : RunsOn []
  no_calls_left [] cell loop h same t work = record { last = cell; events = []; runs = refl; loop_is = sym t; hall_is = refl; hands_are = work }
  no_calls_left (handles conn_event ∷ items) cell loop h same t work =
      one_more_event cell (record cell { loop = t.0 }) (on_conn conn_event) loop cell.hall (t.0, t.1, refl) (no_calls_left items (record cell { loop = t.0 }) loop h same t.2 work)
  no_calls_left (calls x ∷ items) cell loop h same t work = absurd (nil-cons x (calls_in items) same)

  by_worker : (e : HallCall C A M) (log : List (HallCall C A M)) → RunsOn log → (weave : List (LoopItem C A)) (cell : Cell C A M) (loop : Loop) → IsHistory (HallGives r) cell.hall (e ∷ log)
      → Weaves d.max cell.loop weave loop → NextOfWorker cell e log (calls_in weave) → EndsAt cell loop (meaning_after e.after log)
  by_worker e log on weave cell loop h t n =
      let next : Cell C A M = record cell { hall = e.after; workers = with_worker cell.workers e.seat n.worker } in
      one_more_event cell next (event_by e.seat e.op) loop (meaning_after e.after log) (step_by_worker cell e.seat e.op e.reply n.worker e.after n.asks h.0) (on weave next loop h.1 n.rest t n.work)

  by_loop : (e : HallCall C A M) (log : List (HallCall C A M)) → RunsOn log → (x : HallAsk C A) (items : List (LoopItem C A)) (cell : Cell C A M) (loop : Loop) → IsHistory (HallGives r) cell.hall (e ∷ log)
      → Weaves d.max cell.loop (calls x ∷ items) loop → NextOfLoop cell e log x items → EndsAt cell loop (meaning_after e.after log)
  by_loop e log on x items cell loop h t n =
      let u : (next : Loop) × LoopAsks cell.loop e.op e.reply next × Weaves d.max next items loop = subst (λ (y : HallAsk C A). Weaves d.max cell.loop (calls y ∷ items) loop) (sym n.is) t in
      let next : Cell C A M = record cell { loop = u.0; hall = e.after } in
      one_more_event cell next (event_by e.seat e.op) loop (meaning_after e.after log) (step_by_loop cell e.seat e.op e.reply u.0 e.after u.1 h.0) (on items next loop h.1 n.rest u.2 (n.work u.0 e.after))

  one_call_more : (e : HallCall C A M) (log : List (HallCall C A M)) → RunsOn log → RunsOn (e ∷ log)
  one_call_more e log on [] cell loop h same t work = go (cases_eq e.seat 0)
    where
      go : (e.seat ≡ 0) ⊎ (e.seat ≡ 0 → ⊥) → EndsAt cell loop (meaning_after e.after log)
      go (inl zeroth) = absurd (nil-cons (ask_of e) (calls_by 0 (asks_of log)) (sym same ∙ calls_by-first 0 (ask_of e) (asks_of log) zeroth))
      go (inr n) = by_worker e log on [] cell loop h t (next_of_worker cell e log [] n same work)
  one_call_more e log on (handles conn_event ∷ items) cell loop h same t work =
      one_more_event cell (record cell { loop = t.0 }) (on_conn conn_event) loop (meaning_after e.after log) (t.0, t.1, refl)
      (one_call_more e log on items (record cell { loop = t.0 }) loop h same t.2 work)
  one_call_more e log on (calls x ∷ items) cell loop h same t work = go (cases_eq e.seat 0)
    where
      go : (e.seat ≡ 0) ⊎ (e.seat ≡ 0 → ⊥) → EndsAt cell loop (meaning_after e.after log)
      go (inl zeroth) = by_loop e log on x items cell loop h t (next_of_loop cell e log x items zeroth same work)
      go (inr n) = by_worker e log on (calls x ∷ items) cell loop h t (next_of_worker cell e log (x ∷ calls_in items) n same work)

  pub runs_on : (log : List (HallCall C A M)) → RunsOn log
  runs_on [] = no_calls_left
  runs_on (e ∷ log) = one_call_more e log (runs_on log)

  -- And they pass by each moment of the loop.
  abbrev PassesOn : List (HallCall C A M) → Type 0
  PassesOn log =
      (front back : List (LoopItem C A)) (cell : Cell C A M) (mid loop : Loop) → IsHistory (HallGives r) cell.hall log → calls_by 0 (asks_of log) ≡ calls_in (front ++ back)
      → Weaves d.max cell.loop front mid → Weaves d.max mid back loop → AllWork cell log → PassesBy cell mid loop (meaning_after cell.hall log)

  -- the moment is now
  now : (log : List (HallCall C A M)) (back : List (LoopItem C A)) (cell : Cell C A M) (mid loop : Loop) → IsHistory (HallGives r) cell.hall log → calls_by 0 (asks_of log) ≡ calls_in back
      → mid ≡ cell.loop → Weaves d.max mid back loop → AllWork cell log → PassesBy cell mid loop (meaning_after cell.hall log)
  now log back cell mid loop h same is t work =
      record { moment = cell; before = []; leads = refl; moment_is = sym is; behind = runs_on log back cell loop h same (subst (λ l. Weaves d.max l back loop) is t) work }

  no_calls_pass : PassesOn []
  no_calls_pass [] back cell mid loop h same f t work = now [] back cell mid loop h same f t work
  no_calls_pass (handles conn_event ∷ front) back cell mid loop h same f t work =
      one_more_before cell (record cell { loop = f.0 }) (on_conn conn_event) mid loop cell.hall (f.0, f.1, refl)
      (no_calls_pass front back (record cell { loop = f.0 }) mid loop h same f.2 t work)
  no_calls_pass (calls x ∷ front) back cell mid loop h same f t work = absurd (nil-cons x (calls_in (front ++ back)) same)

  one_call_passes : (e : HallCall C A M) (log : List (HallCall C A M)) → PassesOn log → PassesOn (e ∷ log)
  one_call_passes e log on [] back cell mid loop h same f t work = now (e ∷ log) back cell mid loop h same f t work
  one_call_passes e log on (handles conn_event ∷ front) back cell mid loop h same f t work =
      one_more_before cell (record cell { loop = f.0 }) (on_conn conn_event) mid loop (meaning_after e.after log) (f.0, f.1, refl)
      (one_call_passes e log on front back (record cell { loop = f.0 }) mid loop h same f.2 t work)
  one_call_passes e log on (calls x ∷ front) back cell mid loop h same f t work = go (cases_eq e.seat 0)
    where
      go : (e.seat ≡ 0) ⊎ (e.seat ≡ 0 → ⊥) → PassesBy cell mid loop (meaning_after e.after log)
      go (inl zeroth) =
          let n : NextOfLoop cell e log x (front ++ back) = next_of_loop cell e log x (front ++ back) zeroth same work in
          let u : (next : Loop) × LoopAsks cell.loop e.op e.reply next × Weaves d.max next front mid = subst (λ (y : HallAsk C A). Weaves d.max cell.loop (calls y ∷ front) mid) (sym n.is) f in
          let next : Cell C A M = record cell { loop = u.0; hall = e.after } in
          one_more_before cell next (event_by e.seat e.op) mid loop (meaning_after e.after log) (step_by_loop cell e.seat e.op e.reply u.0 e.after u.1 h.0)
          (on front back next mid loop h.1 n.rest u.2 t (n.work u.0 e.after))
      go (inr m) =
          let n : NextOfWorker cell e log (x ∷ calls_in (front ++ back)) = next_of_worker cell e log (x ∷ calls_in (front ++ back)) m same work in
          let next : Cell C A M = record cell { hall = e.after; workers = with_worker cell.workers e.seat n.worker } in
          one_more_before cell next (event_by e.seat e.op) mid loop (meaning_after e.after log) (step_by_worker cell e.seat e.op e.reply n.worker e.after n.asks h.0)
          (on (calls x ∷ front) back next mid loop h.1 n.rest f t n.work)

  passes_on : (log : List (HallCall C A M)) → PassesOn log
  passes_on [] = no_calls_pass
  passes_on (e ∷ log) = one_call_passes e log (passes_on log)

module _ {C A M : Type 0} (d : DeskRules C A) (r : ServiceRules C A M) (memories : List M) (opening : HallState C A M) (log : List (HallCall C A M)) where
  -- a seat's calls are those of turns, after which it has this in its hand
  pub record HasBehind (v : ℕ) (hand : WorkerState A) : Type 0 where
    pub turns : List (WorkerTurn C A)
    pub are : AreTurns d turns
    pub calls : map op_with_answer (calls_by v (asks_of log)) ≡ flat_map asked turns
    pub hand_is : hand ≡ hand_behind d turns

  module _ (front back : List (LoopItem C A)) (mid loop : Loop) where
    -- Each moment of the loop's own order is one of the run.
    pub passes : IsOneHistory d r memories opening log (front ++ back) loop → Weaves d.max no_loop front mid → Weaves d.max mid back loop
        → PassesBy d r HasBehind (cell_at_first opening) mid loop (meaning_after opening log)
    passes one before behind =
        passes_on d r HasBehind log front back (cell_at_first opening) mid loop one.history one.same before behind
        (λ v n. let t : OfTurns d (calls_by v (asks_of log)) = one.turns v n in
        subst (WorksTo d (HasBehind v) idle) (sym t.2) (turns_lead d (HasBehind v) t.0 t.1 (record { turns = t.0; are = t.1; calls = t.2; hand_is = refl })))

  -- and so is its end
  pub ends_at : (weave : List (LoopItem C A)) (loop : Loop) → IsOneHistory d r memories opening log weave loop
      → EndsAt d r HasBehind (cell_at_first opening) loop (meaning_after opening log)
  ends_at weave loop one =
      runs_on d r HasBehind log weave (cell_at_first opening) loop one.history one.same one.woven
      (λ v n. let t : OfTurns d (calls_by v (asks_of log)) = one.turns v n in
      subst (WorksTo d (HasBehind v) idle) (sym t.2) (turns_lead d (HasBehind v) t.0 t.1 (record { turns = t.0; are = t.1; calls = t.2; hand_is = refl })))
