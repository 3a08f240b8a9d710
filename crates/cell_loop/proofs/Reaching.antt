-- Each move of a play whose cell is reached comes to one whose cell is.
use Rattle.std.proofs.Common.{◌≡◌, ◌≢◌, ℕ, suc, ◌+◌, ◌-◌, ◌<◌, ◌≤◌, ◌⊎◌, min, not, nat_lt, nat_le, true, false, if◌then◌else◌, Option, None, Some, List, [], ◌∷◌, ◌++◌, map, length, take, drop, refl, sym, ◌∙◌, subst, inl, inr, option_map, arith}
use Rattle.std.proofs.lemmas.Bool.{and_parts, ltb-false, cases_lt, false≢true, true≢false}
use Rattle.std.proofs.lemmas.Option.{none-some}
use Rattle.host_model.specs.declared.cause.EndCause.{EndCause}
use Rattle.host_model.specs.declared.cause.EndCause.TheVariants.{NoMemory}
use Rattle.host_model.specs.Journal.{ServiceRules, entries_of}
use Rattle.host_model.specs.DeskRules.{DeskRules, DeskDecision, Close, Silent, Reply, Invoke}
use Rattle.machine_model.specs.HallState.{Job, JobOutcome}
use Rattle.machine_model.specs.Loop.{LoopConn, ConnEvent, opens, reads, ends, fails_read, writes, fails_write, gives_up}
use Rattle.machine_model.specs.Worker.{WorkerState, idle, holds, has_answer, has_none}
use Rattle.machine_model.specs.Machine.{Cell, MachineEvent, on_conn, submits, takes, puts, collects, Steps, EventsLead}
use Rattle.machine_model.specs.Plain.{is_empty, has_none_yet, is_open, Told, goes, puts_none, event_told, told_plain, run_plain}
use Rattle.machine_model.specs.Places.{PayloadPlace, collected_all, ready, queued, held_by, put_out, jobs_of, outcomes_of, PayloadIsAt, CellKeeps}
use Rattle.machine_model.specs.AtFronts.{size_in}
use Rattle.machine_model.specs.Bounds.{NoneIsLeftBehind}
use Rattle.machine_model.proofs.Merging.{runs-append}
use Rattle.script_model.specs.ScriptLines.{PlanRule, takes_most, blocks, fails}
use Rattle.script_model.specs.Playing.{InputFinish, finishes, faults, MemoryAt, lacking_for_call, lacking_for_answer, is_ample, Play, most_read, at_number, pieces_left, moved_on, all_admitted, event_on, or_else, told_without, told_wanting, by_memory, admission, freed, freed_if_over, with_rules, with_unread, told_in, on_one, read_behind, read_move, write_move, size_move, open_move, conn_move, step_of_worker, worker_move, collect_first, collect_move}
use Rattle.script_model.proofs.Waiting.{WaitsOpen, AllWait, Allowed, Counted, counted, step_waits}
use Rattle.script_model.proofs.Lasting.{Holding, by_test, mapped_holds, or_holds}

-- where a connection is open it has no cause
no_cause_yet : (cause : Option EndCause) → has_none_yet cause ≡ true → cause ≡ None
no_cause_yet None e = refl
no_cause_yet (Some cause) e = absurd (false≢true e)

nothing_left : (left : List ℕ) → not (is_empty left) ≡ false → left ≡ []
nothing_left [] e = refl
nothing_left (byte ∷ bytes) e = absurd (true≢false e)

module _ {C A M : Type 0} (d : DeskRules C A) (r : ServiceRules C A M) (memories : List M) (first : Cell C A M)
    (computes : (first cell : Cell C A M) (told : List Told) → run_plain d r told (Some first) ≡ Some cell → EventsLead d r first (map event_told told) cell)
    (stages : (cell : Cell C A M) (events : List MachineEvent) → EventsLead d r first events cell → CellKeeps d r memories cell) where
  -- a run from the first cell leads to this one, in which what is under way waits
  pub record LedTo (cell : Cell C A M) : Type 0 where
    pub events : List MachineEvent
    pub lead : EventsLead d r first events cell
    pub waits : AllWait cell.loop

  -- that no connection was given up too early, and that what is under way waits, are the same of a cell that a run leads to
  waiting_conn : (cell : Cell C A M) (c : ℕ) (place : PayloadPlace)
      → PayloadIsAt d cell.workers (jobs_of c cell.hall.jobs) (outcomes_of c cell.hall.outcomes) (entries_of c cell.hall.journal) c (cell.loop.conns c) place
      → ((cell.loop.conns c).cause ≢ None → (cell.loop.conns c).collected ≡ length (cell.loop.conns c).payloads) → WaitsOpen (cell.loop.conns c)
  waiting_conn cell c place at none under_way = (open_still (cell.loop.conns c).cause refl, left_of place at)
    where
      open_still : (cause : Option EndCause) → (cell.loop.conns c).cause ≡ cause → (cell.loop.conns c).cause ≡ None
      open_still None e = e
      open_still (Some cause) e =
          let all : (cell.loop.conns c).collected ≡ length (cell.loop.conns c).payloads = none (λ f. none-some cause (sym f ∙ e)) in
          let g : ⊥ = omega arith in
          absurd g

      left_of : (place : PayloadPlace)
          → PayloadIsAt d cell.workers (jobs_of c cell.hall.jobs) (outcomes_of c cell.hall.outcomes) (entries_of c cell.hall.journal) c (cell.loop.conns c) place
          → (cell.loop.conns c).left ≡ []
      left_of collected_all a = let all : (cell.loop.conns c).collected ≡ length (cell.loop.conns c).payloads = a.3 in let g : ⊥ = omega arith in absurd g
      left_of ready a = a.2.none_left
      left_of queued a = a.2.none_left
      left_of (held_by w) a = a.2.none_left
      left_of (put_out settled) a = a.2.none_left

  pub waits_from : (cell : Cell C A M) (events : List MachineEvent) → EventsLead d r first events cell → NoneIsLeftBehind cell.loop → LedTo cell
  waits_from cell events lead none =
      let k : CellKeeps d r memories cell = stages cell events lead in
      record { events = events; lead = lead; waits = record { each = λ c l. waiting_conn cell c (k.place c) (k.at c l) (none c l) } }

  pub none_left_in : (cell : Cell C A M) → LedTo cell → NoneIsLeftBehind cell.loop
  none_left_in cell led c l caused = go (cases_lt (cell.loop.conns c).collected (length (cell.loop.conns c).payloads))
    where
      go : ((cell.loop.conns c).collected < length (cell.loop.conns c).payloads) ⊎ (length (cell.loop.conns c).payloads ≤ (cell.loop.conns c).collected)
          → (cell.loop.conns c).collected ≡ length (cell.loop.conns c).payloads
      go (inl less) = absurd (caused (led.waits.each c l less).0)
      go (inr all) =
          let k : Counted (cell.loop.conns c) = counted d r memories cell (stages cell led.events led.lead) c l in
          let a : (cell.loop.conns c).submitted ≤ length (cell.loop.conns c).payloads = k.submitted in
          let b : (cell.loop.conns c).collected ≤ (cell.loop.conns c).submitted = k.collected in
          omega arith

  abbrev Led : Play C A M → Type 0
  Led play = LedTo play.cell

  abbrev pub LedOn : Option (Play C A M) → Type 0
  LedOn o = Holding Led o

  -- an event that is allowed leads on
  stepped_on : (play : Play C A M) (told : Told) (cell : Cell C A M) → Led play → Allowed play.cell.loop (event_told told) → told_plain d r play.cell told ≡ Some cell → LedTo cell
  stepped_on play told cell s may e =
      let l : EventsLead d r play.cell (event_told told ∷ []) cell = computes play.cell cell (told ∷ []) e in
      let step : Steps d r play.cell (event_told told) cell = subst (Steps d r play.cell (event_told told)) (sym l.2) l.1 in
      let k : CellKeeps d r memories play.cell = stages play.cell s.events s.lead in
      record {
        events = s.events ++ event_told told ∷ [];
        lead = runs-append d r first play.cell cell s.events (event_told told ∷ []) s.lead l;
        waits = step_waits d r memories play.cell k s.waits (event_told told) cell may step;
      }

  told_leads_on : (play : Play C A M) (told : Told) → Led play → Allowed play.cell.loop (event_told told) → LedOn (told_in d r play told)
  told_leads_on play told s may = go (told_plain d r play.cell told) refl
    where
      go : (o : Option (Cell C A M)) → told_plain d r play.cell told ≡ o → LedOn (option_map (λ cell. record play { cell = cell; moves = suc play.moves }) o)
      go None e = tt
      go (Some cell) e = stepped_on play told cell s may e

  wanting_leads_on : (play : Play C A M) (told : Told) → Led play → Allowed play.cell.loop (event_told told) → LedOn (told_wanting d r play told)
  wanting_leads_on play told s may = go (told_plain d r play.cell told) refl
    where
      go : (o : Option (Cell C A M)) → told_plain d r play.cell told ≡ o → LedOn (option_map (λ cell. record play { cell = cell; moves = suc play.moves; wants = suc play.wants }) o)
      go None e = tt
      go (Some cell) e = stepped_on play told cell s may e

  memory_leads_on : (play : Play C A M) (at : MemoryAt) (told : Told) (o : Option (Play C A M)) → Led play → Allowed play.cell.loop (event_told told) → LedOn o → LedOn (by_memory d r at play told o)
  memory_leads_on play at told o s may a =
      by_test Led (is_ample at) o (or_else (told_wanting d r play told) o) (λ e. a) (λ e. or_holds Led (told_wanting d r play told) o (wanting_leads_on play told s may) a)

  one_leads_on : (play : Play C A M) (c : ℕ) (conn_event : ConnEvent) → Led play → Allowed play.cell.loop (on_conn conn_event) → LedOn (on_one d r play c conn_event)
  one_leads_on play c conn_event s may =
      mapped_holds Led (freed_if_over c) (told_in d r play (goes (on_conn conn_event))) (λ p h. h) (told_leads_on play (goes (on_conn conn_event)) s may)

  behind_leads_on : (play : Play C A M) (c : ℕ) (finish : Option InputFinish) → Led play → LedOn (read_behind d r play c finish)
  behind_leads_on play c None s = tt
  behind_leads_on play c (Some finishes) s = one_leads_on play c (ends c) s tt
  behind_leads_on play c (Some faults) s = one_leads_on play c (fails_read c) s tt

  read_leads_on : (play : Play C A M) (c missing : ℕ) (pieces : List (List ℕ)) → Led play → LedOn (read_move d r play c missing pieces)
  read_leads_on play c missing [] s = behind_leads_on play c (play.finish c) s
  read_leads_on play c missing (bytes ∷ pieces) s =
      let n : ℕ = min (min missing most_read) (length bytes) in
      mapped_holds Led (with_unread c (pieces_left (drop n bytes) pieces)) (on_one d r play c (reads c (take n bytes))) (λ p h. h) (one_leads_on play c (reads c (take n bytes)) s tt)

  write_leads_on : (play : Play C A M) (c : ℕ) (left : List ℕ) (rules : List PlanRule) → Led play → LedOn (write_move d r play c left rules)
  write_leads_on play c left [] s = one_leads_on play c (writes c (length left)) s tt
  write_leads_on play c left (takes_most count ∷ rules) s =
      mapped_holds Led (with_rules c rules) (on_one d r play c (writes c (min count (length left)))) (λ p h. h) (one_leads_on play c (writes c (min count (length left))) s tt)
  write_leads_on play c left (blocks ∷ rules) s = s
  write_leads_on play c left (fails ∷ rules) s = mapped_holds Led (with_rules c rules) (on_one d r play c (fails_write c)) (λ p h. h) (one_leads_on play c (fails_write c) s tt)

  size_leads_on : (memory : ℕ → MemoryAt) (budget : ℕ) (play : Play C A M) (c : ℕ) (held : List ℕ) (size : Option ℕ) → Led play
      → ((play.cell.loop.conns c).collected < length (play.cell.loop.conns c).payloads → ⊥) → LedOn (size_move d r memory budget play c held size)
  size_leads_on memory budget play c held (Some size) s none = read_leads_on play c ((4 + size) - length held) (play.unread c) s
  size_leads_on memory budget play c held None s none =
      let next : Play C A M = moved_on (record play { admitted = at_number play.admitted c (Some (size_in held)) }) in
      by_test Led (nat_le (all_admitted play + size_in held) budget) (admission d r memory play c (size_in held)) None
      (λ e. memory_leads_on play (memory play.moves) (goes (on_conn (gives_up c NoMemory))) (Some next) s none s) (λ e. tt)

  open_leads_on : (memory : ℕ → MemoryAt) (budget c : ℕ) (play : Play C A M) → Led play → (play.cell.loop.conns c).cause ≡ None
      → LedOn (open_move d r memory budget play c (play.cell.loop.conns c))
  open_leads_on memory budget c play s is_open =
      let conn : LoopConn = play.cell.loop.conns c in
      let sizing : Option (Play C A M) = read_move d r play c (4 - length conn.held) (play.unread c) in
      let sized : Option (Play C A M) = size_move d r memory budget play c conn.held (play.admitted c) in
      let reading : Option (Play C A M) = if nat_lt (length conn.held) 4 then sizing else sized in
      let waiting : Option (Play C A M) = if nat_lt conn.collected conn.submitted then None else reading in
      let submitting : Option (Play C A M) = if nat_lt conn.submitted (length conn.payloads) then told_in d r play (goes (submits c)) else waiting in
      by_test Led (not (is_empty conn.left)) (write_move d r play c conn.left (play.rules c)) submitting (λ e. write_leads_on play c conn.left (play.rules c) s)
      (λ left. by_test Led (nat_lt conn.submitted (length conn.payloads)) (told_in d r play (goes (submits c))) waiting
      (λ e. told_leads_on play (goes (submits c)) s (is_open, nothing_left conn.left left))
      (λ submitted. by_test Led (nat_lt conn.collected conn.submitted) None reading (λ f. tt)
      (λ still. by_test Led (nat_lt (length conn.held) 4) sizing sized (λ f. read_leads_on play c (4 - length conn.held) (play.unread c) s)
      (λ f. size_leads_on memory budget play c conn.held (play.admitted c) s
      (λ l.
      let k : length conn.payloads ≤ conn.submitted = ltb-false conn.submitted (length conn.payloads) submitted in
      let m : conn.submitted ≤ conn.collected = ltb-false conn.collected conn.submitted still in
      let g : ⊥ = omega arith in
      g)))))

  pub conn_leads_on : (memory : ℕ → MemoryAt) (budget c : ℕ) (play : Play C A M) → Led play → LedOn (conn_move d r memory budget c play)
  conn_leads_on memory budget c play s =
      by_test Led (is_open play.cell.loop c) (open_move d r memory budget play c (play.cell.loop.conns c)) None
      (λ e. open_leads_on memory budget c play s (no_cause_yet (play.cell.loop.conns c).cause (and_parts (nat_lt c play.cell.loop.count) (has_none_yet (play.cell.loop.conns c).cause) e).1)) (λ e. tt)

  event_allowed : (play : Play C A M) (w : ℕ) (decision : DeskDecision C) → Allowed play.cell.loop (event_on d r w decision)
  event_allowed play w (Invoke call) = tt
  event_allowed play w (Close fault) = tt
  event_allowed play w Silent = tt
  event_allowed play w (Reply reply) = tt

  want_allowed : (play : Play C A M) (w : ℕ) (at : MemoryAt) (decision : DeskDecision C) → Allowed play.cell.loop (event_told (told_without d r w at decision))
  want_allowed play w lacking_for_call (Invoke call) = tt
  want_allowed play w lacking_for_answer (Invoke call) = tt
  want_allowed play w _ decision = tt

  step_leads_on : (memory : ℕ → MemoryAt) (play : Play C A M) (w : ℕ) (worker : WorkerState A) (jobs : List Job) → Led play → LedOn (step_of_worker d r memory play w worker jobs)
  step_leads_on memory play w idle [] s = tt
  step_leads_on memory play w idle (job ∷ jobs) s = told_leads_on play (goes (takes w)) s tt
  step_leads_on memory play w (holds key payload) jobs s =
      let told : Told = goes (event_on d r w (d.decide payload)) in
      memory_leads_on play (memory play.moves) (told_without d r w (memory play.moves) (d.decide payload)) (told_in d r play told) s
      (want_allowed play w (memory play.moves) (d.decide payload)) (told_leads_on play told s (event_allowed play w (d.decide payload)))
  step_leads_on memory play w (has_answer key payload answer) jobs s =
      memory_leads_on play (memory play.moves) (puts_none w) (told_in d r play (goes (puts w))) s tt (told_leads_on play (goes (puts w)) s tt)
  step_leads_on memory play w (has_none key payload) jobs s = told_leads_on play (puts_none w) s tt

  pub worker_leads_on : (memory : ℕ → MemoryAt) (w : ℕ) (play : Play C A M) → Led play → LedOn (worker_move d r memory w play)
  worker_leads_on memory w play s = step_leads_on memory play w (play.cell.workers w) play.cell.hall.jobs s

  first_leads_on : (play : Play C A M) (outcomes : List JobOutcome) → Led play → LedOn (collect_first d r play outcomes)
  first_leads_on play [] s = tt
  first_leads_on play (outcome ∷ outcomes) s = mapped_holds Led (freed outcome.key.c) (told_in d r play (goes collects)) (λ p h. h) (told_leads_on play (goes collects) s tt)

  pub collect_leads_on : (play : Play C A M) → Led play → LedOn (collect_move d r play)
  collect_leads_on play s = first_leads_on play play.cell.hall.outcomes s

  pub opening_leads_on : (play : Play C A M) → Led play → LedOn (told_in d r play (goes (on_conn opens)))
  opening_leads_on play s = told_leads_on play (goes (on_conn opens)) s tt
