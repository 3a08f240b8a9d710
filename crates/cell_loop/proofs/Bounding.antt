-- Each move of a rehearsal keeps the sizes that are admitted, and those under way, within the budget.
use Rattle.std.proofs.Common.{◌≡◌, ℕ, suc, ◌+◌, ◌-◌, ◌<◌, ◌≤◌, ◌^◌, min, not, nat_lt, nat_le, if◌then◌else◌, Option, None, Some, List, [], ◌∷◌, map, length, take, drop, refl, sym, ap, ◌∙◌, subst, arith}
use Rattle.std.proofs.lemmas.Bool.{and_parts, ltb-true, ltb-false, leb-true}
use Rattle.std.proofs.lemmas.Option.{none-some}
use Rattle.host_model.specs.declared.cause.EndCause.TheVariants.{ReadFault, WriteFault, NoMemory}
use Rattle.host_model.specs.Journal.{ServiceRules, entries_of}
use Rattle.host_model.specs.DeskRules.{DeskRules, DeskDecision, Close, Silent, Reply, Invoke}
use Rattle.host_model.specs.World.{end_behind}
use Rattle.host_model.proofs.Lists.{nil-cons}
use Rattle.machine_model.specs.HallState.{Job, JobOutcome, HallState}
use Rattle.machine_model.specs.HallRule.{HallAnswer, done, job, empty, is_closed, applied, no_memory, journal_fault, is_broken, outcome, outcome_of, collect, HallGives}
use Rattle.machine_model.specs.Loop.{LoopConn, Loop, with_cause, submitted_more, after_submit, after_collect, ConnEvent, opens, reads, ends, fails_read, writes, fails_write, gives_up, Happens}
use Rattle.machine_model.specs.Worker.{WorkerState, idle, holds, has_answer, has_none}
use Rattle.machine_model.specs.Machine.{Cell, MachineEvent, on_conn, submits, takes, applies, puts, collects, closes, Steps, EventsLead, IsFirst}
use Rattle.machine_model.specs.AtFronts.{size_in, KeepsWithin}
use Rattle.machine_model.specs.Places.{PayloadPlace, collected_all, ready, queued, held_by, put_out, jobs_of, outcomes_of, PayloadIsAt, CellKeeps}
use Rattle.machine_model.specs.Plain.{is_empty, has_none_yet, is_open, Told, goes, puts_none, event_told, told_plain, run_plain}
use Rattle.machine_model.proofs.Budgeting.{run_within}
use Rattle.machine_model.proofs.Lists.{own_first}
use Rattle.script_model.specs.ScriptLines.{PlanRule, takes_most, blocks, fails}
use Rattle.script_model.specs.Playing.{InputFinish, finishes, faults, MemoryAt, ample, lacking, lacking_for_call, lacking_for_answer, is_ample, Play, most_read, at_number, pieces_left, moved_on, all_admitted, event_on, or_else, told_without, told_wanting, by_memory, admission, freed, freed_if_over, with_rules, with_unread, told_in, on_one, read_behind, read_move, write_move, size_move, open_move, conn_move, step_of_worker, worker_move, collect_first, collect_move}
use Rattle.script_model.proofs.Meeting.{Meets, met, either_meets, or_meets, mapped_meets}
use Rattle.cell_loop.specs.Admitted.{AdmitsWithin}
use Rattle.cell_loop.proofs.SizesKept.{begun_within, left_admitted, stays_admits, opened_admits, admitted_more, ended_admits, written_admits, read_admits, settled_admits}

-- the first of two lists that are the same
heads_same : {X : Type 0} (x y : X) (xs ys : List X) → x ∷ xs ≡ y ∷ ys → x ≡ y
heads_same x y xs ys e = cc

-- a worker's event leaves the loop as it is
abbrev pub LeavesLoop : MachineEvent → Type 0
LeavesLoop (takes w) = Unit {0}
LeavesLoop (applies w) = Unit {0}
LeavesLoop (puts w) = Unit {0}
LeavesLoop (on_conn conn_event) = ⊥
LeavesLoop (submits c) = ⊥
LeavesLoop collects = ⊥
LeavesLoop closes = ⊥

module _ {C A M : Type 0} (d : DeskRules C A) (r : ServiceRules C A M) (small : d.max < 2 ^ 31) (budget : ℕ)
    (computes : (first cell : Cell C A M) (told : List Told) → run_plain d r told (Some first) ≡ Some cell → EventsLead d r first (map event_told told) cell)
    (memories : List M) (first : Cell C A M) (events : List MachineEvent) (play : Play C A M) (is_first : IsFirst memories first) (lead : EventsLead d r first events play.cell)
    (stands : CellKeeps d r memories play.cell) (admits : AdmitsWithin budget play.cell.loop play.admitted) (kept : KeepsWithin d.max budget play.cell.loop) where
  -- a play is within the budget
  abbrev pub IsWithin : Play C A M → Type 0
  IsWithin next = AdmitsWithin budget next.cell.loop next.admitted × KeepsWithin d.max budget next.cell.loop

  -- what the machine is told, it does by an event
  steps : (cell : Cell C A M) (told : Told) → told_plain d r play.cell told ≡ Some cell → Steps d r play.cell (event_told told) cell
  steps cell told e =
      let t : EventsLead d r play.cell (event_told told ∷ []) cell = computes play.cell cell (told ∷ []) e in subst (Steps d r play.cell (event_told told)) (sym t.2) t.1

  -- an event, after which these sizes are admitted
  event_within : (event : MachineEvent) (cell : Cell C A M) (admitted : ℕ → Option ℕ) → Steps d r play.cell event cell → AdmitsWithin budget cell.loop admitted
      → AdmitsWithin budget cell.loop admitted × KeepsWithin d.max budget cell.loop
  event_within event cell admitted step a = (a, run_within d r small budget memories first play.cell cell events event is_first lead kept step (begun_within budget cell.loop admitted a))

  told_meets : (P : Play C A M → Type 0) (told : Told) → ((cell : Cell C A M) → Steps d r play.cell (event_told told) cell → P (record play { cell = cell; moves = suc play.moves }))
      → Meets P (told_in d r play told)
  told_meets P told f =
      mapped_meets P (λ cell. record play { cell = cell; moves = suc play.moves }) (told_plain d r play.cell told)
      (met (λ cell. P (record play { cell = cell; moves = suc play.moves })) (told_plain d r play.cell told) (λ cell e. f cell (steps cell told e)))

  wanting_meets : (P : Play C A M → Type 0) (told : Told)
      → ((cell : Cell C A M) → Steps d r play.cell (event_told told) cell → P (record play { cell = cell; moves = suc play.moves; wants = suc play.wants })) → Meets P (told_wanting d r play told)
  wanting_meets P told f =
      mapped_meets P (λ cell. record play { cell = cell; moves = suc play.moves; wants = suc play.wants }) (told_plain d r play.cell told)
      (met (λ cell. P (record play { cell = cell; moves = suc play.moves; wants = suc play.wants })) (told_plain d r play.cell told) (λ cell e. f cell (steps cell told e)))

  by_memory_within : (at : MemoryAt) (told : Told) (o : Option (Play C A M)) → Meets IsWithin (told_wanting d r play told) → Meets IsWithin o → Meets IsWithin (by_memory d r at play told o)
  by_memory_within at told o a b =
      either_meets IsWithin (is_ample at) o (or_else (told_wanting d r play told) o) (λ e. b) (λ e. or_meets IsWithin (told_wanting d r play told) o a b)

  -- ---- a connection

  one_within : (c : ℕ) (conn_event : ConnEvent) → ((loop : Loop) → Happens d.max play.cell.loop conn_event loop → AdmitsWithin budget loop (left_admitted play.admitted loop c))
      → Meets IsWithin (on_one d r play c conn_event)
  one_within c conn_event f =
      mapped_meets IsWithin (freed_if_over c) (told_in d r play (goes (on_conn conn_event)))
      (told_meets (λ p. IsWithin (freed_if_over c p)) (goes (on_conn conn_event))
      (λ cell step. event_within (on_conn conn_event) cell (left_admitted play.admitted cell.loop c) step
      (f cell.loop (subst (Happens d.max play.cell.loop conn_event) (sym (ap (λ (x : Cell C A M). x.loop) step.2)) step.1))))

  behind_within : (c : ℕ) (finish : Option InputFinish) → Meets IsWithin (read_behind d r play c finish)
  behind_within c None = tt
  behind_within c (Some finishes) =
      one_within c (ends c) (λ loop h. ended_admits budget play.cell.loop play.admitted admits c (end_behind (play.cell.loop.conns c).held) _ loop h.2)
  behind_within c (Some faults) = one_within c (fails_read c) (λ loop h. ended_admits budget play.cell.loop play.admitted admits c ReadFault _ loop h.2)

  -- a read: behind a size only where that is admitted
  read_within : (c missing : ℕ) (pieces : List (List ℕ)) → (4 ≤ length (play.cell.loop.conns c).held → (size : ℕ) × (play.admitted c ≡ Some size))
      → Meets IsWithin (read_move d r play c missing pieces)
  read_within c missing [] sized = behind_within c (play.finish c)
  read_within c missing (bytes ∷ pieces) sized =
      let n : ℕ = min (min missing most_read) (length bytes) in
      mapped_meets IsWithin (with_unread c (pieces_left (drop n bytes) pieces)) (on_one d r play c (reads c (take n bytes)))
      (one_within c (reads c (take n bytes))
      (λ loop h. read_admits budget play.cell.loop play.admitted admits c (take n bytes) h.0 loop h.1.0 h.1.1 h.2 h.4 sized h.6))

  written_within : (c count : ℕ) → Meets IsWithin (on_one d r play c (writes c count))
  written_within c count = one_within c (writes c count) (λ loop h. written_admits budget play.cell.loop play.admitted admits c _ _ loop h.0.1 h.3)

  write_within : (c : ℕ) (left : List ℕ) (rules : List PlanRule) → Meets IsWithin (write_move d r play c left rules)
  write_within c left [] = written_within c (length left)
  write_within c left (takes_most count ∷ rules) = mapped_meets IsWithin (with_rules c rules) (on_one d r play c (writes c (min count (length left)))) (written_within c (min count (length left)))
  write_within c left (blocks ∷ rules) = (admits, kept)
  write_within c left (fails ∷ rules) =
      mapped_meets IsWithin (with_rules c rules) (on_one d r play c (fails_write c))
      (one_within c (fails_write c) (λ loop h. ended_admits budget play.cell.loop play.admitted admits c WriteFault _ loop h.2))

  -- a payload is submitted
  submitted_so : (c : ℕ) (answer : HallAnswer A) (loop : Loop) → loop ≡ after_submit play.cell.loop c answer → AdmitsWithin budget loop play.admitted
  submitted_so c done loop is =
      subst (λ (l : Loop). AdmitsWithin budget l play.admitted) (sym is)
      (stays_admits budget play.cell.loop play.admitted admits c (submitted_more (play.cell.loop.conns c)) [] (record { own = (admits.each c).own; begun = (admits.each c).begun }))
  submitted_so c (job k p) loop is = subst (λ (l : Loop). AdmitsWithin budget l play.admitted) (sym is) admits
  submitted_so c empty loop is = subst (λ (l : Loop). AdmitsWithin budget l play.admitted) (sym is) admits
  submitted_so c is_closed loop is = subst (λ (l : Loop). AdmitsWithin budget l play.admitted) (sym is) admits
  submitted_so c (applied answer) loop is = subst (λ (l : Loop). AdmitsWithin budget l play.admitted) (sym is) admits
  submitted_so c no_memory loop is = subst (λ (l : Loop). AdmitsWithin budget l play.admitted) (sym is) admits
  submitted_so c journal_fault loop is = subst (λ (l : Loop). AdmitsWithin budget l play.admitted) (sym is) admits
  submitted_so c is_broken loop is = subst (λ (l : Loop). AdmitsWithin budget l play.admitted) (sym is) admits
  submitted_so c (outcome k z) loop is = subst (λ (l : Loop). AdmitsWithin budget l play.admitted) (sym is) admits

  submit_within : (c : ℕ) → Meets IsWithin (told_in d r play (goes (submits c)))
  submit_within c =
      told_meets IsWithin (goes (submits c))
      (λ cell step. event_within (submits c) cell play.admitted step
      (subst (λ (l : Loop). AdmitsWithin budget l play.admitted) (sym (ap (λ (x : Cell C A M). x.loop) step.2.5)) (submitted_so c step.2.0 step.2.1 step.2.3.3)))

  -- without memory for the frame its connection is given up
  given_up_within : (c : ℕ) → play.admitted c ≡ None → Meets IsWithin (told_wanting d r play (goes (on_conn (gives_up c NoMemory))))
  given_up_within c none =
      wanting_meets IsWithin (goes (on_conn (gives_up c NoMemory)))
      (λ cell step. event_within (on_conn (gives_up c NoMemory)) cell play.admitted step
      (subst (λ (l : Loop). AdmitsWithin budget l play.admitted) (sym (ap (λ (x : Cell C A M). x.loop) step.2 ∙ step.1.2))
      (stays_admits budget play.cell.loop play.admitted admits c (with_cause (play.cell.loop.conns c) NoMemory) _
      (record { own = λ size e. absurd (none-some size (sym none ∙ e)); begun = λ l still long. absurd (none-some NoMemory (sym still)) }))))

  size_within : (memory : ℕ → MemoryAt) (c : ℕ) (size : Option ℕ) → play.admitted c ≡ size → c < play.cell.loop.count → 4 ≤ length (play.cell.loop.conns c).held
      → Meets IsWithin (size_move d r memory budget play c (play.cell.loop.conns c).held size)
  size_within memory c (Some size) is below four = read_within c ((4 + size) - length (play.cell.loop.conns c).held) (play.unread c) (λ l. (size, is))
  size_within memory c None is below four =
      let size : ℕ = size_in (play.cell.loop.conns c).held in
      let next : Play C A M = moved_on (record play { admitted = at_number play.admitted c (Some size) }) in
      either_meets IsWithin (nat_le (all_admitted play + size) budget) (admission d r memory play c size) None
      (λ e. by_memory_within (memory play.moves) (goes (on_conn (gives_up c NoMemory))) (Some next) (given_up_within c is)
      (admitted_more budget play.cell.loop play.admitted admits c below four (leb-true (all_admitted play + size) budget e), kept)) (λ e. tt)

  open_within : (memory : ℕ → MemoryAt) (c : ℕ) → c < play.cell.loop.count → Meets IsWithin (open_move d r memory budget play c (play.cell.loop.conns c))
  open_within memory c below =
      let conn : LoopConn = play.cell.loop.conns c in
      let sizing : Option (Play C A M) = read_move d r play c (4 - length conn.held) (play.unread c) in
      let sized : Option (Play C A M) = size_move d r memory budget play c conn.held (play.admitted c) in
      let reading : Option (Play C A M) = if nat_lt (length conn.held) 4 then sizing else sized in
      let waiting : Option (Play C A M) = if nat_lt conn.collected conn.submitted then None else reading in
      let submitting : Option (Play C A M) = if nat_lt conn.submitted (length conn.payloads) then told_in d r play (goes (submits c)) else waiting in
      either_meets IsWithin (not (is_empty conn.left)) (write_move d r play c conn.left (play.rules c)) submitting (λ e. write_within c conn.left (play.rules c))
      (λ e. either_meets IsWithin (nat_lt conn.submitted (length conn.payloads)) (told_in d r play (goes (submits c))) waiting (λ f. submit_within c)
      (λ f. either_meets IsWithin (nat_lt conn.collected conn.submitted) None reading (λ g. tt)
      (λ g. either_meets IsWithin (nat_lt (length conn.held) 4) sizing sized
      (λ h. read_within c (4 - length conn.held) (play.unread c)
      (λ four. let short : length conn.held < 4 = ltb-true (length conn.held) 4 h in absurd (let none : ⊥ = omega arith in none)))
      (λ h. size_within memory c (play.admitted c) refl below (ltb-false (length conn.held) 4 h)))))

  pub conn_within : (memory : ℕ → MemoryAt) (c : ℕ) → Meets IsWithin (conn_move d r memory budget c play)
  conn_within memory c =
      either_meets IsWithin (is_open play.cell.loop c) (open_move d r memory budget play c (play.cell.loop.conns c)) None
      (λ e. open_within memory c (ltb-true c play.cell.loop.count (and_parts (nat_lt c play.cell.loop.count) (has_none_yet (play.cell.loop.conns c).cause) e).0)) (λ e. tt)

  pub opening_within : Meets IsWithin (told_in d r play (goes (on_conn opens)))
  opening_within =
      told_meets IsWithin (goes (on_conn opens))
      (λ cell step. event_within (on_conn opens) cell play.admitted step
      (subst (λ (l : Loop). AdmitsWithin budget l play.admitted) (sym (ap (λ (x : Cell C A M). x.loop) step.2 ∙ step.1.1))
      (opened_admits budget play.cell.loop play.admitted admits _)))

  -- ---- an outcome

  -- a connection whose outcome waits holds nothing
  nothing_held : (c : ℕ) (o : JobOutcome) (outs : List JobOutcome) → outcomes_of c play.cell.hall.outcomes ≡ o ∷ outs → c < play.cell.loop.count → (play.cell.loop.conns c).held ≡ []
  nothing_held c o outs own below =
      go (stands.place c)
      (subst (λ (os : List JobOutcome). PayloadIsAt d play.cell.workers (jobs_of c play.cell.hall.jobs) os (entries_of c play.cell.hall.journal) c (play.cell.loop.conns c) (stands.place c)) own
      (stands.at c below))
    where
      go : (place : PayloadPlace) → PayloadIsAt d play.cell.workers (jobs_of c play.cell.hall.jobs) (o ∷ outs) (entries_of c play.cell.hall.journal) c (play.cell.loop.conns c) place
          → (play.cell.loop.conns c).held ≡ []
      go collected_all a = absurd (nil-cons o outs (sym a.1))
      go ready a = absurd (nil-cons o outs (sym a.4))
      go queued a = absurd (nil-cons o outs (sym a.4))
      go (held_by w) a = absurd (nil-cons o outs (sym a.4))
      go (put_out settled) a = a.2.none_held

  collected_so : (o : JobOutcome) (later : List JobOutcome) → play.cell.hall.outcomes ≡ o ∷ later → (answer : HallAnswer A) (loop : Loop) (hall : HallState C A M)
      → loop ≡ after_collect play.cell.loop answer → HallGives r play.cell.hall collect answer hall → AdmitsWithin budget loop (at_number play.admitted o.key.c None)
  collected_so o later first_is (outcome key settled) loop hall is gives =
      let same : outcome_of key settled ≡ o = heads_same (outcome_of key settled) o gives.0 later (sym gives.1 ∙ first_is) in
      let own : outcomes_of o.key.c play.cell.hall.outcomes ≡ o ∷ outcomes_of o.key.c later =
      ap (outcomes_of o.key.c) first_is ∙ own_first (λ (x : JobOutcome). x.key.c) o.key.c o later refl in
      let at : key.c ≡ o.key.c = ap (λ (x : JobOutcome). x.key.c) same in
      subst (λ (c : ℕ). AdmitsWithin budget loop (at_number play.admitted c None)) at
      (settled_admits budget play.cell.loop play.admitted admits key.c settled (play.cell.loop.conns key.c).cause _ loop
      (λ below. ap (λ (c : ℕ). (play.cell.loop.conns c).held) at ∙ nothing_held o.key.c o (outcomes_of o.key.c later) own (subst (λ (c : ℕ). c < play.cell.loop.count) at below)) is)
  collected_so o later first_is empty loop hall is gives = absurd (nil-cons o later (sym gives.0 ∙ first_is))
  collected_so o later first_is is_closed loop hall is gives = absurd (nil-cons o later (sym gives.0 ∙ first_is))
  collected_so o later first_is done loop hall is gives = absurd gives
  collected_so o later first_is (job k p) loop hall is gives = absurd gives
  collected_so o later first_is (applied answer) loop hall is gives = absurd gives
  collected_so o later first_is no_memory loop hall is gives = absurd gives
  collected_so o later first_is journal_fault loop hall is gives = absurd gives
  collected_so o later first_is is_broken loop hall is gives = absurd gives

  pub collect_within : Meets IsWithin (collect_move d r play)
  collect_within = go play.cell.hall.outcomes refl
    where
      go : (outcomes : List JobOutcome) → play.cell.hall.outcomes ≡ outcomes → Meets IsWithin (collect_first d r play outcomes)
      go [] is = tt
      go (o ∷ later) is =
          mapped_meets IsWithin (freed o.key.c) (told_in d r play (goes collects))
          (told_meets (λ p. IsWithin (freed o.key.c p)) (goes collects)
          (λ cell step. event_within collects cell (at_number play.admitted o.key.c None) step
          (subst (λ (l : Loop). AdmitsWithin budget l (at_number play.admitted o.key.c None)) (sym (ap (λ (x : Cell C A M). x.loop) step.5))
          (collected_so o later is step.0 step.1 step.2 step.3 step.4))))

  -- ---- a worker

  loop_left : (cell : Cell C A M) (event : MachineEvent) → LeavesLoop event → Steps d r play.cell event cell → play.cell.loop ≡ cell.loop
  loop_left cell (takes w) o t = ap (λ (x : Cell C A M). x.loop) (sym t.5)
  loop_left cell (applies w) o t = ap (λ (x : Cell C A M). x.loop) (sym t.2.5)
  loop_left cell (puts w) o t = ap (λ (x : Cell C A M). x.loop) (sym t.2.5)
  loop_left cell (on_conn conn_event) o t = absurd o
  loop_left cell (submits c) o t = absurd o
  loop_left cell collects o t = absurd o
  loop_left cell closes o t = absurd o

  left_within : (cell : Cell C A M) (event : MachineEvent) → LeavesLoop event → Steps d r play.cell event cell
      → AdmitsWithin budget cell.loop play.admitted × KeepsWithin d.max budget cell.loop
  left_within cell event o t =
      subst (λ (l : Loop). AdmitsWithin budget l play.admitted × KeepsWithin d.max budget l) (loop_left cell event o t) (admits, kept)

  worker_told : (told : Told) → LeavesLoop (event_told told) → Meets IsWithin (told_in d r play told)
  worker_told told o = told_meets IsWithin told (λ cell step. left_within cell (event_told told) o step)

  worker_wants : (told : Told) → LeavesLoop (event_told told) → Meets IsWithin (told_wanting d r play told)
  worker_wants told o = wanting_meets IsWithin told (λ cell step. left_within cell (event_told told) o step)

  event_leaves : (w : ℕ) (decision : DeskDecision C) → LeavesLoop (event_on d r w decision)
  event_leaves w (Close fault) = tt
  event_leaves w Silent = tt
  event_leaves w (Reply reply) = tt
  event_leaves w (Invoke call) = tt

  without_leaves : (w : ℕ) (at : MemoryAt) (decision : DeskDecision C) → LeavesLoop (event_told (told_without d r w at decision))
  without_leaves w ample decision = tt
  without_leaves w lacking decision = tt
  without_leaves w lacking_for_call (Close fault) = tt
  without_leaves w lacking_for_call Silent = tt
  without_leaves w lacking_for_call (Reply reply) = tt
  without_leaves w lacking_for_call (Invoke call) = tt
  without_leaves w lacking_for_answer (Close fault) = tt
  without_leaves w lacking_for_answer Silent = tt
  without_leaves w lacking_for_answer (Reply reply) = tt
  without_leaves w lacking_for_answer (Invoke call) = tt

  step_within : (memory : ℕ → MemoryAt) (w : ℕ) (worker : WorkerState A) (jobs : List Job) → Meets IsWithin (step_of_worker d r memory play w worker jobs)
  step_within memory w idle [] = tt
  step_within memory w idle (waiting_job ∷ jobs) = worker_told (goes (takes w)) tt
  step_within memory w (holds key payload) jobs =
      let without : Told = told_without d r w (memory play.moves) (d.decide payload) in
      let told : Told = goes (event_on d r w (d.decide payload)) in
      by_memory_within (memory play.moves) without (told_in d r play told) (worker_wants without (without_leaves w (memory play.moves) (d.decide payload)))
      (worker_told told (event_leaves w (d.decide payload)))
  step_within memory w (has_answer key payload answer) jobs =
      by_memory_within (memory play.moves) (puts_none w) (told_in d r play (goes (puts w))) (worker_wants (puts_none w) tt) (worker_told (goes (puts w)) tt)
  step_within memory w (has_none key payload) jobs = worker_told (puts_none w) tt

  pub worker_within : (memory : ℕ → MemoryAt) (w : ℕ) → Meets IsWithin (worker_move d r memory w play)
  worker_within memory w = step_within memory w (play.cell.workers w) play.cell.hall.jobs
