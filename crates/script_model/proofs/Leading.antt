-- Each move of a rehearsal is an event of the machine, so the rehearsal is a run; and memory runs out at more and more moves, at most once a move.
use Rattle.std.proofs.Common.{◌≡◌, ℕ, zero, suc, ◌+◌, ◌-◌, ◌≤◌, min, not, nat_lt, nat_le, Bool, true, false, ◌==◌, if◌then◌else◌, Option, None, Some, List, [], ◌∷◌, ◌++◌, map, length, take, drop, refl, sym, subst, option_map, arith}
use Rattle.std.specs.Prelude.{option_and_then}
use Rattle.host_model.specs.declared.cause.EndCause.TheVariants.{NoMemory}
use Rattle.host_model.specs.Journal.{ServiceRules}
use Rattle.host_model.specs.DeskRules.{DeskRules}
use Rattle.machine_model.specs.HallState.{Job, JobOutcome}
use Rattle.machine_model.specs.Loop.{LoopConn, ConnEvent, opens, reads, ends, fails_read, writes, fails_write, gives_up}
use Rattle.machine_model.specs.Worker.{WorkerState, idle, holds, has_answer, has_none}
use Rattle.machine_model.specs.Machine.{Cell, MachineEvent, on_conn, submits, takes, puts, collects, EventsLead}
use Rattle.machine_model.specs.Plain.{is_empty, is_open, Told, goes, puts_none, event_told, told_plain, run_plain}
use Rattle.machine_model.specs.AtFronts.{size_in}
use Rattle.machine_model.proofs.Merging.{runs-append}
use Rattle.script_model.specs.ScriptLines.{PlanLine, opening, piece, input_end, input_fault, resting, turn_of_conn, turn_of_worker, turn_of_outcome, PlanRule, takes_most, blocks, fails, ScriptPlan, count_up}
use Rattle.script_model.specs.Playing.{InputFinish, finishes, faults, MemoryAt, is_ample, Play, most_read, at_number, pieces_left, moved_on, all_admitted, event_on, or_else, told_without, told_wanting, by_memory, admission, freed, freed_if_over, with_rules, with_unread, told_in, on_one, read_behind, read_move, write_move, size_move, open_move, conn_move, step_of_worker, worker_move, collect_first, collect_move}
use Rattle.script_model.specs.Rehearsing.{workers_among, left_by, goes_on_with, until_still, work_through, all_read, all_work, pass, drain, line_done, lines_done, before_all, IsRehearsalOf}

module _ {C A M : Type 0} (d : DeskRules C A) (r : ServiceRules C A M) (memory : ℕ → MemoryAt)
    (computes : (first cell : Cell C A M) (told : List Told) → run_plain d r told (Some first) ≡ Some cell → EventsLead d r first (map event_told told) cell) where
  -- from one play to another: events lead from its machine to the other's, and memory ran out at no fewer moves, by at most those that were made
  pub record Leads (old new : Play C A M) : Type 0 where
    pub events : List MachineEvent
    pub lead : EventsLead d r old.cell events new.cell
    pub more : old.wants ≤ new.wants
    pub few : new.wants + old.moves ≤ new.moves + old.wants

  -- what comes of a play, where something does, is led to
  abbrev pub Leading : Play C A M → Option (Play C A M) → Type 0
  Leading old None = Unit {0}
  Leading old (Some new) = Leads old new

  -- two plays differ in nothing that is led to
  record IsAlike (old new : Play C A M) : Type 0 where
    cell : new.cell ≡ old.cell
    wants : new.wants ≡ old.wants
    moves : new.moves ≡ old.moves

  as_many : (n : ℕ) → n ≤ n
  as_many n = omega arith

  swapped : (n m : ℕ) → n + m ≤ m + n
  swapped n m = omega arith

  no_more : (n m : ℕ) → n + m ≤ suc m + n
  no_more n m = omega arith

  one_more : (n : ℕ) → n ≤ suc n
  one_more n = omega arith

  one_each : (n m : ℕ) → suc n + m ≤ suc m + n
  one_each n m = omega arith

  pub stays : (play : Play C A M) → Leads play play
  stays play = record { events = []; lead = refl; more = as_many play.wants; few = swapped play.wants play.moves }

  onward : (old mid new : Play C A M) → Leads old mid → Leads mid new → Leads old new
  onward old mid new a b =
      let x : old.wants ≤ mid.wants = a.more in
      let y : mid.wants ≤ new.wants = b.more in
      let u : mid.wants + old.moves ≤ mid.moves + old.wants = a.few in
      let v : new.wants + mid.moves ≤ new.moves + mid.wants = b.few in
      record { events = a.events ++ b.events; lead = runs-append d r old.cell mid.cell new.cell a.events b.events a.lead b.lead; more = omega arith; few = omega arith }

  behind : (old mid : Play C A M) (o : Option (Play C A M)) → Leads old mid → Leading mid o → Leading old o
  behind old mid None a b = tt
  behind old mid (Some new) a b = onward old mid new a b

  pub either : (old : Play C A M) (b : Bool) (x y : Option (Play C A M)) → Leading old x → Leading old y → Leading old (if b then x else y)
  either old true x y a b = a
  either old false x y a b = b

  -- what changes nothing that is told is led to as well
  mapped : (old : Play C A M) (f : Play C A M → Play C A M) (o : Option (Play C A M)) → ((play : Play C A M) → IsAlike play (f play)) → Leading old o → Leading old (option_map f o)
  mapped old f None same a = tt
  mapped old f (Some new) same a =
      let alike : IsAlike new (f new) = same new in
      record {
        events = a.events;
        lead = subst (EventsLead d r old.cell a.events) (sym alike.cell) a.lead;
        more = subst (λ n. old.wants ≤ n) (sym alike.wants) a.more;
        few = subst (λ n. n + old.moves ≤ (f new).moves + old.wants) (sym alike.wants) (subst (λ n. new.wants + old.moves ≤ n + old.wants) (sym alike.moves) a.few);
      }

  or_leads : (old : Play C A M) (x y : Option (Play C A M)) → Leading old x → Leading old y → Leading old (or_else x y)
  or_leads old None y a b = b
  or_leads old (Some x) y a b = a

  and_leads : (old : Play C A M) (f : Play C A M → Option (Play C A M)) (o : Option (Play C A M)) → Leading old o → ((play : Play C A M) → Leading play (f play)) → Leading old (option_and_then f o)
  and_leads old f None a each = tt
  and_leads old f (Some new) a each = behind old new (f new) a (each new)

  goes_leads : (old : Play C A M) (o : Option (Play C A M)) (again : Play C A M → Option (Play C A M)) → Leading old o → ((play : Play C A M) → Leading play (again play))
      → Leading old (goes_on_with old o again)
  goes_leads old None again a each = stays old
  goes_leads old (Some new) again a each = behind old new (again new) a (each new)

  pub left_leads : (old : Play C A M) (o : Option (Play C A M)) → Leading old o → Leads old (left_by old o)
  left_leads old None a = stays old
  left_leads old (Some new) a = a

  -- what the machine is told, it does by an event
  pub told_leads : (play : Play C A M) (told : Told) → Leading play (told_in d r play told)
  told_leads play told = go (told_plain d r play.cell told) refl
    where
      go : (o : Option (Cell C A M)) → told_plain d r play.cell told ≡ o → Leading play (option_map (λ cell. record play { cell = cell; moves = suc play.moves }) o)
      go None e = tt
      go (Some cell) e =
          record { events = event_told told ∷ []; lead = computes play.cell cell (told ∷ []) e; more = as_many play.wants; few = no_more play.wants play.moves }

  wanting_leads : (play : Play C A M) (told : Told) → Leading play (told_wanting d r play told)
  wanting_leads play told = go (told_plain d r play.cell told) refl
    where
      go : (o : Option (Cell C A M)) → told_plain d r play.cell told ≡ o
          → Leading play (option_map (λ cell. record play { cell = cell; moves = suc play.moves; wants = suc play.wants }) o)
      go None e = tt
      go (Some cell) e =
          record { events = event_told told ∷ []; lead = computes play.cell cell (told ∷ []) e; more = one_more play.wants; few = one_each play.wants play.moves }

  memory_leads : (play : Play C A M) (at : MemoryAt) (told : Told) (o : Option (Play C A M)) → Leading play o → Leading play (by_memory d r at play told o)
  memory_leads play at told o a = either play (is_ample at) o (or_else (told_wanting d r play told) o) a (or_leads play (told_wanting d r play told) o (wanting_leads play told) a)

  one_leads : (play : Play C A M) (c : ℕ) (conn_event : ConnEvent) → Leading play (on_one d r play c conn_event)
  one_leads play c conn_event = mapped play (freed_if_over c) (told_in d r play (goes (on_conn conn_event))) (λ p. record { cell = refl; wants = refl; moves = refl }) (told_leads play (goes (on_conn conn_event)))

  behind_leads : (play : Play C A M) (c : ℕ) (finish : Option InputFinish) → Leading play (read_behind d r play c finish)
  behind_leads play c None = tt
  behind_leads play c (Some finishes) = one_leads play c (ends c)
  behind_leads play c (Some faults) = one_leads play c (fails_read c)

  read_leads : (play : Play C A M) (c missing : ℕ) (pieces : List (List ℕ)) → Leading play (read_move d r play c missing pieces)
  read_leads play c missing [] = behind_leads play c (play.finish c)
  read_leads play c missing (bytes ∷ pieces) =
      let n : ℕ = min (min missing most_read) (length bytes) in
      mapped play (with_unread c (pieces_left (drop n bytes) pieces)) (on_one d r play c (reads c (take n bytes))) (λ p. record { cell = refl; wants = refl; moves = refl }) (one_leads play c (reads c (take n bytes)))

  write_leads : (play : Play C A M) (c : ℕ) (left : List ℕ) (rules : List PlanRule) → Leading play (write_move d r play c left rules)
  write_leads play c left [] = one_leads play c (writes c (length left))
  write_leads play c left (takes_most count ∷ rules) =
      mapped play (with_rules c rules) (on_one d r play c (writes c (min count (length left)))) (λ p. record { cell = refl; wants = refl; moves = refl }) (one_leads play c (writes c (min count (length left))))
  write_leads play c left (blocks ∷ rules) = record { events = []; lead = refl; more = as_many play.wants; few = no_more play.wants play.moves }
  write_leads play c left (fails ∷ rules) = mapped play (with_rules c rules) (on_one d r play c (fails_write c)) (λ p. record { cell = refl; wants = refl; moves = refl }) (one_leads play c (fails_write c))

  admission_leads : (play : Play C A M) (c size : ℕ) → Leading play (admission d r memory play c size)
  admission_leads play c size =
      let next : Play C A M = moved_on (record play { admitted = at_number play.admitted c (Some size) }) in
      let admitted : Leads play next = record { events = []; lead = refl; more = as_many play.wants; few = no_more play.wants play.moves } in
      memory_leads play (memory play.moves) (goes (on_conn (gives_up c NoMemory))) (Some next) admitted

  size_leads : (budget : ℕ) (play : Play C A M) (c : ℕ) (held : List ℕ) (size : Option ℕ) → Leading play (size_move d r memory budget play c held size)
  size_leads budget play c held (Some size) = read_leads play c ((4 + size) - length held) (play.unread c)
  size_leads budget play c held None =
      either play (nat_le (all_admitted play + size_in held) budget) (admission d r memory play c (size_in held)) None (admission_leads play c (size_in held)) tt

  open_leads : (budget c : ℕ) (play : Play C A M) (conn : LoopConn) → Leading play (open_move d r memory budget play c conn)
  open_leads budget c play conn =
      let sizing : Option (Play C A M) = read_move d r play c (4 - length conn.held) (play.unread c) in
      let sized : Option (Play C A M) = size_move d r memory budget play c conn.held (play.admitted c) in
      let reading : Option (Play C A M) = if nat_lt (length conn.held) 4 then sizing else sized in
      let waiting : Option (Play C A M) = if nat_lt conn.collected conn.submitted then None else reading in
      let submitting : Option (Play C A M) = if nat_lt conn.submitted (length conn.payloads) then told_in d r play (goes (submits c)) else waiting in
      either play (not (is_empty conn.left)) (write_move d r play c conn.left (play.rules c)) submitting (write_leads play c conn.left (play.rules c))
      (either play (nat_lt conn.submitted (length conn.payloads)) (told_in d r play (goes (submits c))) waiting (told_leads play (goes (submits c)))
      (either play (nat_lt conn.collected conn.submitted) None reading tt
      (either play (nat_lt (length conn.held) 4) sizing sized (read_leads play c (4 - length conn.held) (play.unread c)) (size_leads budget play c conn.held (play.admitted c)))))

  pub conn_leads : (budget c : ℕ) (play : Play C A M) → Leading play (conn_move d r memory budget c play)
  conn_leads budget c play =
      either play (is_open play.cell.loop c) (open_move d r memory budget play c (play.cell.loop.conns c)) None (open_leads budget c play (play.cell.loop.conns c)) tt

  step_leads : (play : Play C A M) (w : ℕ) (worker : WorkerState A) (jobs : List Job) → Leading play (step_of_worker d r memory play w worker jobs)
  step_leads play w idle [] = tt
  step_leads play w idle (job ∷ jobs) = told_leads play (goes (takes w))
  step_leads play w (holds key payload) jobs =
      let told : Told = goes (event_on d r w (d.decide payload)) in
      memory_leads play (memory play.moves) (told_without d r w (memory play.moves) (d.decide payload)) (told_in d r play told) (told_leads play told)
  step_leads play w (has_answer key payload answer) jobs =
      memory_leads play (memory play.moves) (puts_none w) (told_in d r play (goes (puts w))) (told_leads play (goes (puts w)))
  step_leads play w (has_none key payload) jobs = told_leads play (puts_none w)

  pub worker_leads : (w : ℕ) (play : Play C A M) → Leading play (worker_move d r memory w play)
  worker_leads w play = step_leads play w (play.cell.workers w) play.cell.hall.jobs

  first_leads : (play : Play C A M) (outcomes : List JobOutcome) → Leading play (collect_first d r play outcomes)
  first_leads play [] = tt
  first_leads play (outcome ∷ outcomes) = mapped play (freed outcome.key.c) (told_in d r play (goes collects)) (λ p. record { cell = refl; wants = refl; moves = refl }) (told_leads play (goes collects))

  pub collect_leads : (play : Play C A M) → Leading play (collect_move d r play)
  collect_leads play = first_leads play play.cell.hall.outcomes

  pub still_leads : (n : ℕ) (move : Play C A M → Option (Play C A M)) → ((play : Play C A M) → Leading play (move play)) → (play : Play C A M) → Leading play (until_still n move play)
  still_leads zero move each play = goes_leads play (move play) (λ next. None) (each play) (λ next. tt)
  still_leads (suc n) move each play = goes_leads play (move play) (λ next. until_still n move next) (each play) (λ next. still_leads n move each next)

  pub through_leads : (n w : ℕ) (play : Play C A M) → Leading play (work_through d r memory n w play)
  through_leads zero w play = stays play
  through_leads (suc n) w play = goes_leads play (worker_move d r memory w play) _ (worker_leads w play) (λ next. either next _ (Some next) _ (stays next) (through_leads n w next))

  pub all_read_leads : (fuel budget : ℕ) (cs : List ℕ) (play : Play C A M) → Leading play (all_read d r memory fuel budget cs play)
  all_read_leads fuel budget [] play = stays play
  all_read_leads fuel budget (c ∷ cs) play =
      and_leads play (λ next. all_read d r memory fuel budget cs next) _ (still_leads fuel (conn_move d r memory budget c) (conn_leads budget c) play) (λ next. all_read_leads fuel budget cs next)

  pub all_work_leads : (ws : List ℕ) (play : Play C A M) → Leading play (all_work d r memory ws play)
  all_work_leads [] play = stays play
  all_work_leads (w ∷ ws) play = and_leads play (λ next. all_work d r memory ws next) _ (through_leads 3 w play) (λ next. all_work_leads ws next)

  pub pass_leads : (fuel budget workers : ℕ) (play : Play C A M) → Leading play (pass d r memory fuel budget workers play)
  pass_leads fuel budget workers play =
      and_leads play (λ next. until_still fuel (collect_move d r) next) _
      (and_leads play (λ next. all_work d r memory (count_up 0 (workers_among workers)) next) _ (all_read_leads fuel budget (count_up 0 play.cell.loop.count) play) (λ next. all_work_leads (count_up 0 (workers_among workers)) next))
      (λ next. still_leads fuel (collect_move d r) collect_leads next)

  drained : (play : Play C A M) (again : Play C A M → Option (Play C A M)) (o : Option (Play C A M)) → Leading play o → ((next : Play C A M) → Leading next (again next))
      → Leading play (option_and_then (λ next. if next.moves == play.moves then Some play else again next) o)
  drained play again None a each = tt
  drained play again (Some next) a each = either play (next.moves == play.moves) (Some play) (again next) (stays play) (behind play next (again next) a (each next))

  pub drain_leads : (n fuel budget workers : ℕ) (play : Play C A M) → Leading play (drain d r memory n fuel budget workers play)
  drain_leads zero fuel budget workers play = tt
  drain_leads (suc n) fuel budget workers play =
      drained play (λ next. drain d r memory n fuel budget workers next) (pass d r memory fuel budget workers play) (pass_leads fuel budget workers play) (λ next. drain_leads n fuel budget workers next)

  pub line_leads : (fuel budget workers : ℕ) (play : Play C A M) (line : PlanLine) → Leading play (line_done d r memory fuel budget workers play line)
  line_leads fuel budget workers play opening = left_leads play _ (told_leads play (goes (on_conn opens)))
  line_leads fuel budget workers play (piece c bytes) = record { events = []; lead = refl; more = as_many play.wants; few = swapped play.wants play.moves }
  line_leads fuel budget workers play (input_end c) = record { events = []; lead = refl; more = as_many play.wants; few = swapped play.wants play.moves }
  line_leads fuel budget workers play (input_fault c) = record { events = []; lead = refl; more = as_many play.wants; few = swapped play.wants play.moves }
  line_leads fuel budget workers play resting = drain_leads fuel fuel budget workers play
  line_leads fuel budget workers play (turn_of_conn c) = left_leads play _ (conn_leads budget c play)
  line_leads fuel budget workers play (turn_of_worker w) = left_leads play _ (worker_leads w play)
  line_leads fuel budget workers play turn_of_outcome = left_leads play _ (collect_leads play)

  pub lines_lead : (fuel budget workers : ℕ) (lines : List PlanLine) (play : Play C A M) → Leading play (lines_done d r memory fuel budget workers lines play)
  lines_lead fuel budget workers [] play = drain_leads fuel fuel budget workers play
  lines_lead fuel budget workers (line ∷ lines) play =
      and_leads play (λ next. lines_done d r memory fuel budget workers lines next) _ (line_leads fuel budget workers play line) (λ next. lines_lead fuel budget workers lines next)

  -- a rehearsal is a run
  pub is_run : (budget workers : ℕ) (script : ScriptPlan) (wants : ℕ) (first last : Cell C A M) → IsRehearsalOf d r memory budget workers script wants first last
      → (events : List MachineEvent) × EventsLead d r first events last
  is_run budget workers script wants first last t =
      let l : Leads (before_all first script) t.play =
      subst (Leading (before_all first script)) t.done (lines_lead t.fuel budget workers script.lines (before_all first script)) in
      (l.events, subst (EventsLead d r first l.events) (sym t.same) l.lead)
