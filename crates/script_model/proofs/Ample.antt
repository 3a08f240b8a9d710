-- A rehearsal at none of whose moves memory ran out is the one with ample memory.
use Rattle.std.proofs.Common.{◌≡◌, ℕ, zero, suc, ◌+◌, ◌-◌, ◌≤◌, not, nat_lt, nat_le, Bool, true, false, ◌==◌, if◌then◌else◌, Option, None, Some, List, [], ◌∷◌, map, length, refl, sym, ap, subst, ◌∙◌, option_map, arith}
use Rattle.std.specs.Prelude.{option_and_then}
use Rattle.std.proofs.lemmas.Option.{none-some, same_Some}
use Rattle.std.proofs.lemmas.Bool.{eqb-true}
use Rattle.host_model.specs.declared.cause.EndCause.TheVariants.{NoMemory}
use Rattle.host_model.specs.Journal.{ServiceRules}
use Rattle.host_model.specs.DeskRules.{DeskRules}
use Rattle.machine_model.specs.HallState.{Job}
use Rattle.machine_model.specs.Loop.{LoopConn, gives_up}
use Rattle.machine_model.specs.Worker.{WorkerState, idle, holds, has_answer, has_none}
use Rattle.machine_model.specs.Machine.{Cell, on_conn, submits, puts, EventsLead}
use Rattle.machine_model.specs.Plain.{is_empty, is_open, Told, goes, puts_none, event_told, told_plain, run_plain}
use Rattle.machine_model.specs.AtFronts.{size_in}
use Rattle.script_model.specs.ScriptLines.{PlanLine, opening, piece, input_end, input_fault, resting, turn_of_conn, turn_of_worker, turn_of_outcome, ScriptPlan, count_up}
use Rattle.script_model.specs.Playing.{MemoryAt, ample, lacking, lacking_for_call, lacking_for_answer, always_ample, Play, at_number, moved_on, all_admitted, event_on, or_else, told_without, told_wanting, by_memory, admission, told_in, read_move, write_move, size_move, open_move, conn_move, step_of_worker, worker_move, collect_move}
use Rattle.script_model.specs.Rehearsing.{workers_among, is_idle, left_by, goes_on_with, until_still, work_through, all_read, all_work, pass, drain, line_done, lines_done, before_all, IsRehearsalOf}
use Rattle.script_model.proofs.Leading.{Leads, Leading, stays, either, conn_leads, collect_leads, still_leads, through_leads, all_read_leads, all_work_leads, pass_leads, drain_leads, lines_lead}

module _ {C A M : Type 0} (d : DeskRules C A) (r : ServiceRules C A M) (memory : ℕ → MemoryAt)
    (computes : (first cell : Cell C A M) (told : List Told) → run_plain d r told (Some first) ≡ Some cell → EventsLead d r first (map event_told told) cell) where
  -- what comes of a play is led to
  abbrev Led : Play C A M → Option (Play C A M) → Type 0
  Led play o = Leading d r memory computes play o

  -- where the one comes to a play without want, the other comes to the same
  abbrev Same : Option (Play C A M) → Option (Play C A M) → Type 0
  Same one other = (x : Play C A M) → one ≡ Some x → x.wants ≡ 0 → other ≡ Some x

  -- and where the one is no move, the other is none
  record IsAlike (one other : Option (Play C A M)) : Type 0 where
    none : one ≡ None → other ≡ None
    same : Same one other

  lower : (old new : Play C A M) → Leads d r memory computes old new → new.wants ≡ 0 → old.wants ≡ 0
  lower old new l z = let x : old.wants ≤ new.wants = l.more in omega arith

  same_self : (o : Option (Play C A M)) → Same o o
  same_self o x e z = e

  none_same : (o : Option (Play C A M)) → Same None o
  none_same o x e z = absurd (none-some x e)

  alike_self : (o : Option (Play C A M)) → IsAlike o o
  alike_self o = record { none = λ e. e; same = same_self o }

  either_alike : (b : Bool) (x x' y y' : Option (Play C A M)) → IsAlike x x' → IsAlike y y' → IsAlike (if b then x else y) (if b then x' else y')
  either_alike true x x' y y' a b = a
  either_alike false x x' y y' a b = b

  either_same : (b : Bool) (x y y' : Option (Play C A M)) → Same y y' → Same (if b then x else y) (if b then x else y')
  either_same true x y y' a z e w = e
  either_same false x y y' a z e w = a z e w

  -- a move at which memory ran out comes to a play with a want
  or_alike : (play : Play C A M) (told : Told) (o : Option (Play C A M)) → IsAlike (or_else (told_wanting d r play told) o) o
  or_alike play told o = go (told_plain d r play.cell told)
    where
      wanted : (cell : Cell C A M) → Play C A M
      wanted cell = record play { cell = cell; moves = suc play.moves; wants = suc play.wants }

      go : (found : Option (Cell C A M)) → IsAlike (or_else (option_map (λ cell. record play { cell = cell; moves = suc play.moves; wants = suc play.wants }) found) o) o
      go None = alike_self o
      go (Some cell) =
          record {
            none = λ e. absurd (none-some (wanted cell) (sym e));
            same = λ x e z. let w : suc play.wants ≡ 0 = ap (λ (p : Play C A M). p.wants) (same_Some (wanted cell) x e) ∙ z in absurd (let f : ⊥ = omega arith in f);
          }

  memory_alike : (play : Play C A M) (at : MemoryAt) (told : Told) (o : Option (Play C A M)) → IsAlike (by_memory d r at play told o) o
  memory_alike play ample told o = alike_self o
  memory_alike play lacking told o = or_alike play told o
  memory_alike play lacking_for_call told o = or_alike play told o
  memory_alike play lacking_for_answer told o = or_alike play told o

  size_alike : (budget : ℕ) (play : Play C A M) (c : ℕ) (held : List ℕ) (size : Option ℕ)
      → IsAlike (size_move d r memory budget play c held size) (size_move d r always_ample budget play c held size)
  size_alike budget play c held (Some size) = alike_self _
  size_alike budget play c held None =
      let next : Play C A M = moved_on (record play { admitted = at_number play.admitted c (Some (size_in held)) }) in
      either_alike (nat_le (all_admitted play + size_in held) budget) (admission d r memory play c (size_in held)) (Some next) None None
      (memory_alike play (memory play.moves) (goes (on_conn (gives_up c NoMemory))) (Some next)) (alike_self None)

  open_alike : (budget c : ℕ) (play : Play C A M) (conn : LoopConn) → IsAlike (open_move d r memory budget play c conn) (open_move d r always_ample budget play c conn)
  open_alike budget c play conn =
      either_alike (not (is_empty conn.left)) _ _ _ _ (alike_self (write_move d r play c conn.left (play.rules c)))
      (either_alike (nat_lt conn.submitted (length conn.payloads)) _ _ _ _ (alike_self (told_in d r play (goes (submits c))))
      (either_alike (nat_lt conn.collected conn.submitted) _ _ _ _ (alike_self None)
      (either_alike (nat_lt (length conn.held) 4) _ _ _ _ (alike_self (read_move d r play c (4 - length conn.held) (play.unread c)))
      (size_alike budget play c conn.held (play.admitted c)))))

  conn_alike : (budget c : ℕ) (play : Play C A M) → IsAlike (conn_move d r memory budget c play) (conn_move d r always_ample budget c play)
  conn_alike budget c play = either_alike (is_open play.cell.loop c) _ _ _ _ (open_alike budget c play (play.cell.loop.conns c)) (alike_self None)

  step_alike : (play : Play C A M) (w : ℕ) (worker : WorkerState A) (jobs : List Job)
      → IsAlike (step_of_worker d r memory play w worker jobs) (step_of_worker d r always_ample play w worker jobs)
  step_alike play w idle [] = alike_self _
  step_alike play w idle (job ∷ jobs) = alike_self _
  step_alike play w (holds key payload) jobs =
      memory_alike play (memory play.moves) (told_without d r w (memory play.moves) (d.decide payload)) (told_in d r play (goes (event_on d r w (d.decide payload))))
  step_alike play w (has_answer key payload answer) jobs = memory_alike play (memory play.moves) (puts_none w) (told_in d r play (goes (puts w)))
  step_alike play w (has_none key payload) jobs = alike_self _

  worker_alike : (w : ℕ) (play : Play C A M) → IsAlike (worker_move d r memory w play) (worker_move d r always_ample w play)
  worker_alike w play = step_alike play w (play.cell.workers w) play.cell.hall.jobs

  goes_same : (play : Play C A M) (o o' : Option (Play C A M)) (again again' : Play C A M → Option (Play C A M)) → IsAlike o o' → ((next : Play C A M) → Led next (again next))
      → ((next : Play C A M) → Same (again next) (again' next)) → Same (goes_on_with play o again) (goes_on_with play o' again')
  goes_same play None o' again again' a leads each x e z = ap (λ o. goes_on_with play o again') (a.none refl) ∙ e
  goes_same play (Some next) o' again again' a leads each x e z =
      let w : next.wants ≡ 0 = lower next x (subst (Led next) e (leads next)) z in
      ap (λ o. goes_on_with play o again') (a.same next refl w) ∙ each next x e z

  and_same : (o o' : Option (Play C A M)) (f f' : Play C A M → Option (Play C A M)) → Same o o' → ((next : Play C A M) → Led next (f next))
      → ((next : Play C A M) → Same (f next) (f' next)) → Same (option_and_then f o) (option_and_then f' o')
  and_same None o' f f' a leads each x e z = absurd (none-some x e)
  and_same (Some next) o' f f' a leads each x e z =
      let w : next.wants ≡ 0 = lower next x (subst (Led next) e (leads next)) z in ap (option_and_then f') (a next refl w) ∙ each next x e z

  left_same : (play : Play C A M) (o o' : Option (Play C A M)) → IsAlike o o' → Same (Some (left_by play o)) (Some (left_by play o'))
  left_same play None o' a x e z = ap (λ o. Some (left_by play o)) (a.none refl) ∙ e
  left_same play (Some next) o' a x e z =
      let w : next.wants ≡ 0 = ap (λ (p : Play C A M). p.wants) (same_Some next x e) ∙ z in ap (λ o. Some (left_by play o)) (a.same next refl w) ∙ e

  still_same : (n : ℕ) (move move' : Play C A M → Option (Play C A M)) → ((play : Play C A M) → Led play (move play)) → ((play : Play C A M) → IsAlike (move play) (move' play))
      → (play : Play C A M) → Same (until_still n move play) (until_still n move' play)
  still_same zero move move' leads each play = goes_same play (move play) (move' play) (λ next. None) (λ next. None) (each play) (λ next. tt) (λ next. none_same None)
  still_same (suc n) move move' leads each play =
      goes_same play (move play) (move' play) (λ next. until_still n move next) (λ next. until_still n move' next) (each play) (λ next. still_leads d r memory computes n move leads next)
      (λ next. still_same n move move' leads each next)

  through_same : (n w : ℕ) (play : Play C A M) → Same (work_through d r memory n w play) (work_through d r always_ample n w play)
  through_same zero w play = same_self _
  through_same (suc n) w play =
      goes_same play (worker_move d r memory w play) (worker_move d r always_ample w play)
      (λ next. if is_idle (next.cell.workers w) then Some next else work_through d r memory n w next)
      (λ next. if is_idle (next.cell.workers w) then Some next else work_through d r always_ample n w next) (worker_alike w play)
      (λ next. either d r memory computes next (is_idle (next.cell.workers w)) (Some next) _ (stays d r memory computes next) (through_leads d r memory computes n w next))
      (λ next. either_same (is_idle (next.cell.workers w)) (Some next) _ _ (through_same n w next))

  read_same : (fuel budget : ℕ) (cs : List ℕ) (play : Play C A M) → Same (all_read d r memory fuel budget cs play) (all_read d r always_ample fuel budget cs play)
  read_same fuel budget [] play = same_self _
  read_same fuel budget (c ∷ cs) play =
      and_same _ _ (λ next. all_read d r memory fuel budget cs next) (λ next. all_read d r always_ample fuel budget cs next)
      (still_same fuel (conn_move d r memory budget c) (conn_move d r always_ample budget c) (conn_leads d r memory computes budget c) (conn_alike budget c) play)
      (λ next. all_read_leads d r memory computes fuel budget cs next) (λ next. read_same fuel budget cs next)

  work_same : (ws : List ℕ) (play : Play C A M) → Same (all_work d r memory ws play) (all_work d r always_ample ws play)
  work_same [] play = same_self _
  work_same (w ∷ ws) play =
      and_same _ _ (λ next. all_work d r memory ws next) (λ next. all_work d r always_ample ws next) (through_same 3 w play)
      (λ next. all_work_leads d r memory computes ws next) (λ next. work_same ws next)

  pass_same : (fuel budget workers : ℕ) (play : Play C A M) → Same (pass d r memory fuel budget workers play) (pass d r always_ample fuel budget workers play)
  pass_same fuel budget workers play =
      and_same _ _ (λ next. until_still fuel (collect_move d r) next) (λ next. until_still fuel (collect_move d r) next)
      (and_same _ _ (λ next. all_work d r memory (count_up 0 (workers_among workers)) next) (λ next. all_work d r always_ample (count_up 0 (workers_among workers)) next)
      (read_same fuel budget (count_up 0 play.cell.loop.count) play) (λ next. all_work_leads d r memory computes (count_up 0 (workers_among workers)) next)
      (λ next. work_same (count_up 0 (workers_among workers)) next))
      (λ next. still_leads d r memory computes fuel (collect_move d r) (collect_leads d r memory computes) next) (λ next. same_self _)

  drained_same : (play : Play C A M) (again again' : Play C A M → Option (Play C A M)) (o o' : Option (Play C A M)) → Led play o → Same o o'
      → ((next : Play C A M) → Led next (again next)) → ((next : Play C A M) → Same (again next) (again' next))
      → Same (option_and_then (λ next. if next.moves == play.moves then Some play else again next) o) (option_and_then (λ next. if next.moves == play.moves then Some play else again' next) o')
  drained_same play again again' None o' l a leads each x e z = absurd (none-some x e)
  drained_same play again again' (Some next) o' l a leads each x e z = go (next.moves == play.moves) refl e
    where
      further : (w : next.wants ≡ 0) → (if next.moves == play.moves then Some play else again' next) ≡ Some x
          → option_and_then (λ next. if next.moves == play.moves then Some play else again' next) o' ≡ Some x
      further w f = ap (option_and_then (λ (next : Play C A M). if next.moves == play.moves then Some play else again' next)) (a next refl w) ∙ f

      go : (b : Bool) → (next.moves == play.moves) ≡ b → (if b then Some play else again next) ≡ Some x
          → option_and_then (λ next. if next.moves == play.moves then Some play else again' next) o' ≡ Some x
      go true same f =
          let none : play.wants ≡ 0 = ap (λ (p : Play C A M). p.wants) (same_Some play x f) ∙ z in
          let few : next.wants + play.moves ≤ next.moves + play.wants = l.few in
          let moved : next.moves ≡ play.moves = eqb-true next.moves play.moves same in
          further (omega arith) (ap (λ b. if b then Some play else again' next) same ∙ f)
      go false same f =
          further (lower next x (subst (Led next) f (leads next)) z) (ap (λ b. if b then Some play else again' next) same ∙ each next x f z)

  drain_same : (n fuel budget workers : ℕ) (play : Play C A M) → Same (drain d r memory n fuel budget workers play) (drain d r always_ample n fuel budget workers play)
  drain_same zero fuel budget workers play = none_same None
  drain_same (suc n) fuel budget workers play =
      drained_same play (λ next. drain d r memory n fuel budget workers next) (λ next. drain d r always_ample n fuel budget workers next) _ _
      (pass_leads d r memory computes fuel budget workers play) (pass_same fuel budget workers play)
      (λ next. drain_leads d r memory computes n fuel budget workers next) (λ next. drain_same n fuel budget workers next)

  line_same : (fuel budget workers : ℕ) (play : Play C A M) (line : PlanLine)
      → Same (line_done d r memory fuel budget workers play line) (line_done d r always_ample fuel budget workers play line)
  line_same fuel budget workers play opening = same_self _
  line_same fuel budget workers play (piece c bytes) = same_self _
  line_same fuel budget workers play (input_end c) = same_self _
  line_same fuel budget workers play (input_fault c) = same_self _
  line_same fuel budget workers play resting = drain_same fuel fuel budget workers play
  line_same fuel budget workers play (turn_of_conn c) = left_same play _ _ (conn_alike budget c play)
  line_same fuel budget workers play (turn_of_worker w) = left_same play _ _ (worker_alike w play)
  line_same fuel budget workers play turn_of_outcome = same_self _

  lines_same : (fuel budget workers : ℕ) (lines : List PlanLine) (play : Play C A M)
      → Same (lines_done d r memory fuel budget workers lines play) (lines_done d r always_ample fuel budget workers lines play)
  lines_same fuel budget workers [] play = drain_same fuel fuel budget workers play
  lines_same fuel budget workers (line ∷ lines) play =
      and_same _ _ (λ next. lines_done d r memory fuel budget workers lines next) (λ next. lines_done d r always_ample fuel budget workers lines next)
      (line_same fuel budget workers play line) (λ next. lines_lead d r memory computes fuel budget workers lines next) (λ next. lines_same fuel budget workers lines next)

  -- where memory never ran out, the rehearsal is the one with ample memory
  pub with_ample : (budget workers : ℕ) (script : ScriptPlan) (first last : Cell C A M) → IsRehearsalOf d r memory budget workers script 0 first last
      → IsRehearsalOf d r always_ample budget workers script 0 first last
  with_ample budget workers script first last t =
      record {
        fuel = t.fuel;
        play = t.play;
        done = lines_same t.fuel budget workers script.lines (before_all first script) t.play t.done (sym t.count);
        count = t.count;
        same = t.same;
      }
