-- Each move of a machine in memory leaves less to be done.
use Rattle.std.proofs.Common.{◌≡◌, ℕ, zero, suc, ◌+◌, ◌<◌, ◌≤◌, ◌⊎◌, false, Option, None, Some, List, [], ◌∷◌, length, refl, sym, ap, ◌∙◌, subst, inl, inr, arith}
use Rattle.std.proofs.lemmas.Bool.{cases_eq, cases_lt}
use Rattle.streams.specs.declared.marks.Mark.{Mark}
use Rattle.streams.specs.declared.outcomes.Settled.{Settled}
use Rattle.host_model.specs.declared.cause.EndCause.{EndCause}
use Rattle.call_rules.specs.Handling.{handler_rules}
use Rattle.machine_model.specs.HallRule.{HallAnswer, done, outcome}
use Rattle.call_rules.specs.PlainCalls.{PlainAnswer}
use Rattle.machine_model.specs.Loop.{LoopConn, new_conn, Loop, with_conn, changed, ConnEvent, opens, reads, ends, fails_read, writes, fails_write, gives_up, Happens, submitted_more, conn_settled, after_submit, after_collect}
use Rattle.machine_model.specs.Machine.{MachineEvent, on_conn, submits, takes, applies, puts, collects, closes, Steps, EventsLead}
use Rattle.machine_model.specs.AtFronts.{summed}
use Rattle.machine_model.proofs.Lists.{put_same, put_other}
use Rattle.script_model.specs.Playing.{MemoryAt}
use Rattle.script_model.proofs.Spending.{play_weight, IsLess, Lessened, conn_less, worker_less, collect_less}
use Rattle.cell_loop.specs.Settings.{CellSetting, ServedCell, ServedPlay, desk_of_setting}
use Rattle.cell_loop.specs.Moving.{ComesTo, one_of_conn, one_of_worker, one_of_outcome}
use Rattle.cell_loop.specs.Reached.{IsReachedFrom}
use Rattle.cell_loop.proofs.Arriving.{came_so}
use Rattle.cell_core.proofs.HallTying.{still_open}
use Rattle.cell_core.specs.Parts.{Parts}
use Rattle.cell_core.specs.Machines.{ArePlayed}
use Rattle.cell_core.specs.Work.{steps_left}
use Rattle.cell_core.proofs.Weights.{gone_by, gone_weight, gone_in, machine_weighs}

-- as many connections are known or more, and no less is left unwritten of one that has ended
record Grows (old new : Loop) : Type 0 where
  count : old.count ≤ new.count
  each : (c : ℕ) → c < old.count → gone_weight (old.conns c) ≤ gone_weight (new.conns c)

grows_self : (loop : Loop) → Grows loop loop
grows_self loop = record { count = omega arith; each = λ c l. omega arith }

grows_then : (old mid new : Loop) → Grows old mid → Grows mid new → Grows old new
grows_then old mid new one two =
    let a : old.count ≤ mid.count = one.count in
    let b : mid.count ≤ new.count = two.count in
    record {
      count = omega arith;
      each = λ c l.
          let first : gone_weight (old.conns c) ≤ gone_weight (mid.conns c) = one.each c l in
          let second : gone_weight (mid.conns c) ≤ gone_weight (new.conns c) = two.each c (omega arith) in
          omega arith;
    }

grows_same : (old new : Loop) → new ≡ old → Grows old new
grows_same old new same = subst (Grows old) (sym same) (grows_self old)

-- one connection is another
changed_grows : (loop : Loop) (c : ℕ) (conn : LoopConn) (marks : List Mark) → gone_weight (loop.conns c) ≤ gone_weight conn → Grows loop (changed loop c conn marks)
changed_grows loop c conn marks less = record { count = omega arith; each = λ x l. go x (cases_eq x c) }
  where
    go : (x : ℕ) → (x ≡ c) ⊎ (x ≡ c → ⊥) → gone_weight (loop.conns x) ≤ gone_weight (with_conn loop.conns c conn x)
    go x (inl e) =
        let a : gone_weight (loop.conns x) ≡ gone_weight (loop.conns c) = ap (λ y. gone_weight (loop.conns y)) e in
        let b : gone_weight (with_conn loop.conns c conn x) ≡ gone_weight conn = ap (λ y. gone_weight (with_conn loop.conns c conn y)) e ∙ ap gone_weight (put_same loop.conns c conn) in
        let m : gone_weight (loop.conns c) ≤ gone_weight conn = less in
        omega arith
    go x (inr n) = let a : gone_weight (with_conn loop.conns c conn x) ≡ gone_weight (loop.conns x) = ap gone_weight (put_other loop.conns c conn x n) in omega arith

-- one that is open has left nothing yet
open_grows : (loop : Loop) (c : ℕ) (conn : LoopConn) (marks : List Mark) → (loop.conns c).cause ≡ None → Grows loop (changed loop c conn marks)
open_grows loop c conn marks going =
    let none : gone_weight (loop.conns c) ≡ 0 = ap (λ cause. gone_by cause (loop.conns c).left) going in changed_grows loop c conn marks (omega arith)

-- one more is opened
opened_grows : (loop : Loop) (tape : List Mark) → Grows loop (record { tape = tape; count = suc loop.count; conns = with_conn loop.conns loop.count new_conn })
opened_grows loop tape =
    record {
      count = omega arith;
      each = λ x l.
          let a : gone_weight (with_conn loop.conns loop.count new_conn x) ≡ gone_weight (loop.conns x) =
          ap gone_weight (put_other loop.conns loop.count new_conn x (λ e. let same : x ≡ loop.count = e in let f : ⊥ = omega arith in f)) in
          omega arith;
    }

event_grows : (max : ℕ) (old new : Loop) (conn_event : ConnEvent) → Happens max old conn_event new → Grows old new
event_grows max old new opens t = subst (Grows old) (sym t.1) (opened_grows old _)
event_grows max old new (reads c bytes) t = subst (Grows old) (sym t.6) (open_grows old c _ _ t.1.1)
event_grows max old new (ends c) t = subst (Grows old) (sym t.2) (open_grows old c _ _ t.0.1)
event_grows max old new (fails_read c) t = subst (Grows old) (sym t.2) (open_grows old c _ _ t.0.1)
event_grows max old new (writes c count) t = subst (Grows old) (sym t.3) (open_grows old c _ _ t.0.1)
event_grows max old new (fails_write c) t = subst (Grows old) (sym t.2) (open_grows old c _ _ t.0.1)
event_grows max old new (gives_up c cause) t = subst (Grows old) (sym t.2) (open_grows old c _ _ t.0.1)

-- a payload is submitted
submit_grows : (old : Loop) (c : ℕ) (answer : HallAnswer PlainAnswer) → Grows old (after_submit old c answer)
submit_grows old c done = changed_grows old c (submitted_more (old.conns c)) [] (omega arith)
submit_grows old c _ = grows_self old

-- an outcome is collected
settled_gone : (conn : LoopConn) (settled : Settled) (cause : Option EndCause) → conn.cause ≡ cause → gone_weight conn ≤ gone_weight (conn_settled cause settled conn)
settled_gone conn settled None e = let none : gone_weight conn ≡ 0 = ap (λ x. gone_by x conn.left) e in omega arith
settled_gone conn settled (Some cause) e = omega arith

collect_grows : (old : Loop) (answer : HallAnswer PlainAnswer) → Grows old (after_collect old answer)
collect_grows old (outcome key settled) =
    changed_grows old key.c (conn_settled (old.conns key.c).cause settled (old.conns key.c)) _ (settled_gone (old.conns key.c) settled (old.conns key.c).cause refl)
collect_grows old _ = grows_self old

module _ (s : CellSetting) where
  step_grows : (old new : ServedCell) (event : MachineEvent) → Steps (desk_of_setting s) handler_rules old event new → Grows old.loop new.loop
  step_grows old new (on_conn conn_event) t =
      grows_then old.loop t.0 new.loop (event_grows s.desk.max_frame old.loop t.0 conn_event t.1) (grows_same t.0 new.loop (ap (λ (c : ServedCell). c.loop) t.2))
  step_grows old new (submits c) t =
      subst (Grows old.loop) (sym (ap (λ (c : ServedCell). c.loop) t.2.5 ∙ t.2.3.3)) (submit_grows old.loop c t.2.0)
  step_grows old new (takes w) t = grows_same old.loop new.loop (ap (λ (c : ServedCell). c.loop) t.5)
  step_grows old new (applies w) t = grows_same old.loop new.loop (ap (λ (c : ServedCell). c.loop) t.2.5)
  step_grows old new (puts w) t = grows_same old.loop new.loop (ap (λ (c : ServedCell). c.loop) t.2.5)
  step_grows old new collects t = subst (Grows old.loop) (sym (ap (λ (c : ServedCell). c.loop) t.5 ∙ t.3)) (collect_grows old.loop t.0)
  step_grows old new closes t = grows_same old.loop new.loop (ap (λ (c : ServedCell). c.loop) t.5 ∙ t.3)

  run_grows : (old new : ServedCell) (events : List MachineEvent) → EventsLead (desk_of_setting s) handler_rules old events new → Grows old.loop new.loop
  run_grows old new [] lead = grows_same old.loop new.loop (ap (λ (c : ServedCell). c.loop) lead)
  run_grows old new (event ∷ events) lead = grows_then old.loop lead.0.loop new.loop (step_grows old lead.0 event lead.1) (run_grows lead.0 new events lead.2)

-- a sum of more numbers, none of which is less
summed_grows : (f g : ℕ → ℕ) (n m : ℕ) → n ≤ m → ((c : ℕ) → c < n → f c ≤ g c) → summed f n ≤ summed g m
summed_grows f g n zero within each = go n within
  where
    go : (k : ℕ) → k ≤ 0 → summed f k ≤ 0
    go zero l = omega arith
    go (suc k) l = absurd (let f : ⊥ = omega arith in f)
summed_grows f g zero (suc m) within each = omega arith
summed_grows f g (suc n) (suc m) within each =
    go (cases_lt n m) (λ l. summed_grows f g (suc n) m l each) (λ l. summed_grows f g n m l (λ c k. each c (omega arith)))
  where
    go : (n < m) ⊎ (m ≤ n) → (suc n ≤ m → summed f (suc n) ≤ summed g m) → (n ≤ m → summed f n ≤ summed g m) → f n + summed f n ≤ g m + summed g m
    go (inl l) longer shorter = let all : summed f (suc n) ≤ summed g m = longer (omega arith) in omega arith
    go (inr l) longer shorter =
        let same : n ≡ m = omega arith in
        let here : f n ≤ g n = each n (omega arith) in
        let at : g n ≡ g m = ap g same in
        let rest : summed f n ≤ summed g m = shorter (omega arith) in
        omega arith

gone_grows : (old new : Loop) → Grows old new → gone_in old ≤ gone_in new
gone_grows old new grows = summed_grows (λ c. gone_weight (old.conns c)) (λ c. gone_weight (new.conns c)) old.count new.count grows.count grows.each

-- A machine whose play has less to do has less to do.
pub lessens : (s : CellSetting) (old new : Parts) (play next : ServedPlay) → ArePlayed s old play → ArePlayed s new next → length new.workers ≡ length old.workers
    → IsReachedFrom s play next → play_weight (length old.workers) next < play_weight (length old.workers) play
    → steps_left new.part new.hall new.workers < steps_left old.part old.hall old.workers
lessens s old new play next before behind workers reached less =
    let a : steps_left old.part old.hall old.workers + gone_in play.cell.loop ≡ play_weight (length old.workers) play = machine_weighs s old play before in
    let b : steps_left new.part new.hall new.workers + gone_in next.cell.loop ≡ play_weight (length new.workers) next = machine_weighs s new next behind in
    let k : play_weight (length new.workers) next ≡ play_weight (length old.workers) next = ap (λ n. play_weight n next) workers in
    let g : gone_in play.cell.loop ≤ gone_in next.cell.loop = gone_grows play.cell.loop next.cell.loop (run_grows s play.cell next.cell reached.events reached.lead) in
    let l : play_weight (length old.workers) next < play_weight (length old.workers) play = less in
    omega arith

-- One whose play is the same has as much to do.
pub stays_heavy : (s : CellSetting) (old new : Parts) (play : ServedPlay) → ArePlayed s old play → ArePlayed s new play → length new.workers ≡ length old.workers
    → steps_left new.part new.hall new.workers ≡ steps_left old.part old.hall old.workers
stays_heavy s old new play before behind workers =
    let a : steps_left old.part old.hall old.workers + gone_in play.cell.loop ≡ play_weight (length old.workers) play = machine_weighs s old play before in
    let b : steps_left new.part new.hall new.workers + gone_in play.cell.loop ≡ play_weight (length new.workers) play = machine_weighs s new play behind in
    let k : play_weight (length new.workers) play ≡ play_weight (length old.workers) play = ap (λ n. play_weight n play) workers in
    omega arith

-- a connection has moved
pub conn_lessens : (s : CellSetting) (c : ℕ) (old new : Parts) (play next : ServedPlay) → ArePlayed s old play → ArePlayed s new next → length new.workers ≡ length old.workers
    → IsReachedFrom s play next → ComesTo (one_of_conn s c) play next → steps_left new.part new.hall new.workers < steps_left old.part old.hall old.workers
conn_lessens s c old new play next before behind workers reached comes =
    let at : (memory : ℕ → MemoryAt) × (n : ℕ) × (one_of_conn s c n n memory play ≡ Some next) = came_so (one_of_conn s c) play next comes in
    let unclosed : play.cell.hall.closed ≡ false = still_open old.hall play.cell.hall before.hall_tied in
    let less : IsLess (length old.workers) play next =
    subst (λ o. Lessened (desk_of_setting s) handler_rules at.0 (length old.workers) play o) at.2
    (conn_less (desk_of_setting s) handler_rules at.0 (length old.workers) s.budget c play unclosed) in
    lessens s old new play next before behind workers reached less.weight

-- a worker has moved
pub worker_lessens : (s : CellSetting) (w : ℕ) (old new : Parts) (play next : ServedPlay) → w < length old.workers → ArePlayed s old play → ArePlayed s new next
    → length new.workers ≡ length old.workers → IsReachedFrom s play next → ComesTo (one_of_worker s w) play next
    → steps_left new.part new.hall new.workers < steps_left old.part old.hall old.workers
worker_lessens s w old new play next there before behind workers reached comes =
    let at : (memory : ℕ → MemoryAt) × (n : ℕ) × (one_of_worker s w n n memory play ≡ Some next) = came_so (one_of_worker s w) play next comes in
    let unclosed : play.cell.hall.closed ≡ false = still_open old.hall play.cell.hall before.hall_tied in
    let less : IsLess (length old.workers) play next =
    subst (λ o. Lessened (desk_of_setting s) handler_rules at.0 (length old.workers) play o) at.2
    (worker_less (desk_of_setting s) handler_rules at.0 (length old.workers) w play there unclosed) in
    lessens s old new play next before behind workers reached less.weight

-- an outcome was collected
pub outcome_lessens : (s : CellSetting) (old new : Parts) (play next : ServedPlay) → ArePlayed s old play → ArePlayed s new next → length new.workers ≡ length old.workers
    → IsReachedFrom s play next → ComesTo (one_of_outcome s) play next → steps_left new.part new.hall new.workers < steps_left old.part old.hall old.workers
outcome_lessens s old new play next before behind workers reached comes =
    let at : (memory : ℕ → MemoryAt) × (n : ℕ) × (one_of_outcome s n n memory play ≡ Some next) = came_so (one_of_outcome s) play next comes in
    let unclosed : play.cell.hall.closed ≡ false = still_open old.hall play.cell.hall before.hall_tied in
    let less : IsLess (length old.workers) play next =
    subst (λ o. Lessened (desk_of_setting s) handler_rules at.0 (length old.workers) play o) at.2
    (collect_less (desk_of_setting s) handler_rules at.0 (length old.workers) play unclosed) in
    lessens s old new play next before behind workers reached less.weight
