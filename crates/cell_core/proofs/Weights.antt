-- What is left to do of a machine in memory is what weighs of the play that it is tied to, but for what ended connections left unwritten.
use Rattle.std.proofs.Common.{◌≡◌, ◌≢◌, ℕ, zero, suc, ◌+◌, ◌*◌, ◌<◌, ◌≤◌, ◌^◌, Option, None, Some, IsSome, List, [], ◌∷◌, length, refl, sym, ap, ◌∙◌, subst, arith}
use Rattle.std.specs.Prelude.{slice_index_or}
use Rattle.std.proofs.lemmas.Option.{none-some}
use Rattle.host_model.specs.declared.cause.EndCause.{EndCause}
use Rattle.host_model.proofs.Runs.{stands}
use Rattle.call_rules.specs.Handling.{handler_rules}
use Rattle.conn_state.specs.Phase.{Phase, sizing, held, framing, ready, waiting, writing, ended, left_to_write, IsReady, IsWaiting}
use Rattle.conn_table.specs.Table.{TableView, slot_of}
use Rattle.machine_model.specs.AtFronts.{summed}
use Rattle.machine_model.specs.Bounds.{sum_among}
use Rattle.machine_model.specs.Loop.{LoopConn, Loop}
use Rattle.machine_model.specs.Places.{CellKeeps}
use Rattle.machine_model.proofs.Running.{keeps}
use Rattle.script_model.proofs.Waiting.{Counted, counted}
use Rattle.script_model.proofs.Weighing.{open_weight, left_weight, conn_weight, worker_weight, workers_weight}
use Rattle.script_model.proofs.Spending.{pieces_weight, rules_weight, size_weight, play_weight}
use Rattle.cell_loop.specs.Settings.{CellSetting, ServedPlay, desk_of_setting}
use Rattle.cell_loop.specs.Reached.{IsReached}
use Rattle.cell_loop.specs.declared.loop_part.CellStage.{CellStage}
use Rattle.cell_loop.specs.declared.loop_part.CellStage.TheVariants.{Lean, Framed, Whole, Asked, Over}
use Rattle.cell_loop.specs.Feeds.{unread_in, rules_in}
use Rattle.conn_refinement.specs.Phases.{PhaseTells, IsLean, IsFraming}
use Rattle.cell_loop.specs.LoopTied.{CellStageTells}
use Rattle.cell_core.specs.declared.worker.Holding.{Holding}
use Rattle.cell_core.specs.declared.worker.Holding.TheVariants.{Idle, Holds, Answered, Unanswered}
use Rattle.cell_core.specs.HallTied.{plain_worker}
use Rattle.cell_core.proofs.HallTying.{same_jobs, same_outcomes}
use Rattle.cell_core.specs.Parts.{Parts}
use Rattle.cell_core.specs.Machines.{ArePlayed}
use Rattle.cell_core.specs.Work.{steps_to_write, steps_of_stand, steps_of_conn, steps_of_worker, steps_of_workers, steps_of_hall, steps_left}
use Rattle.call_rules.specs.Desks.{longest_payload}

-- what a run that is reached keeps
pub reached_keeps : (s : CellSetting) (play : ServedPlay) → IsReached s play → CellKeeps (desk_of_setting s) handler_rules s.opening play.cell
reached_keeps s play reached =
    let max : s.desk.max_frame ≤ longest_payload = reached.max in
    let small : s.desk.max_frame < 2 ^ 31 = omega arith in
    keeps (desk_of_setting s) handler_rules s.opening (λ acts world runs. stands (desk_of_setting s) handler_rules s.opening acts world small runs) small
    reached.run.first play.cell reached.run.events reached.run.is_first reached.run.lead

-- a connection that has ended has nothing that isn't submitted
pub all_submitted_of : (s : CellSetting) (play : ServedPlay) → IsReached s play → (c : ℕ) → c < play.cell.loop.count → (play.cell.loop.conns c).cause ≢ None
    → length (play.cell.loop.conns c).payloads ≤ (play.cell.loop.conns c).submitted
all_submitted_of s play reached c below caused =
    let k : Counted (play.cell.loop.conns c) = counted (desk_of_setting s) handler_rules s.opening play.cell (reached_keeps s play reached) c below in
    let all : (play.cell.loop.conns c).collected ≡ length (play.cell.loop.conns c).payloads = reached.none_left c below caused in
    let within : (play.cell.loop.conns c).collected ≤ (play.cell.loop.conns c).submitted = k.collected in
    omega arith

-- what weighs of a connection that has ended: what it left unwritten
abbrev pub gone_by : Option EndCause → List ℕ → ℕ
gone_by None left = 0
gone_by (Some cause) left = left_weight left

abbrev pub gone_weight : LoopConn → ℕ
gone_weight conn = gone_by conn.cause conn.left

abbrev pub gone_in : Loop → ℕ
gone_in loop = summed (λ c. gone_weight (loop.conns c)) loop.count

-- what is to be written weighs as much on both sides
to_write : (left : List ℕ) → steps_to_write left ≡ left_weight left
to_write [] = refl
to_write (byte ∷ bytes) = refl

size_some : (size : Option ℕ) → IsSome size → size_weight size ≡ 0
size_some None some = absurd (let f : ⊥ = cc in f)
size_some (Some size) some = refl

-- a connection that is open, by its phase
lean_weighs : (max : ℕ) (phase : Phase) (conn : LoopConn) → IsLean phase → conn.cause ≡ None → PhaseTells max phase conn
    → 3 + steps_to_write (left_to_write phase) + gone_weight conn ≡ conn_weight conn + 1
lean_weighs max (sizing bytes) conn lean going tells =
    let o : open_weight conn.cause ≡ 2 = ap open_weight going in
    let g : gone_weight conn ≡ 0 = ap (λ cause. gone_by cause conn.left) going in
    let s : conn.submitted ≡ length conn.payloads = tells.0.0 in
    let l : left_weight conn.left ≡ 0 = ap left_weight tells.3 in
    omega arith
lean_weighs max (held size) conn lean going tells =
    let o : open_weight conn.cause ≡ 2 = ap open_weight going in
    let g : gone_weight conn ≡ 0 = ap (λ cause. gone_by cause conn.left) going in
    let s : conn.submitted ≡ length conn.payloads = tells.0.0 in
    let l : left_weight conn.left ≡ 0 = ap left_weight tells.5 in
    omega arith
lean_weighs max (writing left) conn lean going tells =
    let o : open_weight conn.cause ≡ 2 = ap open_weight going in
    let g : gone_weight conn ≡ 0 = ap (λ cause. gone_by cause conn.left) going in
    let s : conn.submitted ≡ length conn.payloads = tells.0.0 in
    let l : left_weight conn.left ≡ left_weight left = ap left_weight tells.2 in
    let w : steps_to_write left ≡ left_weight left = to_write left in
    omega arith
lean_weighs max (framing size bytes) conn lean going tells = absurd lean
lean_weighs max (ready number payload) conn lean going tells = absurd lean
lean_weighs max (waiting number) conn lean going tells = absurd lean
lean_weighs max (ended cause) conn lean going tells = absurd lean

framed_weighs : (max : ℕ) (phase : Phase) (conn : LoopConn) → IsFraming phase → conn.cause ≡ None → PhaseTells max phase conn → 2 + gone_weight conn ≡ conn_weight conn
framed_weighs max (framing size bytes) conn framed going tells =
    let o : open_weight conn.cause ≡ 2 = ap open_weight going in
    let g : gone_weight conn ≡ 0 = ap (λ cause. gone_by cause conn.left) going in
    let s : conn.submitted ≡ length conn.payloads = tells.0.0 in
    let l : left_weight conn.left ≡ 0 = ap left_weight tells.5 in
    omega arith
framed_weighs max (sizing bytes) conn framed going tells = absurd framed
framed_weighs max (held size) conn framed going tells = absurd framed
framed_weighs max (writing left) conn framed going tells = absurd framed
framed_weighs max (ready number payload) conn framed going tells = absurd framed
framed_weighs max (waiting number) conn framed going tells = absurd framed
framed_weighs max (ended cause) conn framed going tells = absurd framed

ready_weighs : (max : ℕ) (phase : Phase) (conn : LoopConn) → IsReady phase → conn.cause ≡ None → PhaseTells max phase conn → 10 + gone_weight conn ≡ conn_weight conn
ready_weighs max (ready number payload) conn is_ready going tells =
    let o : open_weight conn.cause ≡ 2 = ap open_weight going in
    let g : gone_weight conn ≡ 0 = ap (λ cause. gone_by cause conn.left) going in
    let s : conn.submitted ≡ number = tells.1 in
    let n : length conn.payloads ≡ suc number = tells.3 in
    let l : left_weight conn.left ≡ 0 = ap left_weight tells.0.1 in
    omega arith
ready_weighs max (sizing bytes) conn is_ready going tells = absurd is_ready
ready_weighs max (held size) conn is_ready going tells = absurd is_ready
ready_weighs max (writing left) conn is_ready going tells = absurd is_ready
ready_weighs max (framing size bytes) conn is_ready going tells = absurd is_ready
ready_weighs max (waiting number) conn is_ready going tells = absurd is_ready
ready_weighs max (ended cause) conn is_ready going tells = absurd is_ready

waiting_weighs : (max : ℕ) (phase : Phase) (conn : LoopConn) → IsWaiting phase → conn.cause ≡ None → PhaseTells max phase conn → 2 + gone_weight conn ≡ conn_weight conn
waiting_weighs max (waiting number) conn waits going tells =
    let o : open_weight conn.cause ≡ 2 = ap open_weight going in
    let g : gone_weight conn ≡ 0 = ap (λ cause. gone_by cause conn.left) going in
    let s : conn.submitted ≡ suc number = tells.1 in
    let n : length conn.payloads ≡ suc number = tells.3 in
    let l : left_weight conn.left ≡ 0 = ap left_weight tells.0.1 in
    omega arith
waiting_weighs max (sizing bytes) conn waits going tells = absurd waits
waiting_weighs max (held size) conn waits going tells = absurd waits
waiting_weighs max (writing left) conn waits going tells = absurd waits
waiting_weighs max (framing size bytes) conn waits going tells = absurd waits
waiting_weighs max (ready number payload) conn waits going tells = absurd waits
waiting_weighs max (ended cause) conn waits going tells = absurd waits

-- a connection, by how it stands
stand_weighs : (max : ℕ) (table : TableView) (c : ℕ) (conn : LoopConn) (admitted : Option ℕ) (stage : CellStage) → CellStageTells max table c conn admitted stage
    → (conn.cause ≢ None → length conn.payloads ≤ conn.submitted) → steps_of_stand table c stage + gone_weight conn ≡ conn_weight conn + size_weight admitted
stand_weighs max table c conn admitted Lean tells none =
    let w : 3 + steps_to_write (left_to_write (slot_of c table.slots).conn.phase) + gone_weight conn ≡ conn_weight conn + 1 =
    lean_weighs max (slot_of c table.slots).conn.phase conn tells.0.in_its_phase tells.0.tied.going tells.0.tied.tells in
    let z : size_weight admitted ≡ 1 = ap size_weight tells.2 in
    omega arith
stand_weighs max table c conn admitted Framed tells none =
    let w : 2 + gone_weight conn ≡ conn_weight conn = framed_weighs max (slot_of c table.slots).conn.phase conn tells.0.in_its_phase tells.0.tied.going tells.0.tied.tells in
    let z : size_weight admitted ≡ 0 = ap size_weight tells.1.1 ∙ size_some (slot_of c table.slots).size tells.1.0 in
    omega arith
stand_weighs max table c conn admitted Whole tells none =
    let w : 10 + gone_weight conn ≡ conn_weight conn = ready_weighs max (slot_of c table.slots).conn.phase conn tells.0.in_its_phase tells.0.tied.going tells.0.tied.tells in
    let z : size_weight admitted ≡ 0 = ap size_weight tells.1.1 ∙ size_some (slot_of c table.slots).size tells.1.0 in
    omega arith
stand_weighs max table c conn admitted Asked tells none =
    let w : 2 + gone_weight conn ≡ conn_weight conn = waiting_weighs max (slot_of c table.slots).conn.phase conn tells.0.in_its_phase tells.0.tied.going tells.0.tied.tells in
    let z : size_weight admitted ≡ 0 = ap size_weight tells.1.1 ∙ size_some (slot_of c table.slots).size tells.1.0 in
    omega arith
stand_weighs max table c conn admitted (Over cause) tells none =
    let o : open_weight conn.cause ≡ 0 = ap open_weight tells.2 in
    let g : gone_weight conn ≡ left_weight conn.left = ap (λ x. gone_by x conn.left) tells.2 in
    let s : length conn.payloads ≤ conn.submitted = none (λ e. none-some cause (sym e ∙ tells.2)) in
    let z : size_weight admitted ≡ 1 = ap size_weight tells.1 in
    omega arith

-- sums of equal numbers
pub summed_same : (f g : ℕ → ℕ) (n : ℕ) → ((c : ℕ) → c < n → f c ≡ g c) → summed f n ≡ summed g n
summed_same f g zero each = refl
summed_same f g (suc n) each =
    let here : f n ≡ g n = each n (omega arith) in
    let rest : summed f n ≡ summed g n = summed_same f g n (λ c l. each c (omega arith)) in
    omega arith

among_summed : (f : LoopConn → ℕ) (conns : ℕ → LoopConn) (n : ℕ) → sum_among f conns n ≡ summed (λ c. f (conns c)) n
among_summed f conns zero = refl
among_summed f conns (suc n) = let rest : sum_among f conns n ≡ summed (λ c. f (conns c)) n = among_summed f conns n in omega arith

-- sums of numbers that are equal together
summed_both : (a b p q r t : ℕ → ℕ) (n : ℕ) → ((c : ℕ) → c < n → a c + b c ≡ p c + q c + r c + t c)
    → summed a n + summed b n ≡ summed p n + summed q n + summed r n + summed t n
summed_both a b p q r t zero each = refl
summed_both a b p q r t (suc n) each =
    let here : a n + b n ≡ p n + q n + r n + t n = each n (omega arith) in
    let rest : summed a n + summed b n ≡ summed p n + summed q n + summed r n + summed t n = summed_both a b p q r t n (λ c l. each c (omega arith)) in
    omega arith

-- a worker
worker_weighs : (worker : Holding) → steps_of_worker worker ≡ worker_weight (plain_worker worker)
worker_weighs Idle = refl
worker_weighs (Holds job) = refl
worker_weighs (Answered job given) = refl
worker_weighs (Unanswered job) = refl

module _ (s : CellSetting) (m : Parts) (play : ServedPlay) (tied : ArePlayed s m play) where
  -- a connection that was opened
  one_weighs : (c : ℕ) → c < length m.part.stages.items
      → steps_of_conn m.part c + gone_weight (play.cell.loop.conns c)
      ≡ conn_weight (play.cell.loop.conns c) + pieces_weight (play.unread c) + rules_weight (play.rules c) + size_weight (play.admitted c)
  one_weighs c below =
      let stage : CellStage = slice_index_or m.part.stages.items c Lean in
      let w : steps_of_stand m.part.table c stage + gone_weight (play.cell.loop.conns c) ≡ conn_weight (play.cell.loop.conns c) + size_weight (play.admitted c) =
      stand_weighs s.desk.max_frame m.part.table c (play.cell.loop.conns c) (play.admitted c) stage (tied.loop_tied.stages c below)
      (all_submitted_of s play tied.reached c (subst (λ n. c < n) (sym tied.loop_tied.count) below)) in
      let p : pieces_weight (play.unread c) ≡ pieces_weight (unread_in m.part.feeds.items c) = ap pieces_weight (tied.loop_tied.unread c) in
      let r : rules_weight (play.rules c) ≡ rules_weight (rules_in m.part.feeds.items c) = ap rules_weight (tied.loop_tied.rules c) in
      omega arith

  loop_weighs : summed (λ c. steps_of_conn m.part c) (length m.part.stages.items) + gone_in play.cell.loop
      ≡ sum_among conn_weight play.cell.loop.conns play.cell.loop.count + summed (λ c. pieces_weight (play.unread c)) play.cell.loop.count
      + summed (λ c. rules_weight (play.rules c)) play.cell.loop.count + summed (λ c. size_weight (play.admitted c)) play.cell.loop.count
  loop_weighs =
      let n : ℕ = play.cell.loop.count in
      let count : length m.part.stages.items ≡ n = sym tied.loop_tied.count in
      let a : summed (λ c. steps_of_conn m.part c) (length m.part.stages.items) ≡ summed (λ c. steps_of_conn m.part c) n = ap (summed (λ c. steps_of_conn m.part c)) count in
      let b : sum_among conn_weight play.cell.loop.conns n ≡ summed (λ c. conn_weight (play.cell.loop.conns c)) n = among_summed conn_weight play.cell.loop.conns n in
      let all : summed (λ c. steps_of_conn m.part c) n + summed (λ c. gone_weight (play.cell.loop.conns c)) n
      ≡ summed (λ c. conn_weight (play.cell.loop.conns c)) n + summed (λ c. pieces_weight (play.unread c)) n + summed (λ c. rules_weight (play.rules c)) n + summed (λ c. size_weight (play.admitted c)) n =
      summed_both (λ c. steps_of_conn m.part c) (λ c. gone_weight (play.cell.loop.conns c)) (λ c. conn_weight (play.cell.loop.conns c)) (λ c. pieces_weight (play.unread c))
      (λ c. rules_weight (play.rules c)) (λ c. size_weight (play.admitted c)) n (λ c l. one_weighs c (subst (λ k. c < k) (sym count) l)) in
      omega arith

  workers_weigh : steps_of_workers m.workers ≡ workers_weight (length m.workers) play.cell.workers
  workers_weigh =
      summed_same (λ w. steps_of_worker (slice_index_or m.workers w Idle)) (λ w. worker_weight (play.cell.workers w)) (length m.workers)
      (λ w l. worker_weighs (slice_index_or m.workers w Idle) ∙ ap worker_weight (sym (tied.workers_tied.each w)))

  hall_weighs : steps_of_hall m.hall ≡ 7 * length play.cell.hall.jobs + 4 * length play.cell.hall.outcomes
  hall_weighs =
      let a : length play.cell.hall.jobs ≡ length m.hall.jobs = ap length (same_jobs m.hall play.cell.hall tied.hall_tied) in
      let b : length play.cell.hall.outcomes ≡ length m.hall.outcomes = ap length (same_outcomes m.hall play.cell.hall tied.hall_tied) in
      omega arith

  -- all that is to be done
  pub machine_weighs : steps_left m.part m.hall m.workers + gone_in play.cell.loop ≡ play_weight (length m.workers) play
  machine_weighs =
      let a : summed (λ c. steps_of_conn m.part c) (length m.part.stages.items) + gone_in play.cell.loop
      ≡ sum_among conn_weight play.cell.loop.conns play.cell.loop.count + summed (λ c. pieces_weight (play.unread c)) play.cell.loop.count
      + summed (λ c. rules_weight (play.rules c)) play.cell.loop.count + summed (λ c. size_weight (play.admitted c)) play.cell.loop.count = loop_weighs in
      let b : steps_of_workers m.workers ≡ workers_weight (length m.workers) play.cell.workers = workers_weigh in
      let h : steps_of_hall m.hall ≡ 7 * length play.cell.hall.jobs + 4 * length play.cell.hall.outcomes = hall_weighs in
      omega arith
