-- The whole rehearsal: lines in order, and at rests and at the end the run is drained.
use Rattle.std.specs.Prelude.{◌≡◌, ℕ, zero, suc, Bool, true, false, ◌==◌, if◌then◌else◌, Option, None, Some, List, [], ◌∷◌, ◌++◌, option_and_then}
use Rattle.host_model.specs.Journal.{ServiceRules}
use Rattle.host_model.specs.DeskRules.{DeskRules}
use Rattle.machine_model.specs.Loop.{opens}
use Rattle.machine_model.specs.Worker.{WorkerState, idle}
use Rattle.machine_model.specs.Machine.{Cell, on_conn}
use Rattle.machine_model.specs.Plain.{goes}
use Rattle.script_model.specs.ScriptLines.{PlanLine, opening, piece, input_end, input_fault, resting, turn_of_conn, turn_of_worker, turn_of_outcome, ScriptPlan, rules_of, count_up}
use Rattle.script_model.specs.Playing.{finishes, faults, MemoryAt, Play, at_number, told_in, conn_move, worker_move, collect_move}

-- what a move leaves, or all as it was where there was none
abbrev pub left_by : {X : Type 0} → X → Option X → X
left_by play None = play
left_by play (Some next) = next

-- all as it was where there was no move, else what comes of going on
abbrev pub goes_on_with : {X : Type 0} → X → Option X → (X → Option X) → Option X
goes_on_with play None again = Some play
goes_on_with play (Some next) again = again next

-- a move is made until there is none: what it comes to, where so many moves suffice
abbrev pub until_still : {X : Type 0} → ℕ → (X → Option X) → X → Option X
until_still zero move play = goes_on_with play (move play) (λ next. None)
until_still (suc n) move play = goes_on_with play (move play) (λ next. until_still n move next)

-- how many workers there are: one at least
abbrev pub workers_among : ℕ → ℕ
workers_among zero = 1
workers_among (suc n) = suc n

-- a worker holds no job
abbrev pub is_idle : {A : Type 0} → WorkerState A → Bool
is_idle idle = true
is_idle _ = false

-- a machine before the first line of a script
abbrev pub before_all : {C A M : Type 0} → Cell C A M → ScriptPlan → Play C A M
before_all cell script = record { cell = cell; unread = λ _. []; finish = λ _. None; rules = λ c. rules_of c script; admitted = λ _. None; moves = 0; wants = 0 }

module _ {C A M : Type 0} (d : DeskRules C A) (r : ServiceRules C A M) (memory : ℕ → MemoryAt) where
  -- worker w moves until it has put its job, or finds none: a job has three moves at most
  abbrev pub work_through : ℕ → ℕ → Play C A M → Option (Play C A M)
  work_through zero w play = Some play
  work_through (suc n) w play =
      goes_on_with play (worker_move d r memory w play) (λ next. if is_idle (next.cell.workers w) then Some next else work_through n w next)

  -- each of these connections moves until it can't
  abbrev pub all_read : ℕ → ℕ → List ℕ → Play C A M → Option (Play C A M)
  all_read fuel budget [] play = Some play
  all_read fuel budget (c ∷ cs) play = option_and_then (λ next. all_read fuel budget cs next) (until_still fuel (conn_move d r memory budget c) play)

  -- each of these workers has put its job, or found none
  abbrev pub all_work : List ℕ → Play C A M → Option (Play C A M)
  all_work [] play = Some play
  all_work (w ∷ ws) play = option_and_then (λ next. all_work ws next) (work_through 3 w play)

  -- a pass over the connections, the workers and the outcomes
  abbrev pub pass : ℕ → ℕ → ℕ → Play C A M → Option (Play C A M)
  pass fuel budget workers play =
      option_and_then (λ next. until_still fuel (collect_move d r) next)
      (option_and_then (λ next. all_work (count_up 0 (workers_among workers)) next) (all_read fuel budget (count_up 0 play.cell.loop.count) play))

  -- passes until one moves nothing
  abbrev pub drain : ℕ → ℕ → ℕ → ℕ → Play C A M → Option (Play C A M)
  drain zero fuel budget workers play = None
  drain (suc n) fuel budget workers play =
      option_and_then (λ next. if next.moves == play.moves then Some play else drain n fuel budget workers next) (pass fuel budget workers play)

  -- a line is done: something arrives, a connection is opened, the run is drained, or one move is made, where there is one
  abbrev pub line_done : ℕ → ℕ → ℕ → Play C A M → PlanLine → Option (Play C A M)
  line_done fuel budget workers play opening = Some (left_by play (told_in d r play (goes (on_conn opens))))
  line_done fuel budget workers play (piece c bytes) = Some (record play { unread = at_number play.unread c (play.unread c ++ bytes ∷ []) })
  line_done fuel budget workers play (input_end c) = Some (record play { finish = at_number play.finish c (Some finishes) })
  line_done fuel budget workers play (input_fault c) = Some (record play { finish = at_number play.finish c (Some faults) })
  line_done fuel budget workers play resting = drain fuel fuel budget workers play
  line_done fuel budget workers play (turn_of_conn c) = Some (left_by play (conn_move d r memory budget c play))
  line_done fuel budget workers play (turn_of_worker w) = Some (left_by play (worker_move d r memory w play))
  line_done fuel budget workers play turn_of_outcome = Some (left_by play (collect_move d r play))

  -- the lines are done in order, and after the last one the run is drained
  abbrev pub lines_done : ℕ → ℕ → ℕ → List PlanLine → Play C A M → Option (Play C A M)
  lines_done fuel budget workers [] play = drain fuel fuel budget workers play
  lines_done fuel budget workers (line ∷ lines) play = option_and_then (λ next. lines_done fuel budget workers lines next) (line_done fuel budget workers play line)

  -- the rehearsal of a script by a machine, with so many workers, where so many steps suffice
  abbrev pub rehearsal : ℕ → ℕ → ℕ → ScriptPlan → Cell C A M → Option (Play C A M)
  rehearsal fuel budget workers script cell = lines_done fuel budget workers script.lines (before_all cell script)

  -- The rehearsal of a script comes to this cell, if some number of steps suffices; at so many of its moves memory ran out.
  pub record IsRehearsalOf (budget workers : ℕ) (script : ScriptPlan) (wants : ℕ) (first last : Cell C A M) : Type 0 where
    pub fuel : ℕ
    pub play : Play C A M
    pub done : rehearsal fuel budget workers script first ≡ Some play
    pub count : wants ≡ play.wants
    pub same : last ≡ play.cell
