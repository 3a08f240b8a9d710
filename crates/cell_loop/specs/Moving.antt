-- What a play comes to, whatever memory was like at its moves: the moves that were made are of the past, so that memory at later ones stays open.
use Rattle.std.specs.Prelude.{◌≡◌, ℕ, suc, ◌+◌, ◌≤◌, Bool, true, false, Option, None, Some, List, [], ◌∷◌, length, slice_index_or, option_and_then}
use Rattle.call_rules.specs.Handling.{handler_rules}
use Rattle.script_model.specs.ScriptLines.{PlanLine, count_up}
use Rattle.script_model.specs.Playing.{MemoryAt, ample, conn_move, worker_move, collect_move, told_in}
use Rattle.script_model.specs.Rehearsing.{until_still, work_through, all_read, all_work, pass, drain, line_done, lines_done}
use Rattle.cell_loop.specs.Settings.{CellSetting, ServedPlay, desk_of_setting}
use Rattle.machine_model.specs.Loop.{opens}
use Rattle.machine_model.specs.Machine.{on_conn}
use Rattle.machine_model.specs.Plain.{goes}

-- memory is so at move n and at those after it
abbrev pub IsSoFrom : (ℕ → MemoryAt) → ℕ → List MemoryAt → Type 0
IsSoFrom memory n [] = Unit {0}
IsSoFrom memory n (first ∷ later) = (memory n ≡ first) × IsSoFrom memory (suc n) later

-- memory as it was at so many moves, and ample after them
abbrev pub memory_of : List MemoryAt → ℕ → MemoryAt
memory_of memories move = slice_index_or memories move ample

-- what is done with a play, where so many passes and so many steps suffice, by how memory is at its moves
abbrev pub Doing : Type 0
Doing = ℕ → ℕ → (ℕ → MemoryAt) → ServedPlay → Option ServedPlay

-- one thing done after another
abbrev pub followed_by : Doing → Doing → Doing
followed_by f g passes enough memory play = option_and_then (λ next. g passes enough memory next) (f passes enough memory play)

-- This done with the old play comes to the new one: memory was so at the moves between, and whatever it is like at others, and with any more steps, it does.
pub record ComesTo (doing : Doing) (old new : ServedPlay) : Type 0 where
  pub memories : List MemoryAt
  pub counted : new.moves ≡ length memories + old.moves
  pub fuel : ℕ
  pub leads : (passes enough : ℕ) (memory : ℕ → MemoryAt) → fuel ≤ passes → fuel ≤ enough → IsSoFrom memory old.moves memories
      → doing passes enough memory old ≡ Some new

-- however memory is, there is no such move
abbrev pub HasNoMove : Doing → ServedPlay → Type 0
HasNoMove doing old = (passes enough : ℕ) (memory : ℕ → MemoryAt) → doing passes enough memory old ≡ None

-- What is made of a play: it comes to one that is tied to what there is now.
abbrev pub GoesTo : Doing → (ServedPlay → Type 0) → ServedPlay → Type 0
GoesTo doing tied old = (new : ServedPlay) × ComesTo doing old new × tied new

-- What one move makes of it: a play that is tied to what there is now; or there is no move, and it is itself still tied.
abbrev pub GoesOrStays : Doing → (ServedPlay → Type 0) → ServedPlay → Bool → Type 0
GoesOrStays doing tied old true = GoesTo doing tied old
GoesOrStays doing tied old false = HasNoMove doing old × tied old

-- What is left to do of a thing comes to what all of it comes to.
abbrev pub ContinuesWith : Doing → Doing → ServedPlay → ServedPlay → Type 0
ContinuesWith all left first now = (last : ServedPlay) → ComesTo left now last → ComesTo all first last

-- the move of a connection
abbrev pub one_of_conn : CellSetting → ℕ → Doing
one_of_conn s c passes enough memory play = conn_move (desk_of_setting s) handler_rules memory s.budget c play

-- the move of a worker
abbrev pub one_of_worker : CellSetting → ℕ → Doing
one_of_worker s w passes enough memory play = worker_move (desk_of_setting s) handler_rules memory w play

-- an outcome is collected
abbrev pub one_of_outcome : CellSetting → Doing
one_of_outcome s passes enough memory play = collect_move (desk_of_setting s) handler_rules play

-- a connection moves until it can't
abbrev pub all_of_conn : CellSetting → ℕ → Doing
all_of_conn s c passes enough memory play = until_still enough (conn_move (desk_of_setting s) handler_rules memory s.budget c) play

-- each of these does
abbrev pub all_of_conns : CellSetting → List ℕ → Doing
all_of_conns s cs passes enough memory play = all_read (desk_of_setting s) handler_rules memory enough s.budget cs play

-- each of the first so many does
abbrev pub first_of_conns : CellSetting → ℕ → Doing
first_of_conns s n = all_of_conns s (count_up 0 n)

-- a worker moves until it has put its job, at most so often, or finds none
abbrev pub all_of_worker : CellSetting → ℕ → ℕ → Doing
all_of_worker s n w passes enough memory play = work_through (desk_of_setting s) handler_rules memory n w play

-- each of these does
abbrev pub all_of_workers : CellSetting → List ℕ → Doing
all_of_workers s ws passes enough memory play = all_work (desk_of_setting s) handler_rules memory ws play

-- each of the first so many does
abbrev pub first_of_workers : CellSetting → ℕ → Doing
first_of_workers s n = all_of_workers s (count_up 0 n)

-- all outcomes are collected
abbrev pub all_of_outcomes : CellSetting → Doing
all_of_outcomes s passes enough memory play = until_still enough (collect_move (desk_of_setting s) handler_rules) play

-- a pass over connections, workers and outcomes
abbrev pub one_pass : CellSetting → Doing
one_pass s passes enough memory play = pass (desk_of_setting s) handler_rules memory enough s.budget s.workers play

-- passes until one moves nothing
abbrev pub all_passes : CellSetting → Doing
all_passes s passes enough memory play = drain (desk_of_setting s) handler_rules memory passes enough s.budget s.workers play

-- a line is done
abbrev pub one_line : CellSetting → PlanLine → Doing
one_line s line passes enough memory play = line_done (desk_of_setting s) handler_rules memory enough s.budget s.workers play line

-- these lines are done, and the run is drained
abbrev pub all_lines : CellSetting → List PlanLine → Doing
all_lines s lines passes enough memory play = lines_done (desk_of_setting s) handler_rules memory enough s.budget s.workers lines play

-- a connection is opened, where one more may be open
abbrev pub one_opening : CellSetting → Doing
one_opening s passes enough memory play = told_in (desk_of_setting s) handler_rules play (goes (on_conn opens))
