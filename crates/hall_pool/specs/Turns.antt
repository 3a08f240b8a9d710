-- A worker's turns: what each adds to the calls of its seat, and what it answers.
use Rattle.std.specs.Prelude.{◌≡◌, List, [], ◌∷◌, ◌++◌, map}
use Rattle.std.specs.List.{AllByRecursion, flat_map}
use Rattle.call_rules.specs.PlainCalls.{PlainCall, PlainAnswer}
use Rattle.call_rules.specs.Desks.{DeskMeaning, desk_rules}
use Rattle.machine_model.specs.HallRule.{HallOperation, HallAnswer, is_closed}
use Rattle.machine_model.specs.OwnCalls.{HallAsk}
use Rattle.machine_model.specs.Merge.{WorkerTurn, worked, worked_by_call, found_none, stopped, asked, AreTurns, op_with_answer}
use Rattle.hall_core.specs.Asked.{StepCall, ask_seen}
use Rattle.hall_pool.specs.declared.turn.Turn.{Turn}
use Rattle.hall_pool.specs.declared.turn.Turn.TheVariants.{Worked, Empty, Closed, Journal}

-- a turn of the machine's worker, over plain calls and answers
abbrev pub PoolTurn : Type 0
PoolTurn = WorkerTurn PlainCall PlainAnswer

-- a seat's calls, as asks of the machine's hall
abbrev pub asks_made : List StepCall → List (HallAsk PlainCall PlainAnswer)
asks_made own = map ask_seen own

-- what a seat asked in its calls, with the answers
abbrev pub asked_in : List StepCall → List (HallOperation PlainCall × HallAnswer PlainAnswer)
asked_in own = map op_with_answer (asks_made own)

-- what a turn answers: the key of the job that was put; whether there was none, or none and the hall was closed; or that the journal has failed
abbrev pub turn_told : PoolTurn → Turn
turn_told (worked key payload settled) = Worked key
turn_told (worked_by_call key payload call answer settled) = Worked key
turn_told (found_none is_closed) = Closed
turn_told (found_none _) = Empty
turn_told (stopped key payload call answer) = Journal

-- a turn that ends a worker's run
abbrev pub EndsRun : Turn → Type 0
EndsRun Closed = Unit {0}
EndsRun Journal = Unit {0}
EndsRun _ = ⊥

-- and one that doesn't
abbrev pub KeepsRunning : Turn → Type 0
KeepsRunning (Worked key) = Unit {0}
KeepsRunning Empty = Unit {0}
KeepsRunning _ = ⊥

-- A turn: to a seat's calls it has added its own, and nothing else, and it answers so.
pub record AddsTurn (desk : DeskMeaning) (old new : List StepCall) (turn : Turn) : Type 0 where
  pub made : PoolTurn
  pub right : AreTurns (desk_rules desk) (made ∷ [])
  pub calls : asked_in new ≡ asked_in old ++ asked made
  pub told : turn ≡ turn_told made

-- A run: to a seat's calls it has added those of turns, and nothing else. The last is its first one that is Closed or Journal, and it answers so.
pub record AddsRun (desk : DeskMeaning) (old new : List StepCall) (turn : Turn) : Type 0 where
  pub before : List PoolTurn
  pub last : PoolTurn
  pub right : AreTurns (desk_rules desk) (before ++ last ∷ [])
  pub go_on : AllByRecursion (λ (made : PoolTurn). KeepsRunning (turn_told made)) before
  pub calls : asked_in new ≡ asked_in old ++ flat_map asked (before ++ last ∷ [])
  pub told : turn ≡ turn_told last
  pub ends : EndsRun turn

-- All calls of a seat are those of a worker's turns, after which more turns may come.
pub record HasMadeTurns (desk : DeskMeaning) (own : List StepCall) : Type 0 where
  pub turns : List PoolTurn
  pub right : (more : List PoolTurn) → AreTurns (desk_rules desk) more → AreTurns (desk_rules desk) (turns ++ more)
  pub calls : asked_in own ≡ flat_map asked turns
