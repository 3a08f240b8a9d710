-- What a worker's step asks of the hall, and what it makes of what the worker holds.
use Rattle.std.specs.Prelude.{◌≡◌, Bool, true, false, Result, Ok, Err}
use Rattle.call_rules.specs.PlainCalls.{PlainCall, PlainAnswer}
use Rattle.call_rules.specs.Desks.{DeskMeaning, desk_rules}
use Rattle.call_rules.specs.Handling.{handler_rules}
use Rattle.machine_model.specs.HallRule.{HallOperation, take_job, apply, put, HallAnswer, job, journal_fault, outcome}
use Rattle.machine_model.specs.Worker.{WorkerAsks}
use Rattle.machine_model.specs.SeenHall.{SeenGives}
use Rattle.hall_core.specs.Meant.{ServedHall}
use Rattle.cell_core.specs.declared.worker.Holding.{Holding}
use Rattle.cell_core.specs.declared.turn.Stepped.{Stepped}
use Rattle.cell_core.specs.declared.turn.Stepped.TheVariants.{Idle, Moves, Fails}
use Rattle.cell_core.specs.declared.stop.RunStop.{RunStop}
use Rattle.cell_core.specs.declared.stop.RunStop.TheVariants.{JournalFault}
use Rattle.cell_core.specs.HallTied.{plain_worker, KnowsItsCall}
use Rattle.cell_loop.specs.Replies.{IsReplySome}

-- what is asked in a step: for a job, for a call's answer, or that an outcome is put, whose reply has a byte at least
abbrev pub IsAskedInTurn : HallOperation PlainCall → Type 0
IsAskedInTurn take_job = Unit {0}
IsAskedInTurn (apply key call) = Unit {0}
IsAskedInTurn (put key settled) = IsReplySome settled
IsAskedInTurn _ = ⊥

-- what a step has come to, by what it asked and what was answered
abbrev pub stepped_by : HallOperation PlainCall → HallAnswer PlainAnswer → Stepped
stepped_by take_job (job key payload) = Moves
stepped_by take_job _ = Idle
stepped_by (apply key call) journal_fault = Fails
stepped_by _ _ = Moves

-- A worker's step: it asks the hall what a worker may that holds this, and holds what comes of the answer.
pub record IsWorkerTurn (desk : DeskMeaning) (old new : ServedHall) (worker next : Holding) (stepped : Stepped) : Type 0 where
  pub op : HallOperation PlainCall
  pub answer : HallAnswer PlainAnswer
  pub in_turn : IsAskedInTurn op
  pub gives : SeenGives handler_rules old op answer new
  pub asks : WorkerAsks (desk_rules desk) (plain_worker worker) op answer (plain_worker next)
  pub tells : stepped ≡ stepped_by op answer
  pub known : KnowsItsCall desk next

-- what is told of a step: whether it was made, unless the journal has failed in it
abbrev pub AnswersStep : Stepped → Result Bool RunStop → Type 0
AnswersStep Idle result = result ≡ Ok false
AnswersStep Moves result = result ≡ Ok true
AnswersStep Fails result = result ≡ Err JournalFault

-- an answer to a Collect that is no outcome
abbrev pub IsNoOutcome : HallAnswer PlainAnswer → Type 0
IsNoOutcome (outcome key settled) = ⊥
IsNoOutcome _ = Unit {0}
