-- What is kept of the hall and of the workers, tied to a machine in rehearsal.
use Rattle.std.specs.Prelude.{◌≡◌, ℕ, Bool, false, List, slice_index_or}
use Rattle.std.specs.List.{AllByRecursion}
use Rattle.host_model.specs.DeskRules.{DeskDecision, Invoke}
use Rattle.call_rules.specs.PlainCalls.{PlainCall}
use Rattle.call_rules.specs.Desks.{DeskMeaning}
use Rattle.call_rules.specs.Answers.{plain_answer}
use Rattle.machine_model.specs.HallState.{JobOutcome}
use Rattle.machine_model.specs.Determined.{IsSameButFaults}
use Rattle.machine_model.specs.Worker.{idle, holds, has_answer, has_none}
use Rattle.machine_model.specs.SeenHall.{MayHave, filled}
use Rattle.hall_core.specs.Meant.{ServedHall}
use Rattle.cell_core.specs.declared.worker.Holding.{Holding}
use Rattle.cell_core.specs.declared.worker.Holding.TheVariants.{Idle, Holds, Answered, Unanswered}
use Rattle.cell_loop.specs.Settings.{HallInCell, PlainWorker}
use Rattle.cell_loop.specs.Replies.{IsReplySome}

-- what a worker holds
abbrev pub plain_worker : Holding → PlainWorker
plain_worker Idle = idle
plain_worker (Holds job) = holds job.key job.payload
plain_worker (Answered job given) = has_answer job.key job.payload (plain_answer given.answer)
plain_worker (Unanswered job) = has_none job.key job.payload

-- what worker w holds; one that there isn't holds no job
abbrev pub worker_in : List Holding → ℕ → PlainWorker
worker_in workers w = plain_worker (slice_index_or workers w Idle)

-- a call is made, and it is told whether it is silent
abbrev pub TellsIfSilent : Bool → DeskDecision PlainCall → Type 0
TellsIfSilent silent (Invoke call) = call.silent ≡ silent
TellsIfSilent silent _ = ⊥

-- of a call that was answered it is kept whether it is silent
abbrev pub KnowsItsCall : DeskMeaning → Holding → Type 0
KnowsItsCall desk (Answered job given) = TellsIfSilent given.silent (desk.decide job.payload)
KnowsItsCall desk _ = Unit {0}

-- the workers are tied to those of a machine
pub record AreWorkersTied (desk : DeskMeaning) (workers : List Holding) (states : ℕ → PlainWorker) : Type 0 where
  pub each : (w : ℕ) → states w ≡ worker_in workers w
  pub known : AllByRecursion (KnowsItsCall desk) workers

-- The hall is tied to that of a machine, but for the count of faults, which is free: its journal has these entries, where it tells; it is open, and hasn't
-- failed; and each reply that waits has a byte at least.
pub record IsHallTied (seen : ServedHall) (hall : HallInCell) : Type 0 where
  pub told : MayHave seen.told hall.journal
  pub same : IsSameButFaults hall (filled seen hall.journal)
  pub unclosed : seen.closed ≡ false
  pub whole : seen.broken ≡ false
  pub replies : AllByRecursion (λ (o : JobOutcome). IsReplySome o.settled) seen.outcomes
