-- What a worker asks of a hall, and what it is answered.
use Rattle.std.specs.Prelude.{◌≡◌, ℕ, ◌<◌, ◌≤◌, List, [], ◌∷◌, ◌++◌, length}
use Rattle.streams.specs.declared.outcomes.Settled.{Settled}
use Rattle.host_model.specs.declared.key.Key.{Key}
use Rattle.call_rules.specs.Answers.{plain_answer}
use Rattle.call_rules.specs.PlainCalls.{PlainCall, PlainAnswer, IsPlainCall}
use Rattle.machine_model.specs.HallRule.{HallOperation, take_job, apply, HallAnswer, job, empty, is_closed, applied, no_memory}
use Rattle.machine_model.specs.OwnCalls.{longest_payload}
use Rattle.machine_model.specs.Merge.{StopsAfter}
use Rattle.job_halls.specs.declared.job_hall.TakenJob.{TakenJob}
use Rattle.job_halls.specs.declared.job_hall.TakenJob.TheVariants.{Found, Empty, Closed}
use Rattle.job_halls.specs.declared.job_hall.AppliedCall.{AppliedCall}
use Rattle.job_halls.specs.declared.job_hall.AppliedCall.TheVariants.{Answered, Unanswered, Failed}

-- what was asked, with the answer
abbrev pub WorkerAsk : Type 0
WorkerAsk = HallOperation PlainCall × HallAnswer PlainAnswer

-- one ask more
abbrev pub AddsWorkerAsk : List WorkerAsk → List WorkerAsk → HallOperation PlainCall → HallAnswer PlainAnswer → Type 0
AddsWorkerAsk old new op answer = new ≡ old ++ (op, answer) ∷ []

-- a job was asked for, and this has come of it
abbrev pub TakesJob : List WorkerAsk → List WorkerAsk → TakenJob → Type 0
TakesJob old new (Found j) = AddsWorkerAsk old new take_job (job j.key j.payload)
TakesJob old new Empty = AddsWorkerAsk old new take_job empty
TakesJob old new Closed = AddsWorkerAsk old new take_job is_closed

-- a call was applied under this key, and this has come of it
abbrev pub AppliesCall : List WorkerAsk → List WorkerAsk → Key → PlainCall → AppliedCall → Type 0
AppliesCall old new key call (Answered answer) = AddsWorkerAsk old new (apply key call) (applied (plain_answer answer))
AppliesCall old new key call Unanswered = AddsWorkerAsk old new (apply key call) no_memory
AppliesCall old new key call Failed = (answer : HallAnswer PlainAnswer) × AddsWorkerAsk old new (apply key call) answer × StopsAfter answer

module _ {Q : Type 0} (may : Q → Type 0) (the_apply : Key → PlainCall → Q) (the_put : Key → Settled → Q) (slots : ℕ) where
  -- A seat that has taken this job, and done nothing for it, by the operations that it may ask for next: the payload isn't too long; a call may be applied under
  -- its key whose service there is; and what the job comes to may be put.
  pub record HoldsItsJob (key : Key) (payload : List ℕ) : Type 0 where
    pub short : length payload ≤ longest_payload
    pub may_apply : (call : PlainCall) → call.slot < slots → IsPlainCall call → may (the_apply key call)
    pub may_put : (settled : Settled) → may (the_put key settled)

  -- the job that was found, if any, is held
  abbrev pub HoldsFound : TakenJob → Type 0
  HoldsFound (Found j) = HoldsItsJob j.key j.payload
  HoldsFound _ = Unit {0}
