-- A worker's part of the machine: the job that it holds, what its job comes to, and what it asks of the hall.
use Rattle.std.specs.Prelude.{◌≡◌, ℕ, ◌⊎◌, if◌then◌else◌, Option, None, Some, List}
use Rattle.streams.specs.declared.outcomes.Settled.{Settled}
use Rattle.streams.specs.declared.outcomes.Settled.TheVariants.{Reply as Replied, Nothing, Close as Closed, NoMemory}
use Rattle.host_model.specs.declared.key.Key.{Key}
use Rattle.host_model.specs.DeskRules.{DeskRules, DeskDecision, Close, Silent, Reply, Invoke}
use Rattle.machine_model.specs.HallRule.{HallOperation, take_job, apply, put, close, HallAnswer, job, applied}

-- what a worker holds: no job; a job; a job whose call was applied and answered; or a job whose call was applied and had no answer
pub data WorkerState (A : Type 0) : Type 0 where
  idle : WorkerState A
  holds : (key : Key) (payload : List ℕ) → WorkerState A
  has_answer : (key : Key) (payload : List ℕ) (answer : A) → WorkerState A
  has_none : (key : Key) (payload : List ℕ) → WorkerState A

-- the worker after a Take that was answered so
abbrev pub took : {A : Type 0} → HallAnswer A → WorkerState A
took (job key payload) = holds key payload
took _ = idle

-- the worker after an Apply that was answered so
abbrev pub tried : {A : Type 0} → Key → List ℕ → HallAnswer A → WorkerState A
tried key payload (applied answer) = has_answer key payload answer
tried key payload _ = has_none key payload

-- what a payload comes to without a call, by its decision
abbrev pub settled_by : {C : Type 0} → DeskDecision C → Option Settled
settled_by (Close fault) = Some (Closed fault)
settled_by Silent = Some Nothing
settled_by (Reply reply) = Some (Replied reply)
settled_by (Invoke call) = None

-- and what it comes to by its call's answer
abbrev pub settled_with : {C A : Type 0} → DeskRules C A → List ℕ → A → DeskDecision C → Option Settled
settled_with d payload answer (Invoke call) = if d.silent call then Some Nothing else Some (Replied (d.reply payload answer))
settled_with d payload answer _ = None

-- what a job comes to, as far as it is settled
abbrev pub settlement : {C A : Type 0} → DeskRules C A → WorkerState A → Option Settled
settlement d idle = None
settlement d (holds key payload) = settled_by (d.decide payload)
settlement d (has_answer key payload answer) = settled_with d payload answer (d.decide payload)
settlement d (has_none key payload) = None

-- the key of the job that a worker holds
abbrev pub key_held : {A : Type 0} → WorkerState A → Option Key
key_held idle = None
key_held (holds key payload) = Some key
key_held (has_answer key payload answer) = Some key
key_held (has_none key payload) = Some key

-- A job is settled with what it comes to, or, at any time, with want of memory.
abbrev pub SettlesAs : {C A : Type 0} → DeskRules C A → WorkerState A → Key → Settled → Type 0
SettlesAs d worker key settled = (key_held worker ≡ Some key) × ((settlement d worker ≡ Some settled) ⊎ (settled ≡ NoMemory))

-- The worker's part of what it asks of the hall: it takes a job where it holds none; it applies the call that its payload makes, once; it puts its job's
-- outcome under its job's key; or it closes the hall.
abbrev pub WorkerAsks : {C A : Type 0} → DeskRules C A → WorkerState A → HallOperation C → HallAnswer A → WorkerState A → Type 0
WorkerAsks d old take_job answer new = (old ≡ idle) × (new ≡ took answer)
WorkerAsks d old (apply key call) answer new =
    (payload : List ℕ) × (old ≡ holds key payload) × (d.decide payload ≡ Invoke call) × (new ≡ tried key payload answer)
WorkerAsks d old (put key settled) answer new = SettlesAs d old key settled × (new ≡ idle)
WorkerAsks d old close answer new = new ≡ old
WorkerAsks d old _ answer new = ⊥
