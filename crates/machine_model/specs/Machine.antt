-- The machine: the whole host without threads, one event after another.
use Rattle.std.specs.Prelude.{◌≡◌, ℕ, ◌<◌, ◌==◌, if◌then◌else◌, List, [], ◌∷◌, length, slice_get}
use Rattle.streams.specs.declared.outcomes.Settled.{Settled}
use Rattle.host_model.specs.declared.key.Key.{Key}
use Rattle.host_model.specs.declared.cause.EndCause.{EndCause}
use Rattle.host_model.specs.Journal.{ServiceRules}
use Rattle.host_model.specs.DeskRules.{DeskRules}
use Rattle.machine_model.specs.HallState.{key_of, HallState, IsNew}
use Rattle.machine_model.specs.HallRule.{HallOperation, submit, take_job, apply, put, collect, close, HallAnswer, HallGives}
use Rattle.machine_model.specs.Loop.{Loop, ConnEvent, Happens, LoopAsks}
use Rattle.machine_model.specs.Worker.{WorkerState, idle, WorkerAsks}

-- the loop's part, the hall, and what each worker, by its number, holds
pub record Cell (C A M : Type 0) : Type 0 where
  pub loop : Loop
  pub hall : HallState C A M
  pub workers : ℕ → WorkerState A

-- the workers with this one in place of w
abbrev pub with_worker : {A : Type 0} → (ℕ → WorkerState A) → ℕ → WorkerState A → ℕ → WorkerState A
with_worker workers w worker x = if x == w then worker else workers x

-- An event: something on a connection, one of the hall's five operations that serve a payload, or, between two events, the hall is closed.
pub data MachineEvent : Type 0 where
  on_conn : (conn_event : ConnEvent) → MachineEvent
  submits : (c : ℕ) → MachineEvent
  takes : (w : ℕ) → MachineEvent
  applies : (w : ℕ) → MachineEvent
  puts : (w : ℕ) → MachineEvent
  collects : MachineEvent
  closes : MachineEvent

module _ {C A M : Type 0} (d : DeskRules C A) (r : ServiceRules C A M) where
  -- the loop asks the hall
  abbrev pub ByLoop : Cell C A M → HallOperation C → Cell C A M → Type 0
  ByLoop old op new =
      (answer : HallAnswer A) × (loop : Loop) × (hall : HallState C A M) × LoopAsks old.loop op answer loop × HallGives r old.hall op answer hall
      × (new ≡ record old { loop = loop; hall = hall })

  -- worker w asks the hall
  abbrev pub ByWorker : Cell C A M → ℕ → HallOperation C → Cell C A M → Type 0
  ByWorker old w op new =
      (answer : HallAnswer A) × (worker : WorkerState A) × (hall : HallState C A M) × WorkerAsks d (old.workers w) op answer worker × HallGives r old.hall op answer hall
      × (new ≡ record old { hall = hall; workers = with_worker old.workers w worker })

  -- The machine's step: from old to new by an event.
  abbrev pub Steps : Cell C A M → MachineEvent → Cell C A M → Type 0
  Steps old (on_conn conn_event) new = (loop : Loop) × Happens d.max old.loop conn_event loop × (new ≡ record old { loop = loop })
  Steps old (submits c) new = (i : ℕ) × (payload : List ℕ) × ByLoop old (submit (key_of c i) payload) new
  Steps old (takes w) new = ByWorker old w take_job new
  Steps old (applies w) new = (key : Key) × (call : C) × ByWorker old w (apply key call) new
  Steps old (puts w) new = (key : Key) × (settled : Settled) × ByWorker old w (put key settled) new
  Steps old collects new = ByLoop old collect new
  Steps old closes new = ByLoop old close new

  -- These events, one after another, lead from old to new.
  abbrev pub EventsLead : Cell C A M → List MachineEvent → Cell C A M → Type 0
  EventsLead old [] new = new ≡ old
  EventsLead old (event ∷ events) new = (next : Cell C A M) × Steps old event next × EventsLead next events new

-- the start: no connection, an empty tape, a newly opened hall with an empty journal, and workers that hold no job
pub record IsFirst {C A M : Type 0} (memories : List M) (cell : Cell C A M) : Type 0 where
  pub tape : cell.loop.tape ≡ []
  pub count : cell.loop.count ≡ 0
  pub hall : IsNew memories cell.hall
  pub workers : (w : ℕ) → cell.workers w ≡ idle

-- each connection that was opened has ended, by the cause at its number
pub record HaveAllEnded (loop : Loop) (causes : List EndCause) : Type 0 where
  pub count : length causes ≡ loop.count
  pub each : (c : ℕ) → c < loop.count → (loop.conns c).cause ≡ slice_get causes c
