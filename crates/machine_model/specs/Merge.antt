-- Threads: from one history of the hall, and the loop's own order of what it did, the run of the machine that they make.
use Rattle.std.specs.Prelude.{◌≡◌, ◌≢◌, ℕ, ◌==◌, if◌then◌else◌, List, [], ◌∷◌, ◌++◌, map}
use Rattle.std.specs.List.{flat_map}
use Rattle.streams.specs.declared.outcomes.Settled.{Settled}
use Rattle.host_model.specs.declared.key.Key.{Key}
use Rattle.host_model.specs.Journal.{ServiceRules}
use Rattle.host_model.specs.DeskRules.{DeskRules, Invoke}
use Rattle.call_history.specs.History.{IsHistory}
use Rattle.call_history.specs.Calls.{calls_by, asks_of}
use Rattle.machine_model.specs.HallState.{HallState, IsNew}
use Rattle.machine_model.specs.HallRule.{HallOperation, submit, take_job, apply, put, collect, close, HallAnswer, done, job, empty, is_closed, applied, no_memory, journal_fault, is_broken, HallGives}
use Rattle.machine_model.specs.OwnCalls.{HallCall, HallAsk}
use Rattle.machine_model.specs.Loop.{Loop, ConnEvent, Happens, LoopAsks, new_conn}
use Rattle.machine_model.specs.Worker.{idle, holds, tried, SettlesAs}
use Rattle.machine_model.specs.Machine.{Cell, MachineEvent, on_conn, submits, takes, applies, puts, collects, closes}

-- what the loop did: something on a connection, or a call of the hall
pub data LoopItem (C A : Type 0) : Type 0 where
  handles : (conn_event : ConnEvent) → LoopItem C A
  calls : (ask : HallAsk C A) → LoopItem C A

-- what a worker did in one turn
pub data WorkerTurn (C A : Type 0) : Type 0 where
  -- it took a job and put its outcome, without a call, or after it applied the call
  worked : (key : Key) (payload : List ℕ) (settled : Settled) → WorkerTurn C A
  worked_by_call : (key : Key) (payload : List ℕ) (call : C) (answer : HallAnswer A) (settled : Settled) → WorkerTurn C A
  -- it found no job
  found_none : (answer : HallAnswer A) → WorkerTurn C A
  -- the journal had failed, and it closed the hall
  stopped : (key : Key) (payload : List ℕ) (call : C) (answer : HallAnswer A) → WorkerTurn C A

-- what a turn asks, with the answers
abbrev pub asked : {C A : Type 0} → WorkerTurn C A → List (HallOperation C × HallAnswer A)
asked (worked key payload settled) = (take_job, job key payload) ∷ (put key settled, done) ∷ []
asked (worked_by_call key payload call answer settled) = (take_job, job key payload) ∷ (apply key call, answer) ∷ (put key settled, done) ∷ []
asked (found_none answer) = (take_job, answer) ∷ []
asked (stopped key payload call answer) = (take_job, job key payload) ∷ (apply key call, answer) ∷ (close, done) ∷ []

-- an answer of Apply after which the worker goes on
abbrev pub GoesOnAfter : {A : Type 0} → HallAnswer A → Type 0
GoesOnAfter (applied answer) = Unit {0}
GoesOnAfter no_memory = Unit {0}
GoesOnAfter _ = ⊥

-- an answer of Apply after which the worker stops
abbrev pub StopsAfter : {A : Type 0} → HallAnswer A → Type 0
StopsAfter journal_fault = Unit {0}
StopsAfter is_broken = Unit {0}
StopsAfter _ = ⊥

-- no job was there
abbrev pub FindsNone : {A : Type 0} → HallAnswer A → Type 0
FindsNone empty = Unit {0}
FindsNone is_closed = Unit {0}
FindsNone _ = ⊥

-- A worker's turns: a job's outcome is its own, by its decision or by its call's answer, or want of memory; a turn that stops is the last one.
abbrev pub AreTurns : {C A : Type 0} → DeskRules C A → List (WorkerTurn C A) → Type 0
AreTurns d [] = Unit {0}
AreTurns d (worked key payload settled ∷ turns) = SettlesAs d (holds key payload) key settled × AreTurns d turns
AreTurns d (worked_by_call key payload call answer settled ∷ turns) =
    (d.decide payload ≡ Invoke call) × GoesOnAfter answer × SettlesAs d (tried key payload answer) key settled × AreTurns d turns
AreTurns d (found_none answer ∷ turns) = FindsNone answer × AreTurns d turns
AreTurns d (stopped key payload call answer ∷ turns) = (d.decide payload ≡ Invoke call) × StopsAfter answer × (turns ≡ [])

-- a loop that has done nothing
abbrev pub no_loop : Loop
no_loop = record { tape = []; count = 0; conns = λ _. new_conn }

-- the event that a call is, by its seat
abbrev pub event_by : {C : Type 0} → ℕ → HallOperation C → MachineEvent
event_by seat (submit key payload) = submits key.c
event_by seat take_job = takes seat
event_by seat (apply key call) = applies seat
event_by seat (put key settled) = puts seat
event_by seat collect = collects
event_by seat close = closes

module _ {C A : Type 0} where
  -- what was asked, with the answer
  abbrev pub op_with_answer : HallAsk C A → HallOperation C × HallAnswer A
  op_with_answer e = (e.op, e.reply)

  -- these are the asks of a worker's turns
  abbrev pub OfTurns : DeskRules C A → List (HallAsk C A) → Type 0
  OfTurns d own = (turns : List (WorkerTurn C A)) × AreTurns d turns × (map op_with_answer own ≡ flat_map asked turns)

  -- the calls among items
  abbrev pub calls_in : List (LoopItem C A) → List (HallAsk C A)
  calls_in [] = []
  calls_in (handles conn_event ∷ items) = calls_in items
  calls_in (calls e ∷ items) = e ∷ calls_in items

  -- Each of these items is one that the machine allows the loop after those before it.
  abbrev pub Weaves : ℕ → Loop → List (LoopItem C A) → Loop → Type 0
  Weaves max old [] new = new ≡ old
  Weaves max old (handles conn_event ∷ items) new = (next : Loop) × Happens max old conn_event next × Weaves max next items new
  Weaves max old (calls e ∷ items) new = (next : Loop) × LoopAsks old e.op e.reply next × Weaves max next items new

  -- what items have before their first call
  abbrev pub up_to_call : List (LoopItem C A) → List (LoopItem C A)
  up_to_call [] = []
  up_to_call (handles conn_event ∷ items) = handles conn_event ∷ up_to_call items
  up_to_call (calls e ∷ items) = []

  -- what they have behind it
  abbrev pub behind_call : List (LoopItem C A) → List (LoopItem C A)
  behind_call [] = []
  behind_call (handles conn_event ∷ items) = behind_call items
  behind_call (calls e ∷ items) = items

  -- a history's asks, and after each ask of seat 0 what the loop did up to its next one
  abbrev pub threaded : List (HallAsk C A) → List (LoopItem C A) → List (LoopItem C A)
  threaded [] items = []
  threaded (e ∷ log) items = calls e ∷ (if e.seat == 0 then up_to_call items ++ threaded log (behind_call items) else threaded log items)

  -- the history and the weave as one list: in front stands what the loop did before its first call
  abbrev pub merge : List (HallAsk C A) → List (LoopItem C A) → List (LoopItem C A)
  merge log weave = up_to_call weave ++ threaded log (behind_call weave)

  -- the event that an item is
  abbrev pub event_of : LoopItem C A → MachineEvent
  event_of (handles conn_event) = on_conn conn_event
  event_of (calls e) = event_by e.seat e.op

module _ {C A M : Type 0} where
  -- One history of a newly opened hall, and a weave that leads the loop from nothing to this: the asks of seat 0 are those of the weave, and each other
  -- seat's asks are those of a worker's turns.
  pub record IsOneHistory (d : DeskRules C A) (r : ServiceRules C A M) (memories : List M) (opening : HallState C A M) (log : List (HallCall C A M)) (weave : List (LoopItem C A))
      (loop : Loop) : Type 0 where
    pub opened : IsNew memories opening
    pub history : IsHistory (HallGives r) opening log
    pub same : calls_by 0 (asks_of log) ≡ calls_in weave
    pub woven : Weaves d.max no_loop weave loop
    pub turns : (seat : ℕ) → seat ≢ 0 → OfTurns d (calls_by seat (asks_of log))

  -- the machine before it has done anything
  abbrev pub cell_at_first : HallState C A M → Cell C A M
  cell_at_first opening = record { loop = no_loop; hall = opening; workers = λ _. idle }
