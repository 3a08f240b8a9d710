-- The rehearsal of a script: a machine that is moved by its lines, one move after another.
use Rattle.std.specs.Prelude.{ℕ, suc, ◌+◌, ◌-◌, Bool, true, false, min, not, nat_lt, nat_le, ◌==◌, if◌then◌else◌, Option, None, Some, List, [], ◌∷◌, length, take, drop, option_map}
use Rattle.host_model.specs.declared.cause.EndCause.{EndCause}
use Rattle.host_model.specs.declared.cause.EndCause.TheVariants.{NoMemory}
use Rattle.host_model.specs.Journal.{ServiceRules}
use Rattle.host_model.specs.DeskRules.{DeskRules, DeskDecision, Invoke}
use Rattle.machine_model.specs.HallState.{Job, JobOutcome}
use Rattle.machine_model.specs.Loop.{LoopConn, ConnEvent, reads, ends, fails_read, writes, fails_write, gives_up}
use Rattle.machine_model.specs.Worker.{WorkerState, idle, holds, has_answer, has_none}
use Rattle.machine_model.specs.Machine.{Cell, MachineEvent, on_conn, submits, takes, applies, puts, collects}
use Rattle.machine_model.specs.Plain.{is_empty, is_open, lacks_for_call, lacks_for_answer, Told, goes, applies_so, puts_none, told_plain}
use Rattle.machine_model.specs.AtFronts.{size_in, summed}
use Rattle.script_model.specs.ScriptLines.{PlanRule, takes_most, blocks, fails}
pub use Rattle.limits.specs.Limits.{most_read}

-- what comes after all pieces of a connection: its input ends, or a read fails
pub data InputFinish : Type 0 where
  finishes : InputFinish
  faults : InputFinish

-- How memory is at a move: ample, or it runs out: for a frame that is admitted, a decision or a reply; for the call of an Apply; or for the copy of its answer.
pub data MemoryAt : Type 0 where
  ample : MemoryAt
  lacking : MemoryAt
  lacking_for_call : MemoryAt
  lacking_for_answer : MemoryAt

-- memory is ample
abbrev pub is_ample : MemoryAt → Bool
is_ample ample = true
is_ample _ = false

-- memory is ample at each move
abbrev pub always_ample : ℕ → MemoryAt
always_ample move = ample

-- A machine in rehearsal: per connection the pieces that have arrived and aren't read, what comes after them, the rules that are left, and the size that is
-- admitted; how many moves were made; and at how many of them memory ran out.
pub record Play (C A M : Type 0) : Type 0 where
  pub cell : Cell C A M
  pub unread : ℕ → List (List ℕ)
  pub finish : ℕ → Option InputFinish
  pub rules : ℕ → List PlanRule
  pub admitted : ℕ → Option ℕ
  pub moves : ℕ
  pub wants : ℕ

-- the first, where there is one, or else the second
abbrev pub or_else : {X : Type 0} → Option X → Option X → Option X
or_else None other = other
or_else (Some x) other = Some x

-- a function with this value at one number
abbrev pub at_number : {X : Type 0} → (ℕ → X) → ℕ → X → ℕ → X
at_number f c v x = if x == c then v else f x

-- an admitted size, or 0
abbrev pub size_or_zero : Option ℕ → ℕ
size_or_zero None = 0
size_or_zero (Some size) = size

-- a size that is kept while its connection has no cause
abbrev pub kept_while_open : Option EndCause → Option ℕ → Option ℕ
kept_while_open None size = size
kept_while_open (Some cause) size = None

-- the pieces in place of one of which this is left
abbrev pub pieces_left : List ℕ → List (List ℕ) → List (List ℕ)
pieces_left [] pieces = pieces
pieces_left (byte ∷ bytes) pieces = (byte ∷ bytes) ∷ pieces

module _ {C A M : Type 0} where
  -- one more move, which the machine doesn't see
  abbrev pub moved_on : Play C A M → Play C A M
  moved_on play = record play { moves = suc play.moves }

  -- the admitted sizes, summed
  abbrev pub all_admitted : Play C A M → ℕ
  all_admitted play = summed (λ c. size_or_zero (play.admitted c)) play.cell.loop.count

  -- the size of a connection goes back
  abbrev pub freed : ℕ → Play C A M → Play C A M
  freed c play = record play { admitted = at_number play.admitted c None }

  -- it goes back where the connection has ended
  abbrev pub freed_if_over : ℕ → Play C A M → Play C A M
  freed_if_over c play = record play { admitted = at_number play.admitted c (kept_while_open (play.cell.loop.conns c).cause (play.admitted c)) }

  -- these rules are left to a connection
  abbrev pub with_rules : ℕ → List PlanRule → Play C A M → Play C A M
  with_rules c rules play = record play { rules = at_number play.rules c rules }

  -- these pieces are left to it
  abbrev pub with_unread : ℕ → List (List ℕ) → Play C A M → Play C A M
  with_unread c pieces play = record play { unread = at_number play.unread c pieces }

module _ {C A M : Type 0} (d : DeskRules C A) (r : ServiceRules C A M) where
  -- the machine does what it is told, where it can
  abbrev pub told_in : Play C A M → Told → Option (Play C A M)
  told_in play told = option_map (λ cell. record play { cell = cell; moves = suc play.moves }) (told_plain d r play.cell told)

  -- the machine does what it is told where memory has run out, where it can
  abbrev pub told_wanting : Play C A M → Told → Option (Play C A M)
  told_wanting play told = option_map (λ cell. record play { cell = cell; moves = suc play.moves; wants = suc play.wants }) (told_plain d r play.cell told)

  -- a move, by how memory is: where it has run out, what is told then, if that can be done, and else what is done with it
  abbrev pub by_memory : MemoryAt → Play C A M → Told → Option (Play C A M) → Option (Play C A M)
  by_memory memory play told with_it = if is_ample memory then with_it else or_else (told_wanting play told) with_it

  -- something happens on connection c
  abbrev pub on_one : Play C A M → ℕ → ConnEvent → Option (Play C A M)
  on_one play c conn_event = option_map (freed_if_over c) (told_in play (goes (on_conn conn_event)))

  -- a read after all pieces
  abbrev pub read_behind : Play C A M → ℕ → Option InputFinish → Option (Play C A M)
  read_behind play c None = None
  read_behind play c (Some finishes) = on_one play c (ends c)
  read_behind play c (Some faults) = on_one play c (fails_read c)

  -- one read, where so many bytes are missing: of the oldest piece alone
  abbrev pub read_move : Play C A M → ℕ → ℕ → List (List ℕ) → Option (Play C A M)
  read_move play c missing [] = read_behind play c (play.finish c)
  read_move play c missing (bytes ∷ pieces) =
      let n : ℕ = min (min missing most_read) (length bytes) in option_map (with_unread c (pieces_left (drop n bytes) pieces)) (on_one play c (reads c (take n bytes)))

  -- one write, by the next rule
  abbrev pub write_move : Play C A M → ℕ → List ℕ → List PlanRule → Option (Play C A M)
  write_move play c left [] = on_one play c (writes c (length left))
  write_move play c left (takes_most count ∷ rules) = option_map (with_rules c rules) (on_one play c (writes c (min count (length left))))
  write_move play c left (blocks ∷ rules) = Some (moved_on (with_rules c rules play))
  write_move play c left (fails ∷ rules) = option_map (with_rules c rules) (on_one play c (fails_write c))

  -- the event of a worker that holds a job, by the decision on it
  abbrev pub event_on : ℕ → DeskDecision C → MachineEvent
  event_on w (Invoke call) = applies w
  event_on w _ = puts w

  -- what a worker that holds a job does where memory has run out, by the decision: for the call, or for the copy of its answer; or want of memory is put
  abbrev pub told_without : ℕ → MemoryAt → DeskDecision C → Told
  told_without w lacking_for_call (Invoke call) = applies_so w lacks_for_call
  told_without w lacking_for_answer (Invoke call) = applies_so w lacks_for_answer
  told_without w _ decision = puts_none w

  -- the oldest outcome is collected, and its connection's size goes back
  abbrev pub collect_first : Play C A M → List JobOutcome → Option (Play C A M)
  collect_first play [] = None
  collect_first play (outcome ∷ outcomes) = option_map (freed outcome.key.c) (told_in play (goes collects))

  abbrev pub collect_move : Play C A M → Option (Play C A M)
  collect_move play = collect_first play play.cell.hall.outcomes

module _ {C A M : Type 0} (d : DeskRules C A) (r : ServiceRules C A M) (memory : ℕ → MemoryAt) where
  -- a frame of this size is admitted; without memory for it the connection is given up
  abbrev pub admission : Play C A M → ℕ → ℕ → Option (Play C A M)
  admission play c size =
      by_memory d r (memory play.moves) play (goes (on_conn (gives_up c NoMemory))) (Some (moved_on (record play { admitted = at_number play.admitted c (Some size) })))

  -- an admission, where the budget has room for the size; or, after it, a read of the payload
  abbrev pub size_move : ℕ → Play C A M → ℕ → List ℕ → Option ℕ → Option (Play C A M)
  size_move budget play c held (Some size) = read_move d r play c ((4 + size) - length held) (play.unread c)
  size_move budget play c held None = if nat_le (all_admitted play + size_in held) budget then admission play c (size_in held) else None

  -- the move of a connection that is open: a write, a submit, or what it needs to read on
  abbrev pub open_move : ℕ → Play C A M → ℕ → LoopConn → Option (Play C A M)
  open_move budget play c conn =
      if not (is_empty conn.left) then write_move d r play c conn.left (play.rules c)
      else if nat_lt conn.submitted (length conn.payloads) then told_in d r play (goes (submits c))
      else if nat_lt conn.collected conn.submitted then None
      else if nat_lt (length conn.held) 4 then read_move d r play c (4 - length conn.held) (play.unread c) else size_move budget play c conn.held (play.admitted c)

  -- the move of a connection
  abbrev pub conn_move : ℕ → ℕ → Play C A M → Option (Play C A M)
  conn_move budget c play = if is_open play.cell.loop c then open_move budget play c (play.cell.loop.conns c) else None

  -- the move of a worker, by what it holds: it takes a job where there is one, applies its call, or puts its outcome
  abbrev pub step_of_worker : Play C A M → ℕ → WorkerState A → List Job → Option (Play C A M)
  step_of_worker play w idle [] = None
  step_of_worker play w idle (job ∷ jobs) = told_in d r play (goes (takes w))
  step_of_worker play w (holds key payload) jobs =
      by_memory d r (memory play.moves) play (told_without d r w (memory play.moves) (d.decide payload)) (told_in d r play (goes (event_on d r w (d.decide payload))))
  step_of_worker play w (has_answer key payload answer) jobs = by_memory d r (memory play.moves) play (puts_none w) (told_in d r play (goes (puts w)))
  step_of_worker play w (has_none key payload) jobs = told_in d r play (puts_none w)

  abbrev pub worker_move : ℕ → Play C A M → Option (Play C A M)
  worker_move w play = step_of_worker play w (play.cell.workers w) play.cell.hall.jobs
