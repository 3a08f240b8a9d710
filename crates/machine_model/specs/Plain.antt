-- The plain machine: what an event leaves, where it is told how the free answers go. It computes small runs, for examples and tests.
use Rattle.std.specs.Prelude.{ℕ, ◌+◌, ◌^◌, ◌||◌, suc, Bool, true, false, ◌&&◌, not, ◌==◌, nat_lt, nat_le, if◌then◌else◌, Option, None, Some, List, [], ◌∷◌, ◌++◌, length, take, drop, slice_get}
use Rattle.std.specs.Int.{w32, to_be_bytes, from_be_bytes, cast_signed}
use Rattle.streams.specs.declared.outcomes.Settled.{Settled}
use Rattle.streams.specs.declared.outcomes.Settled.TheVariants.{NoMemory as Lack}
use Rattle.streams.specs.declared.marks.Mark.{Mark}
use Rattle.streams.specs.declared.marks.Mark.TheVariants.{Opened, Ended, Wrote, ReadFailed, WriteFailed, Closed}
use Rattle.host_model.specs.declared.key.Key.{Key}
use Rattle.host_model.specs.declared.cause.EndCause.{EndCause}
use Rattle.host_model.specs.declared.cause.EndCause.TheVariants.{ReadFault, WriteFault, NoMemory, Stopped}
use Rattle.host_model.specs.Frames.{frame}
use Rattle.host_model.specs.Journal.{ServiceRules, after_call}
use Rattle.host_model.specs.DeskRules.{DeskRules, DeskDecision, Invoke}
use Rattle.host_model.specs.World.{end_behind}
use Rattle.machine_model.specs.HallState.{key_of, Job, JobOutcome, HallState, without}
use Rattle.machine_model.specs.HallRule.{job_of, outcome_of, entry_under}
use Rattle.machine_model.specs.Loop.{LoopConn, new_conn, Loop, open_among, most_connections, FrameProgress, part, bad_size, whole, read_more, marks_read, with_conn, changed, with_cause, submitted_more, conn_settled, conn_marks_settled, ConnEvent, opens, reads, ends, fails_read, writes, fails_write, gives_up}
use Rattle.machine_model.specs.Worker.{WorkerState, idle, holds, has_answer, has_none, settlement, key_held}
use Rattle.machine_model.specs.Machine.{Cell, with_worker, MachineEvent, on_conn, submits, takes, applies, puts, collects, closes}

-- a value where a test holds
abbrev pub when : {X : Type 0} → Bool → Option X → Option X
when true x = x
when false x = None

-- there are no bytes
abbrev pub is_empty : List ℕ → Bool
is_empty [] = true
is_empty (x ∷ xs) = false

-- two lists of bytes are the same
abbrev pub are_same : List ℕ → List ℕ → Bool
are_same [] [] = true
are_same (x ∷ xs) (y ∷ ys) = (x == y) && are_same xs ys
are_same _ _ = false

-- a connection has no cause
abbrev pub has_none_yet : Option EndCause → Bool
has_none_yet None = true
has_none_yet (Some cause) = false

-- a cause by which a connection is given up from outside
abbrev pub is_given_up : EndCause → Bool
is_given_up NoMemory = true
is_given_up Stopped = true
is_given_up _ = false

-- a connection is open
abbrev pub is_open : Loop → ℕ → Bool
is_open loop c = nat_lt c loop.count && has_none_yet (loop.conns c).cause

-- each payload was collected, and all that was collected is written
abbrev pub owes_nothing : LoopConn → Bool
owes_nothing conn = (conn.collected == length conn.payloads) && is_empty conn.left

-- bytes begin with this size, which a frame has
abbrev pub is_size : ℕ → ℕ → List ℕ → Bool
is_size max size bytes = nat_le 1 size && (nat_le size max && are_same bytes (to_be_bytes w32 size ++ drop 4 bytes))

-- bytes are a whole frame
abbrev pub is_whole : ℕ → List ℕ → Bool
is_whole max bytes = nat_le 1 (length (drop 4 bytes)) && (nat_le (length (drop 4 bytes)) max && are_same bytes (frame (drop 4 bytes)))

-- bytes are just this size, which no frame has
abbrev pub is_bad_size : ℕ → ℕ → List ℕ → Bool
is_bad_size max size bytes = (size == 0 || nat_lt max size) && (nat_lt size (2 ^ 32) && are_same bytes (to_be_bytes w32 size))

-- what bytes make whose first four are this size, where they make anything
abbrev pub progress_behind : ℕ → ℕ → List ℕ → Option FrameProgress
progress_behind max size bytes =
    if is_size max size bytes && nat_lt (length (drop 4 bytes)) size then Some part
    else if is_whole max bytes then Some (whole (drop 4 bytes)) else when (is_bad_size max size bytes) (Some (bad_size (cast_signed w32 size)))

-- what bytes make, where they make anything
abbrev pub progress_by : ℕ → List ℕ → Option FrameProgress
progress_by max bytes = if nat_lt (length bytes) 4 then Some part else progress_behind max (from_be_bytes w32 (take 4 bytes)) bytes

-- while a size is not whole, no bytes behind it are read
abbrev pub stays_in_size : List ℕ → List ℕ → Bool
stays_in_size held bytes = if nat_lt (length held) 4 then nat_le (length held + length bytes) 4 else true

-- a connection after what it does, with the marks, where it can
abbrev pub Moved : Type 0
Moved = Option (LoopConn × List Mark)

-- a connection that has ended by a cause, with its marks
abbrev pub ended_plain : ℕ → LoopConn → Mark → EndCause → Moved
ended_plain c conn mark cause = Some (with_cause conn cause, mark ∷ Closed c ∷ [])

-- a connection that made this progress, with its marks
abbrev pub progress_plain : ℕ → LoopConn → List ℕ → Option FrameProgress → Moved
progress_plain c conn bytes None = None
progress_plain c conn bytes (Some progress) = Some (read_more conn bytes progress, marks_read c bytes progress)

-- a connection reads bytes, where it may
abbrev pub reads_plain : ℕ → ℕ → List ℕ → LoopConn → Moved
reads_plain max c bytes conn =
    when (owes_nothing conn && (not (is_empty bytes) && stays_in_size conn.held bytes)) (progress_plain c conn bytes (progress_by max (conn.held ++ bytes)))

-- its input ends, where it may
abbrev pub ends_plain : ℕ → LoopConn → Moved
ends_plain c conn = when (owes_nothing conn) (ended_plain c conn (Ended c) (end_behind conn.held))

-- a read of it fails, where it may
abbrev pub fails_read_plain : ℕ → LoopConn → Moved
fails_read_plain c conn = when (owes_nothing conn) (ended_plain c conn (ReadFailed c) ReadFault)

-- so many bytes of its reply are written, where they are left
abbrev pub writes_plain : ℕ → ℕ → LoopConn → Moved
writes_plain c count conn =
    when (nat_le 1 count && nat_le count (length conn.left)) (Some (record conn { left = drop count conn.left }, Wrote c (take count conn.left) ∷ []))

-- a write of it fails, where a reply is left
abbrev pub fails_write_plain : ℕ → LoopConn → Moved
fails_write_plain c conn = when (not (is_empty conn.left)) (ended_plain c conn (WriteFailed c) WriteFault)

-- it is given up, where the cause is one from outside
abbrev pub gives_up_plain : ℕ → EndCause → LoopConn → Moved
gives_up_plain c cause conn = when (is_given_up cause) (Some (with_cause conn cause, Closed c ∷ []))

-- the loop then
abbrev pub moved_plain : Loop → ℕ → Moved → Option Loop
moved_plain loop c None = None
moved_plain loop c (Some moved) = Some (changed loop c moved.0 moved.1)

-- one more connection is opened
abbrev pub opened_plain : Loop → Loop
opened_plain loop = record { tape = loop.tape ++ Opened loop.count ∷ []; count = suc loop.count; conns = with_conn loop.conns loop.count new_conn }

-- what happens on a connection
abbrev pub conn_event_plain : ℕ → Loop → ConnEvent → Option Loop
conn_event_plain max loop opens = when (nat_lt (open_among loop.conns loop.count) most_connections) (Some (opened_plain loop))
conn_event_plain max loop (reads c bytes) = when (is_open loop c) (moved_plain loop c (reads_plain max c bytes (loop.conns c)))
conn_event_plain max loop (ends c) = when (is_open loop c) (moved_plain loop c (ends_plain c (loop.conns c)))
conn_event_plain max loop (fails_read c) = when (is_open loop c) (moved_plain loop c (fails_read_plain c (loop.conns c)))
conn_event_plain max loop (writes c count) = when (is_open loop c) (moved_plain loop c (writes_plain c count (loop.conns c)))
conn_event_plain max loop (fails_write c) = when (is_open loop c) (moved_plain loop c (fails_write_plain c (loop.conns c)))
conn_event_plain max loop (gives_up c cause) = when (is_open loop c) (moved_plain loop c (gives_up_plain c cause (loop.conns c)))

-- how an Apply goes: it is answered; memory runs out before its call, or for the copy of its answer; or the journal fails
pub data ApplyResult : Type 0 where
  answers : ApplyResult
  lacks_for_call : ApplyResult
  lacks_for_answer : ApplyResult
  fails_journal : ApplyResult

-- What is told: an event, where memory is ample and the journal doesn't fail; how an Apply goes; or that want of memory is put.
pub data Told : Type 0 where
  goes : (event : MachineEvent) → Told
  applies_so : (w : ℕ) (apply_result : ApplyResult) → Told
  puts_none : (w : ℕ) → Told

-- its event
abbrev pub event_told : Told → MachineEvent
event_told (goes event) = event
event_told (applies_so w apply_result) = applies w
event_told (puts_none w) = puts w

module _ {C A M : Type 0} where
  -- the machine with this loop, where there is one
  abbrev pub with_loop : Cell C A M → Option Loop → Option (Cell C A M)
  with_loop cell None = None
  with_loop cell (Some loop) = Some (record cell { loop = loop })

  -- a payload is submitted, where there is one
  abbrev pub submit_plain : Cell C A M → ℕ → Bool → Option (List ℕ) → Option (Cell C A M)
  submit_plain cell c closed None = None
  submit_plain cell c true (Some payload) = Some cell
  submit_plain cell c false (Some payload) =
      Some (record cell {
        loop = changed cell.loop c (submitted_more (cell.loop.conns c)) [];
        hall = record cell.hall { jobs = cell.hall.jobs ++ job_of (key_of c (cell.loop.conns c).submitted) payload ∷ [] };
      })

  -- a job is taken, where there is one
  abbrev pub take_plain : Cell C A M → ℕ → WorkerState A → List Job → Option (Cell C A M)
  take_plain cell w idle [] = Some (record cell { workers = with_worker cell.workers w idle })
  take_plain cell w idle (job ∷ later) =
      Some (record cell {
        hall = record cell.hall { jobs = later; taken = cell.hall.taken ++ job.key ∷ [] };
        workers = with_worker cell.workers w (holds job.key job.payload);
      })
  take_plain cell w _ jobs = None

  -- the hall once a call has taken effect
  abbrev pub effect_plain : ServiceRules C A M → HallState C A M → Key → C → A → HallState C A M
  effect_plain r hall key call answer =
      record hall { journal = hall.journal ++ entry_under key call answer ∷ []; memories = after_call r hall.memories call }

  -- the hall once the journal has failed at a call
  abbrev pub fault_plain : ServiceRules C A M → HallState C A M → C → HallState C A M
  fault_plain r hall call = record hall { memories = after_call r hall.memories call; faults = hall.faults + 1; broken = true }

  -- an Apply goes so, where the call's service, if it is needed, has this memory
  abbrev pub apply_result_plain : ServiceRules C A M → Cell C A M → ℕ → Key → List ℕ → C → ApplyResult → Option M → Option (Cell C A M)
  apply_result_plain r cell w key payload call answers (Some m) =
      Some (record cell {
        hall = effect_plain r cell.hall key call (r.rule call m).0;
        workers = with_worker cell.workers w (has_answer key payload (r.rule call m).0);
      })
  apply_result_plain r cell w key payload call lacks_for_answer (Some m) =
      Some (record cell { hall = effect_plain r cell.hall key call (r.rule call m).0; workers = with_worker cell.workers w (has_none key payload) })
  apply_result_plain r cell w key payload call answers None = None
  apply_result_plain r cell w key payload call lacks_for_answer None = None
  apply_result_plain r cell w key payload call lacks_for_call m = Some (record cell { workers = with_worker cell.workers w (has_none key payload) })
  apply_result_plain r cell w key payload call fails_journal m =
      Some (record cell { hall = fault_plain r cell.hall call; workers = with_worker cell.workers w (has_none key payload) })

  -- once the journal has failed, an Apply says so
  abbrev pub broken_plain : Cell C A M → ℕ → Key → List ℕ → ApplyResult → Option (Cell C A M)
  broken_plain cell w key payload answers = Some (record cell { workers = with_worker cell.workers w (has_none key payload) })
  broken_plain cell w key payload _ = None

  -- a worker's Apply of its job, by what is decided on the payload
  abbrev pub call_plain : ServiceRules C A M → Cell C A M → ℕ → Key → List ℕ → ApplyResult → DeskDecision C → Option (Cell C A M)
  call_plain r cell w key payload apply_result (Invoke call) =
      if cell.hall.broken then broken_plain cell w key payload apply_result
      else apply_result_plain r cell w key payload call apply_result (slice_get cell.hall.memories (r.slot call))
  call_plain r cell w key payload apply_result _ = None

  -- a worker's Apply, by what it holds
  abbrev pub apply_plain : DeskRules C A → ServiceRules C A M → Cell C A M → ℕ → ApplyResult → WorkerState A → Option (Cell C A M)
  apply_plain d r cell w apply_result (holds key payload) = call_plain r cell w key payload apply_result (d.decide payload)
  apply_plain d r cell w apply_result _ = None

  -- an outcome is put, where the job is settled
  abbrev pub outcome_plain : Cell C A M → ℕ → Key → Option Settled → Option (Cell C A M)
  outcome_plain cell w key None = None
  outcome_plain cell w key (Some settled) =
      Some (record cell {
        hall = record cell.hall { taken = without key cell.hall.taken; outcomes = cell.hall.outcomes ++ outcome_of key settled ∷ [] };
        workers = with_worker cell.workers w idle;
      })

  -- a worker's Put, by what it holds
  abbrev pub put_plain : DeskRules C A → Cell C A M → ℕ → WorkerState A → Option (Cell C A M)
  put_plain d cell w idle = None
  put_plain d cell w (holds key payload) = outcome_plain cell w key (settlement d (holds key payload))
  put_plain d cell w (has_answer key payload answer) = outcome_plain cell w key (settlement d (has_answer key payload answer))
  put_plain d cell w (has_none key payload) = None

  -- at any time, want of memory is put
  abbrev pub lack_plain : Cell C A M → ℕ → Option Key → Option (Cell C A M)
  lack_plain cell w None = None
  lack_plain cell w (Some key) = outcome_plain cell w key (Some Lack)

  -- an outcome is collected, where there is one, and its connection is there
  abbrev pub collect_plain : Cell C A M → List JobOutcome → Option (Cell C A M)
  collect_plain cell [] = Some cell
  collect_plain cell (o ∷ later) =
      when (nat_lt o.key.c cell.loop.count)
      (Some (record cell {
        loop = changed cell.loop o.key.c (conn_settled (cell.loop.conns o.key.c).cause o.settled (cell.loop.conns o.key.c)) (conn_marks_settled (cell.loop.conns o.key.c).cause o.key.c o.settled);
        hall = record cell.hall { outcomes = later };
      }))

  -- the cell after an event, where it can be
  abbrev pub step_plain : DeskRules C A → ServiceRules C A M → Cell C A M → MachineEvent → Option (Cell C A M)
  step_plain d r cell (on_conn conn_event) = with_loop cell (conn_event_plain d.max cell.loop conn_event)
  step_plain d r cell (submits c) =
      when (nat_lt c cell.loop.count) (submit_plain cell c cell.hall.closed (slice_get (cell.loop.conns c).payloads (cell.loop.conns c).submitted))
  step_plain d r cell (takes w) = take_plain cell w (cell.workers w) cell.hall.jobs
  step_plain d r cell (applies w) = apply_plain d r cell w answers (cell.workers w)
  step_plain d r cell (puts w) = put_plain d cell w (cell.workers w)
  step_plain d r cell collects = collect_plain cell cell.hall.outcomes
  step_plain d r cell closes = Some (record cell { hall = record cell.hall { closed = true } })

  -- the cell after what is told, where it can be
  abbrev pub told_plain : DeskRules C A → ServiceRules C A M → Cell C A M → Told → Option (Cell C A M)
  told_plain d r cell (goes event) = step_plain d r cell event
  told_plain d r cell (applies_so w apply_result) = apply_plain d r cell w apply_result (cell.workers w)
  told_plain d r cell (puts_none w) = lack_plain cell w (key_held (cell.workers w))

  -- the cell after all that is told
  abbrev pub run_plain : DeskRules C A → ServiceRules C A M → List Told → Option (Cell C A M) → Option (Cell C A M)
  run_plain d r [] cell = cell
  run_plain d r (told ∷ later) None = None
  run_plain d r (told ∷ later) (Some cell) = run_plain d r later (told_plain d r cell told)
