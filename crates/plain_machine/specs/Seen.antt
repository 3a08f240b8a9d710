-- What the plain program holds, as the definitions see it.
use Rattle.std.specs.Prelude.{ℕ, List, map, length, slice_index_or}
use Rattle.plain_machine.specs.declared.progress.PlainProgress.{PlainProgress}
use Rattle.plain_machine.specs.declared.progress.PlainProgress.TheVariants.{Part, BadSize, Whole}
use Rattle.plain_machine.specs.declared.conns.PlainConn.{PlainConn}
use Rattle.plain_machine.specs.declared.conn_events.PlainLoop.{PlainLoop}
use Rattle.plain_machine.specs.declared.conn_events.PlainConnEvent.{PlainConnEvent}
use Rattle.plain_machine.specs.declared.conn_events.PlainConnEvent.TheVariants.{Opens, Reads, Ends, FailsRead, Writes, FailsWrite, GivesUp}
use Rattle.plain_machine.specs.declared.halls.PlainJob.{PlainJob}
use Rattle.plain_machine.specs.declared.halls.PlainJobOutcome.{PlainJobOutcome}
use Rattle.plain_machine.specs.declared.halls.PlainHall.{PlainHall}
use Rattle.plain_machine.specs.declared.workers.PlainWorkerState.{PlainWorkerState}
use Rattle.plain_machine.specs.declared.workers.PlainWorkerState.TheVariants.{Idle, Holds, HasAnswer, HasNone}
use Rattle.plain_machine.specs.declared.cells.PlainCell.{PlainCell}
use Rattle.plain_machine.specs.declared.cells.PlainApplyResult.{PlainApplyResult}
use Rattle.plain_machine.specs.declared.cells.PlainApplyResult.TheVariants.{Answers, LacksForCall, LacksForAnswer, FailsJournal}
use Rattle.plain_machine.specs.declared.cells.PlainEvent.{PlainEvent}
use Rattle.plain_machine.specs.declared.cells.PlainEvent.TheVariants.{Happens, Submits, Takes, Applies, Puts, PutsNone, Collects, Closes}
use Rattle.machine_model.specs.Machine.{Cell, on_conn, submits, takes, puts, collects, closes}
use Rattle.machine_model.specs.Plain.{ApplyResult, answers, lacks_for_call, lacks_for_answer, fails_journal, Told, goes, applies_so, puts_none}
use Rattle.plain_machine.specs.SeenDesk.{journal_seen}
use Rattle.machine_model.specs.HallState.{Job, JobOutcome, HallState}
use Rattle.machine_model.specs.HallRule.{job_of, outcome_of}
use Rattle.machine_model.specs.Worker.{WorkerState, idle, holds, has_answer, has_none}
use Rattle.machine_model.specs.Loop.{LoopConn, new_conn, Loop, FrameProgress, part, bad_size, whole, ConnEvent, opens, reads, ends, fails_read, writes, fails_write, gives_up}

-- what bytes make
abbrev pub seen_progress : PlainProgress → FrameProgress
seen_progress Part = part
seen_progress (BadSize size) = bad_size size
seen_progress (Whole payload) = whole payload.items

-- a connection
abbrev pub conn_of : PlainConn → LoopConn
conn_of p =
    record {
      payloads = map (λ v. v.items) p.payloads.items;
      held = p.held.items;
      submitted = p.submitted;
      collected = p.collected;
      left = p.left.items;
      cause = p.cause;
    }

-- the connections, each at its number
abbrev pub conns_of : List PlainConn → ℕ → LoopConn
conns_of xs c = slice_index_or (map conn_of xs) c new_conn

-- the loop's part
abbrev pub loop_of : PlainLoop → Loop
loop_of l = record { tape = l.tape.items; count = length l.conns.items; conns = conns_of l.conns.items }

-- what happens on a connection
abbrev pub conn_event_of : PlainConnEvent → ConnEvent
conn_event_of Opens = opens
conn_event_of (Reads c bytes) = reads c bytes
conn_event_of (Ends c) = ends c
conn_event_of (FailsRead c) = fails_read c
conn_event_of (Writes c count) = writes c count
conn_event_of (FailsWrite c) = fails_write c
conn_event_of (GivesUp c cause) = gives_up c cause

-- a job
abbrev pub job_seen : PlainJob → Job
job_seen j = job_of j.key j.payload.items

-- a job's outcome
abbrev pub outcome_seen : PlainJobOutcome → JobOutcome
outcome_seen o = outcome_of o.key o.settled

-- a hall
abbrev pub hall_of : {C A M : Type 0} → PlainHall C A M → HallState C A M
hall_of h =
    record {
      jobs = map job_seen h.jobs.items;
      taken = h.taken.items;
      outcomes = map outcome_seen h.outcomes.items;
      memories = h.memories.items;
      journal = journal_seen h.journal.items;
      faults = h.faults;
      closed = h.closed;
      broken = h.broken;
    }

-- what workers hold, each by its number
abbrev pub worker_of : {A : Type 0} → PlainWorkerState A → WorkerState A
worker_of Idle = idle
worker_of (Holds key payload) = holds key payload.items
worker_of (HasAnswer key payload answer) = has_answer key payload.items answer
worker_of (HasNone key payload) = has_none key payload.items

-- the workers, each by its number
abbrev pub workers_of : {A : Type 0} → List (PlainWorkerState A) → ℕ → WorkerState A
workers_of workers w = slice_index_or (map worker_of workers) w idle

-- the machine
abbrev pub cell_of : {C A M : Type 0} → PlainCell C A M → Cell C A M
cell_of c = record { loop = loop_of c.loop_part; hall = hall_of c.hall; workers = workers_of c.workers.items }

-- what it is told
abbrev pub apply_result_of : PlainApplyResult → ApplyResult
apply_result_of Answers = answers
apply_result_of LacksForCall = lacks_for_call
apply_result_of LacksForAnswer = lacks_for_answer
apply_result_of FailsJournal = fails_journal

-- an event, with what is told of the free answers
abbrev pub told_of : PlainEvent → Told
told_of (Happens conn_event) = goes (on_conn (conn_event_of conn_event))
told_of (Submits c) = goes (submits c)
told_of (Takes w) = goes (takes w)
told_of (Applies w apply_result) = applies_so w (apply_result_of apply_result)
told_of (Puts w) = goes (puts w)
told_of (PutsNone w) = puts_none w
told_of Collects = goes collects
told_of Closes = goes closes
