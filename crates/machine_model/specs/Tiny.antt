-- Small runs of a tiny desk, for examples.
use Rattle.std.specs.Prelude.{◌≡◌, ℕ, zero, suc, false, Option, None, Some, List, [], ◌∷◌, map}
use Rattle.streams.specs.declared.marks.Mark.{Mark}
use Rattle.host_model.specs.declared.cause.EndCause.{EndCause}
use Rattle.host_model.specs.Journal.{JournalEntry}
use Rattle.host_model.specs.TinyDesk.{tiny_desk, counting, size_of_one}
use Rattle.streams.specs.declared.outcomes.Settled.TheVariants.{Nothing}
use Rattle.machine_model.specs.HallState.{key_of, Job, JobOutcome, HallState}
use Rattle.machine_model.specs.HallRule.{job_of, outcome_of}
use Rattle.machine_model.specs.Loop.{LoopConn, Loop, opens, reads, ends, writes}
use Rattle.machine_model.specs.Machine.{Cell, MachineEvent, on_conn, takes, applies, puts}
use Rattle.machine_model.specs.Plain.{goes, run_plain}
use Rattle.machine_model.specs.Merge.{cell_at_first}

-- a newly opened hall, whose service has had five calls before
abbrev pub tiny_hall : HallState ℕ ℕ ℕ
tiny_hall =
    record {
      jobs = [];
      taken = [];
      outcomes = [];
      memories = 5 ∷ [];
      journal = [];
      faults = 0;
      closed = false;
      broken = false;
    }

-- a connection is opened
abbrev pub opens_one : List MachineEvent
opens_one = on_conn opens ∷ []

-- connection c sends the size of a payload of one byte
abbrev pub sends_size : ℕ → List MachineEvent
sends_size c = on_conn (reads c size_of_one) ∷ []

-- connection c sends a payload of this one byte
abbrev pub sends : ℕ → ℕ → List MachineEvent
sends c kind = on_conn (reads c (kind ∷ [])) ∷ []

-- worker w takes a job and puts its outcome without a call
abbrev pub works : ℕ → List MachineEvent
works w = takes w ∷ puts w ∷ []

-- worker w takes a job, applies its call and puts its outcome
abbrev pub calls : ℕ → List MachineEvent
calls w = takes w ∷ applies w ∷ puts w ∷ []

-- connection c gets so many bytes of its reply
abbrev pub gets : ℕ → ℕ → List MachineEvent
gets c count = on_conn (writes c count) ∷ []

-- connection c's input ends
abbrev pub leaves : ℕ → List MachineEvent
leaves c = on_conn (ends c) ∷ []

-- the causes of n connections, from number c on
abbrev pub causes_from : (ℕ → LoopConn) → ℕ → ℕ → List (Option EndCause)
causes_from conns c zero = []
causes_from conns c (suc n) = (conns c).cause ∷ causes_from conns (suc c) n

-- the tape, the journal and the causes of a cell
abbrev pub shown : Option (Cell ℕ ℕ ℕ) → Option (List Mark × List (JournalEntry ℕ ℕ) × List (Option EndCause))
shown None = None
shown (Some cell) = Some (cell.loop.tape, cell.hall.journal, causes_from cell.loop.conns 0 cell.loop.count)

-- events lead from the start to this tape, this journal and these causes
abbrev pub LeadTo : List MachineEvent → List Mark → List (JournalEntry ℕ ℕ) → List (Option EndCause) → Type 0
LeadTo events tape journal causes = shown (run_plain tiny_desk counting (map goes events) (Some (cell_at_first tiny_hall))) ≡ Some (tape, journal, causes)

-- a loop with n connections that are all like this one
abbrev pub loop_like : ℕ → LoopConn → Loop
loop_like n conn = record { tape = []; count = n; conns = λ _. conn }

-- a connection with one payload, of which so much is left to write
abbrev pub with_payload : ℕ → ℕ → List ℕ → LoopConn
with_payload submitted collected left =
    record { payloads = (1 ∷ []) ∷ []; held = []; submitted = submitted; collected = collected; left = left; cause = None }

-- two jobs
abbrev pub two_jobs : List Job
two_jobs = job_of (key_of 0 0) (1 ∷ []) ∷ job_of (key_of 1 0) (1 ∷ []) ∷ []

-- two outcomes without a reply
abbrev pub two_outcomes : List JobOutcome
two_outcomes = outcome_of (key_of 0 0) Nothing ∷ outcome_of (key_of 1 0) Nothing ∷ []
