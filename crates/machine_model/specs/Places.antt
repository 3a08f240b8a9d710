-- What holds of every cell that a run reaches: the last payload of each connection is at exactly one place.
use Rattle.std.specs.Prelude.{◌≡◌, ℕ, suc, ◌<◌, ◌≤◌, ◌⊎◌, false, ◌==◌, Option, None, Some, List, [], ◌∷◌, ◌++◌, length, filter}
use Rattle.streams.specs.declared.outcomes.Settled.{Settled}
use Rattle.streams.specs.declared.outcomes.Settled.TheVariants.{NoMemory}
use Rattle.host_model.specs.declared.key.Key.{Key}
use Rattle.host_model.specs.declared.cause.EndCause.{EndCause}
use Rattle.host_model.specs.Frames.{Frames}
use Rattle.host_model.specs.Marks.{marks_of, input, output}
use Rattle.host_model.specs.Journal.{JournalEntry, ServiceRules, Legal, after, entries_of}
use Rattle.host_model.specs.DeskRules.{DeskRules, Invoke}
use Rattle.host_model.specs.Conversation.{IsLast, Done, Turns, sent, answer_at}
use Rattle.host_model.specs.OrderBetween.{InOrder}
use Rattle.machine_model.specs.HallState.{key_of, Job, JobOutcome}
use Rattle.machine_model.specs.HallRule.{job_of, outcome_of}
use Rattle.machine_model.specs.Loop.{LoopConn}
use Rattle.machine_model.specs.Worker.{WorkerState, idle, holds, has_answer, has_none, settled_by, settled_with, key_held}
use Rattle.machine_model.specs.Machine.{Cell}

-- where the last payload of a connection is
pub data PayloadPlace : Type 0 where
  -- it is collected, and its reply is in writing or done; or there is none
  collected_all : PayloadPlace
  -- it isn't submitted
  ready : PayloadPlace
  -- it is among the jobs
  queued : PayloadPlace
  -- worker w holds it
  held_by : (w : ℕ) → PayloadPlace
  -- its outcome is put
  put_out : (settled : Settled) → PayloadPlace

-- the jobs of one connection
abbrev pub jobs_of : ℕ → List Job → List Job
jobs_of c jobs = filter (λ j. j.key.c == c) jobs

-- the outcomes of one connection
abbrev pub outcomes_of : ℕ → List JobOutcome → List JobOutcome
outcomes_of c outcomes = filter (λ o. o.key.c == c) outcomes

-- What isn't collected of a connection: payload p, the last one, behind those before it; nothing was read behind it, and nothing is left to write.
pub record IsUncollected (conn : LoopConn) (before : List (List ℕ)) (p : List ℕ) : Type 0 where
  pub last : IsLast conn.payloads before p
  pub none_held : conn.held ≡ []
  pub none_left : conn.left ≡ []
  pub collected : conn.collected ≡ length before

module _ {C A : Type 0} (d : DeskRules C A) where
  -- the call of payload p stands in the journal with this answer
  abbrev pub IsEntered : List (JournalEntry C A) → List (List ℕ) → List ℕ → A → Type 0
  IsEntered es before p answer =
      (call : C) × (d.decide p ≡ Invoke call) × Done d es (before ++ p ∷ []) × (answer_at es (length before) ≡ Some answer)

  -- What the worker that has a payload says: it isn't called before its Apply; after it, its entry stands in the journal where the Apply has put it there.
  abbrev pub Carries : List (JournalEntry C A) → Key → List (List ℕ) → List ℕ → WorkerState A → Type 0
  Carries es key before p idle = ⊥
  Carries es key before p (holds k payload) = (k ≡ key) × (payload ≡ p) × Done d es before
  Carries es key before p (has_answer k payload answer) = (k ≡ key) × (payload ≡ p) × IsEntered es before p answer
  Carries es key before p (has_none k payload) = (k ≡ key) × (payload ≡ p) × (Done d es before ⊎ ((answer : A) × IsEntered es before p answer))

  -- What an outcome says: it is what the payload comes to by its decision, or by its call's answer that stands in the journal; or it is want of memory.
  abbrev pub IsOutcome : List (JournalEntry C A) → List (List ℕ) → List ℕ → Settled → Type 0
  IsOutcome es before p settled =
      (Done d es before × ((settled_by (d.decide p) ≡ Some settled) ⊎ (settled ≡ NoMemory)))
      ⊎ ((answer : A) × IsEntered es before p answer × ((settled_with d p answer (d.decide p) ≡ Some settled) ⊎ (settled ≡ NoMemory)))

  -- What is so of a connection where its last payload is at this place: its own jobs and outcomes, its entries, and its counts.
  abbrev pub PayloadIsAt : (ℕ → WorkerState A) → List Job → List JobOutcome → List (JournalEntry C A) → ℕ → LoopConn → PayloadPlace → Type 0
  PayloadIsAt workers jobs outcomes es c conn collected_all =
      (jobs ≡ []) × (outcomes ≡ []) × (conn.submitted ≡ length conn.payloads) × (conn.collected ≡ length conn.payloads)
  PayloadIsAt workers jobs outcomes es c conn ready =
      (before : List (List ℕ)) × (p : List ℕ) × IsUncollected conn before p × (jobs ≡ []) × (outcomes ≡ []) × (conn.submitted ≡ length before) × Done d es before
  PayloadIsAt workers jobs outcomes es c conn queued =
      (before : List (List ℕ)) × (p : List ℕ) × IsUncollected conn before p × (jobs ≡ job_of (key_of c (length before)) p ∷ []) × (outcomes ≡ [])
      × (conn.submitted ≡ suc (length before)) × Done d es before
  PayloadIsAt workers jobs outcomes es c conn (held_by w) =
      (before : List (List ℕ)) × (p : List ℕ) × IsUncollected conn before p × (jobs ≡ []) × (outcomes ≡ [])
      × (conn.submitted ≡ suc (length before)) × Carries es (key_of c (length before)) before p (workers w)
  PayloadIsAt workers jobs outcomes es c conn (put_out settled) =
      (before : List (List ℕ)) × (p : List ℕ) × IsUncollected conn before p × (jobs ≡ []) × (outcomes ≡ outcome_of (key_of c (length before)) settled ∷ [])
      × (conn.submitted ≡ suc (length before)) × IsOutcome es before p settled

  -- Each payload of a connection is called, in order; or, where it has ended or its last payload is under way, each one but that.
  abbrev pub WhatIsWritten : List (JournalEntry C A) → List ℕ → LoopConn → Option EndCause → PayloadPlace → Type 0
  WhatIsWritten es out conn None collected_all = Done d es conn.payloads × (sent d es 0 conn.payloads ≡ out ++ conn.left)
  WhatIsWritten es out conn _ _ = Unit {0}

-- What holds of a cell: the journal is a legal history, and until it failed the memories are those after it; calls stand in order; connections keep their
-- turns; the last payload of each is at exactly one place, and what stands there is what the place says.
pub record CellKeeps {C A M : Type 0} (d : DeskRules C A) (r : ServiceRules C A M) (opening : List M) (cell : Cell C A M) : Type 0 where
  pub place : ℕ → PayloadPlace
  pub legal : Legal r opening cell.hall.journal
  pub memories : cell.hall.broken ≡ false → cell.hall.memories ≡ after r opening cell.hall.journal
  pub order : InOrder d cell.loop.tape cell.hall.journal
  pub frames : (c : ℕ) → c < cell.loop.count → Frames d.max (input (marks_of c cell.loop.tape)) (cell.loop.conns c).payloads (cell.loop.conns c).held
  pub turns : (c : ℕ) → Turns d (entries_of c cell.hall.journal) (marks_of c cell.loop.tape)
  pub at : (c : ℕ) → c < cell.loop.count
      → PayloadIsAt d cell.workers (jobs_of c cell.hall.jobs) (outcomes_of c cell.hall.outcomes) (entries_of c cell.hall.journal) c (cell.loop.conns c) (place c)
  pub written : (c : ℕ) → c < cell.loop.count
      → WhatIsWritten d (entries_of c cell.hall.journal) (output (marks_of c cell.loop.tape)) (cell.loop.conns c) (cell.loop.conns c).cause (place c)
  pub workers : (w : ℕ) (key : Key) → key_held (cell.workers w) ≡ Some key → (key.c < cell.loop.count) × (place key.c ≡ held_by w)
  pub nobody : (c : ℕ) → cell.loop.count ≤ c
      → (jobs_of c cell.hall.jobs ≡ []) × (outcomes_of c cell.hall.outcomes ≡ []) × (entries_of c cell.hall.journal ≡ [])
