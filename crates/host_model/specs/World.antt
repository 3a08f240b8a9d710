-- The world: what connections and services do, one act after another, whoever does it. A run of it meets the headline.
use Rattle.std.specs.Prelude.{◌≡◌, ◌≢◌, ℕ, ℤ, ◌==◌, if◌then◌else◌, Option, None, Some, List, [], ◌∷◌, ◌++◌, length}
use Rattle.streams.specs.declared.outcomes.EnvelopeFault.{EnvelopeFault}
use Rattle.streams.specs.declared.marks.Mark.{Mark}
use Rattle.streams.specs.declared.marks.Mark.TheVariants.{Opened, Read, Ended, Wrote, ReadFailed, WriteFailed, Closed}
use Rattle.host_model.specs.declared.cause.EndCause.{EndCause}
use Rattle.host_model.specs.declared.cause.EndCause.TheVariants.{End, Cut, SizeFault, Envelope, ReadFault, WriteFault, NoMemory, Stopped}
use Rattle.host_model.specs.Frames.{Frames, frame, size_bytes, IsPayload, IsOutside, IsPartial, HasNoBadSize}
use Rattle.host_model.specs.Marks.{marks_of, input, output}
use Rattle.host_model.specs.Journal.{JournalEntry, ServiceRules, IsAnswered, Legal, after, entries_of}
use Rattle.host_model.specs.DeskRules.{DeskRules, DeskDecision, Close, Silent, Reply, Invoke}
use Rattle.host_model.specs.Conversation.{reply_for, answer_at, IsLast, AllKeepConnection, Done, sent, but_last, EndsBy, Turns}
use Rattle.host_model.specs.OrderBetween.{InOrder}

-- where a connection stands
pub data Stage : Type 0 where
  -- it isn't opened
  unopened : Stage
  -- each payload is settled, and left is what isn't written of the last reply
  open_ : (left : List ℕ) → Stage
  -- the last payload isn't settled, and it isn't called
  pending : Stage
  -- the last payload's call stands in the journal, and its reply isn't made
  answered : Stage
  -- it has ended
  over : (cause : EndCause) → Stage
  -- it has ended while its last payload was pending, which may still be called
  over_pending : (cause : EndCause) → Stage

-- a connection: the payloads read whole, the bytes read behind them, and where it stands
pub record Endpoint : Type 0 where
  pub payloads : List (List ℕ)
  pub held : List ℕ
  pub stage : Stage

-- nothing was read
abbrev pub unopened_endpoint : Endpoint
unopened_endpoint = record { payloads = []; held = []; stage = unopened }

-- what a connection does
pub data Move : Type 0 where
  opens : Move
  -- reads bytes and has less than a frame then, or a whole frame, or a whole size that no frame has
  reads : (bytes : List ℕ) → Move
  reads_frame : (bytes payload : List ℕ) → Move
  reads_bad_size : (bytes : List ℕ) (size : ℤ) → Move
  -- its input ends, or fails
  ends : Move
  fails_read : Move
  -- the last payload is settled without a call, or after its call, or ends the connection
  settles : Move
  replies : Move
  closes : (fault : EnvelopeFault) → Move
  -- a part of the reply is written, or writing fails
  writes : (bytes : List ℕ) → Move
  fails_write : Move
  -- it is given up, for want of memory or since the host stops
  gives_up : (cause : EndCause) → Move

-- the marks of a move
abbrev pub marks_by : ℕ → Move → List Mark
marks_by c opens = Opened c ∷ []
marks_by c (reads bytes) = Read c bytes ∷ []
marks_by c (reads_frame bytes payload) = Read c bytes ∷ []
marks_by c (reads_bad_size bytes size) = Read c bytes ∷ Closed c ∷ []
marks_by c ends = Ended c ∷ Closed c ∷ []
marks_by c fails_read = ReadFailed c ∷ Closed c ∷ []
marks_by c settles = []
marks_by c replies = []
marks_by c (closes fault) = Closed c ∷ []
marks_by c (writes bytes) = Wrote c bytes ∷ []
marks_by c fails_write = WriteFailed c ∷ Closed c ∷ []
marks_by c (gives_up cause) = Closed c ∷ []

-- the cause of an input that ends after these bytes
abbrev pub end_behind : List ℕ → EndCause
end_behind [] = End
end_behind (byte ∷ bytes) = Cut

-- a decision that is settled without a call and doesn't end the connection
abbrev pub NeedsNoCall : {C : Type 0} → DeskDecision C → Type 0
NeedsNoCall Silent = Unit {0}
NeedsNoCall (Reply reply) = Unit {0}
NeedsNoCall _ = ⊥

-- the causes by which a connection is given up from outside
abbrev pub IsGivenUp : EndCause → Type 0
IsGivenUp NoMemory = Unit {0}
IsGivenUp Stopped = Unit {0}
IsGivenUp _ = ⊥

-- where a connection that is given up stands then
abbrev pub GivesUp : Stage → EndCause → Stage → Type 0
GivesUp (open_ left) cause new = new ≡ over cause
GivesUp answered cause new = new ≡ over cause
GivesUp pending cause new = new ≡ over_pending cause
GivesUp _ cause new = ⊥

-- A connection with these entries goes from old to new by a move.
abbrev pub Moves : {C A : Type 0} → DeskRules C A → List (JournalEntry C A) → Endpoint → Move → Endpoint → Type 0
Moves d es old opens new =
    (old ≡ unopened_endpoint) × (new ≡ record { payloads = []; held = []; stage = open_ [] })
Moves d es old (reads bytes) new =
    (old.stage ≡ open_ []) × (bytes ≢ []) × IsPartial d.max (old.held ++ bytes) × (new ≡ record old { held = old.held ++ bytes })
Moves d es old (reads_frame bytes payload) new =
    (old.stage ≡ open_ []) × IsPayload d.max payload × (old.held ++ bytes ≡ frame payload)
    × (new ≡ record { payloads = old.payloads ++ payload ∷ []; held = []; stage = pending })
Moves d es old (reads_bad_size bytes size) new =
    (old.stage ≡ open_ []) × IsOutside d.max size × (old.held ++ bytes ≡ size_bytes size)
    × (new ≡ record { payloads = old.payloads; held = old.held ++ bytes; stage = over (SizeFault size) })
Moves d es old ends new =
    (old.stage ≡ open_ []) × (new ≡ record old { stage = over (end_behind old.held) })
Moves d es old fails_read new =
    (old.stage ≡ open_ []) × (new ≡ record old { stage = over ReadFault })
Moves {C} {A} d es old settles new =
    (before : List (List ℕ)) × (p : List ℕ) × IsLast old.payloads before p × (old.stage ≡ pending) × NeedsNoCall (d.decide p)
    × (new ≡ record old { stage = open_ (reply_for d p (d.decide p) None) })
Moves d es old replies new =
    (before : List (List ℕ)) × (p : List ℕ) × IsLast old.payloads before p × (old.stage ≡ answered)
    × (new ≡ record old { stage = open_ (reply_for d p (d.decide p) (answer_at es (length before))) })
Moves d es old (closes fault) new =
    (before : List (List ℕ)) × (p : List ℕ) × IsLast old.payloads before p × (old.stage ≡ pending) × (d.decide p ≡ Close fault)
    × (new ≡ record old { stage = over (Envelope fault) })
Moves d es old (writes bytes) new =
    (left : List ℕ) × (old.stage ≡ open_ (bytes ++ left)) × (bytes ≢ []) × (new ≡ record old { stage = open_ left })
Moves d es old fails_write new =
    (left : List ℕ) × (old.stage ≡ open_ left) × (left ≢ []) × (new ≡ record old { stage = over WriteFault })
Moves d es old (gives_up cause) new =
    (stage : Stage) × IsGivenUp cause × GivesUp old.stage cause stage × (new ≡ record old { stage = stage })

-- the tape, the journal, and each connection by its number
pub record World (C A : Type 0) : Type 0 where
  pub tape : List Mark
  pub journal : List (JournalEntry C A)
  pub endpoints : ℕ → Endpoint

-- nothing has happened
abbrev pub at_first : {C A : Type 0} → World C A
at_first = record { tape = []; journal = []; endpoints = λ _. unopened_endpoint }

-- the connections with this one in place of c
abbrev pub with_endpoint : (ℕ → Endpoint) → ℕ → Endpoint → ℕ → Endpoint
with_endpoint endpoints c endpoint x = if x == c then endpoint else endpoints x

-- where a connection stands once its pending payload's call has been entered
abbrev pub Enters : Stage → Stage → Type 0
Enters pending new = new ≡ answered
Enters (over_pending cause) new = new ≡ over cause
Enters _ new = ⊥

-- one act: connection c moves, or the call of a pending payload takes effect
pub data Act (C A : Type 0) : Type 0 where
  moves : (c : ℕ) (move : Move) → Act C A
  enters : (entry : JournalEntry C A) → Act C A

-- The world goes from old to new by an act, where the services began with these memories.
abbrev pub Acts : {C A M : Type 0} → DeskRules C A → ServiceRules C A M → List M → World C A → Act C A → World C A → Type 0
Acts d r memories old (moves c move) new =
    (endpoint : Endpoint) × Moves d (entries_of c old.journal) (old.endpoints c) move endpoint
    × (new ≡ record { tape = old.tape ++ marks_by c move; journal = old.journal; endpoints = with_endpoint old.endpoints c endpoint })
Acts d r memories old (enters e) new =
    (before : List (List ℕ)) × (p : List ℕ) × (stage : Stage) × IsLast (old.endpoints e.key.c).payloads before p
    × Enters (old.endpoints e.key.c).stage stage × (d.decide p ≡ Invoke e.call) × (e.key.i ≡ length before)
    × IsAnswered r (after r memories old.journal) e
    × (new ≡ record {
      tape = old.tape;
      journal = old.journal ++ e ∷ [];
      endpoints = with_endpoint old.endpoints e.key.c (record (old.endpoints e.key.c) { stage = stage });
    })

-- These acts, the last one first, lead from the first world to this one.
abbrev pub ReachedBy : {C A M : Type 0} → DeskRules C A → ServiceRules C A M → List M → List (Act C A) → World C A → Type 0
ReachedBy d r memories [] world = world ≡ at_first
ReachedBy {C} {A} d r memories (act ∷ acts) world =
    (old : World C A) × ReachedBy d r memories acts old × Acts d r memories old act world

-- A connection has ended by the cause that stands at its number, and one that has none there was never opened.
abbrev pub HasEnded : Stage → Option EndCause → Type 0
HasEnded unopened None = Unit {0}
HasEnded (over cause) (Some given) = given ≡ cause
HasEnded (over_pending cause) (Some given) = given ≡ cause
HasEnded _ _ = ⊥

-- what a connection's stage says of its payloads, the bytes held, its entries and the bytes written
abbrev pub StageSays : {C A : Type 0} → DeskRules C A → List (List ℕ) → List ℕ → List (JournalEntry C A) → List ℕ → Stage → Type 0
StageSays d ps held es out unopened = (ps ≡ []) × (held ≡ []) × (es ≡ []) × (out ≡ [])
StageSays d ps held es out (open_ left) = AllKeepConnection d ps × HasNoBadSize d.max held × Done d es ps × (sent d es 0 ps ≡ out ++ left)
StageSays d ps held es out pending = AllKeepConnection d (but_last ps) × (held ≡ []) × Done d es (but_last ps) × (out ≡ sent d es 0 (but_last ps))
StageSays d ps held es out answered = AllKeepConnection d ps × (held ≡ []) × Done d es ps × (out ≡ sent d es 0 (but_last ps))
StageSays d ps held es out (over cause) = EndsBy d ps held es out cause
StageSays d ps held es out (over_pending cause) = EndsBy d ps held es out cause

-- A moment of a run: the journal is a legal history, its calls stand in order, and each connection's bytes split into its payloads and what is held, with
-- the calls, the replies and the turns that its stage says.
pub record Moment {C A M : Type 0} (d : DeskRules C A) (r : ServiceRules C A M) (memories : List M) (world : World C A) : Type 0 where
  pub legal : Legal r memories world.journal
  pub order : InOrder d world.tape world.journal
  pub frames : (c : ℕ) → Frames d.max (input (marks_of c world.tape)) (world.endpoints c).payloads (world.endpoints c).held
  pub stands : (c : ℕ) → StageSays d (world.endpoints c).payloads (world.endpoints c).held (entries_of c world.journal) (output (marks_of c world.tape)) (world.endpoints c).stage
  pub turns : (c : ℕ) → Turns d (entries_of c world.journal) (marks_of c world.tape)
