-- What is promised of a whole run over unframed connections.
use Rattle.std.specs.Prelude.{◌≡◌, ℕ, ◌≤◌, Some, List, [], length, slice_get}
use Rattle.streams.specs.declared.marks.Mark.{Mark}
use Rattle.host_model.specs.Marks.{marks_of, input, output}
use Rattle.host_model.specs.Journal.{JournalEntry, ServiceRules, Legal, entries_of}
use Rattle.host_model.specs.DeskRules.{DeskRules}
use Rattle.stream_model.specs.declared.cause.StreamCause.{StreamCause}
use Rattle.stream_model.specs.Talk.{StreamTalk}
use Rattle.stream_model.specs.Turns.{StreamTurns, StreamMarks, StreamInOrder}

-- a whole conversation: the talk, its turns and its marks
pub record StreamConversation {C A : Type 0} (d : DeskRules C A) (c : ℕ) (own : List Mark) (es : List (JournalEntry C A)) (cause : StreamCause) : Type 0 where
  pub talk : StreamTalk d (input own) es (output own) cause
  pub turns : StreamTurns d es own
  pub marks : StreamMarks c own cause

-- The journal is a legal history of the services from these memories, calls stand in order, and each connection, of which there are as many as causes,
-- has had a whole conversation that ended by its cause. Beyond them there are no marks and no entries.
pub record StreamHeadline {C A M : Type 0} (d : DeskRules C A) (r : ServiceRules C A M) (memories : List M)
    (tape : List Mark) (journal : List (JournalEntry C A)) (causes : List StreamCause) : Type 0 where
  pub legal : Legal r memories journal
  pub order : StreamInOrder d tape journal
  pub each : (c : ℕ) (cause : StreamCause) → slice_get causes c ≡ Some cause → StreamConversation d c (marks_of c tape) (entries_of c journal) cause
  pub no_marks : (c : ℕ) → length causes ≤ c → marks_of c tape ≡ []
  pub no_entries : (c : ℕ) → length causes ≤ c → entries_of c journal ≡ []
