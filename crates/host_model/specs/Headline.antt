-- What is promised of a whole run.
use Rattle.std.specs.Prelude.{◌≡◌, ℕ, ◌≤◌, Some, List, [], length, slice_get}
use Rattle.streams.specs.declared.marks.Mark.{Mark}
use Rattle.host_model.specs.declared.cause.EndCause.{EndCause}
use Rattle.host_model.specs.Marks.{marks_of}
use Rattle.host_model.specs.Journal.{JournalEntry, ServiceRules, Legal, entries_of}
use Rattle.host_model.specs.DeskRules.{DeskRules}
use Rattle.host_model.specs.Conversation.{Conversation}
use Rattle.host_model.specs.OrderBetween.{InOrder}

-- The journal is a legal history of the services from these memories, calls stand in order, and each connection, of which there are as many as causes,
-- has had a whole conversation that ended by its cause. Beyond them there are no marks and no entries.
pub record Headline {C A M : Type 0} (d : DeskRules C A) (r : ServiceRules C A M) (memories : List M)
    (tape : List Mark) (journal : List (JournalEntry C A)) (causes : List EndCause) : Type 0 where
  pub legal : Legal r memories journal
  pub order : InOrder d tape journal
  pub each : (c : ℕ) (cause : EndCause) → slice_get causes c ≡ Some cause → Conversation d c (marks_of c tape) (entries_of c journal) cause
  pub no_marks : (c : ℕ) → length causes ≤ c → marks_of c tape ≡ []
  pub no_entries : (c : ℕ) → length causes ≤ c → entries_of c journal ≡ []
