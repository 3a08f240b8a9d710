-- Which runs the report of a script's run tells.
use Rattle.std.specs.Prelude.{◌≡◌, ℕ, ◌<◌, List}
use Rattle.limits.specs.Limits.{most_connections}
use Rattle.streams.specs.declared.marks.Mark.{Mark}
use Rattle.host_model.specs.declared.cause.EndCause.{EndCause}
use Rattle.host_model.specs.Journal.{JournalEntry, ServiceRules}
use Rattle.host_model.specs.DeskRules.{DeskRules}
use Rattle.host_model.specs.Headline.{Headline}
use Rattle.script_model.specs.ScriptLines.{ScriptPlan}
use Rattle.script_model.specs.Rehearsal.{HaveCallLines}
use Rattle.script_model.specs.Fed.{IsFedBy}

module _ {C A : Type 0} (line : JournalEntry C A → List ℕ) where
  -- an entry's connection, one of as many as a script may have, is told by the entry's line
  abbrev pub TellsConnections : Type 0
  TellsConnections = (e f : JournalEntry C A) → e.key.c < most_connections → f.key.c < most_connections → line e ≡ line f → e.key.c ≡ f.key.c

  -- A run of a script that a report may tell: its tape, journal and causes meet the headline, the script feeds it, and each entry has the line of a call.
  pub record MayBeTold {M : Type 0} (d : DeskRules C A) (r : ServiceRules C A M) (memories : List M) (budget : ℕ) (script : ScriptPlan)
      (tape : List Mark) (journal : List (JournalEntry C A)) (causes : List EndCause) : Type 0 where
    pub headline : Headline d r memories tape journal causes
    pub fed : IsFedBy d budget script tape journal
    pub lines : HaveCallLines line journal
