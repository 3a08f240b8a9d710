-- By what the connections of a script end.
use Rattle.std.specs.Prelude.{◌≡◌, ◌≢◌, ◌⊎◌, ℕ, false, Some, List, [], slice_get}
use Rattle.streams.specs.declared.marks.Mark.{Mark}
use Rattle.host_model.specs.declared.cause.EndCause.{EndCause}
use Rattle.host_model.specs.declared.cause.EndCause.TheVariants.{NoMemory}
use Rattle.host_model.specs.Conversation.{IsFinished}
use Rattle.host_model.specs.DeskRules.{DeskRules}
use Rattle.host_model.specs.Frames.{Frames}
use Rattle.host_model.specs.Journal.{JournalEntry}
use Rattle.host_model.specs.Marks.{input, output}
use Rattle.script_model.specs.Arrival.{bytes_of_pieces}
use Rattle.script_model.specs.ScriptLines.{ScriptPlan, fails, fails_input, some_line, pieces_on, rule_of}
use Rattle.script_model.specs.DecidedEnds.{EndsOn}

-- no line lets a read of connection c fail, and no rule a write
pub record FailsNowhere (script : ScriptPlan) (c : ℕ) : Type 0 where
  pub reads : some_line (fails_input c) script.lines ≡ false
  pub writes : (k : ℕ) → rule_of script c k ≢ Some fails

-- all that arrives on connection c
abbrev pub arriving_on : ScriptPlan → ℕ → List ℕ
arriving_on script c = bytes_of_pieces (pieces_on c script.lines)

-- connection c has ended; where nothing lets it fail, for want of memory or by what its pieces decide
pub record EndsByItsPieces {C A : Type 0} (d : DeskRules C A) (script : ScriptPlan) (causes : List EndCause) (c : ℕ) : Type 0 where
  pub cause : EndCause
  pub ended : slice_get causes c ≡ Some cause
  pub decided : FailsNowhere script c → (cause ≡ NoMemory) ⊎ EndsOn d (arriving_on script c) cause

-- a connection with these marks and entries has read all of these bytes, which are whole frames, made all their calls, and written all replies
pub record IsAnsweredWhole {C A : Type 0} (d : DeskRules C A) (bytes : List ℕ) (own : List Mark) (es : List (JournalEntry C A)) : Type 0 where
  pub payloads : List (List ℕ)
  pub frames : Frames d.max bytes payloads []
  pub read : input own ≡ bytes
  pub finished : IsFinished d es payloads (output own)
