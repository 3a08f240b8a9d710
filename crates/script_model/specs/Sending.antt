-- How much each write of a connection takes.
use Rattle.std.specs.Prelude.{◌≡◌, ℕ, ◌<◌, List, ◌∷◌, ◌++◌, length}
use Rattle.streams.specs.declared.marks.Mark.{Mark}
use Rattle.streams.specs.declared.marks.Mark.TheVariants.{Wrote}
use Rattle.host_model.specs.Frames.{Frames}
use Rattle.host_model.specs.Marks.{marks_of, input, output}
use Rattle.host_model.specs.Journal.{JournalEntry}
use Rattle.host_model.specs.DeskRules.{DeskRules}
use Rattle.host_model.specs.Conversation.{sent}

-- After these marks of a connection with these entries, these bytes are written, one at least: all that was left of what was to be sent by then.
pub record WritesTheRest {C A : Type 0} (d : DeskRules C A) (es : List (JournalEntry C A)) (marks : List Mark) (bytes : List ℕ) : Type 0 where
  pub payloads : List (List ℕ)
  pub rest : List ℕ
  pub frames : Frames d.max (input marks) payloads rest
  pub some : 0 < length bytes
  pub whole : output marks ++ bytes ≡ sent d es 0 payloads

-- each write of connection c, which has these entries, writes the rest
abbrev pub EachWriteTakesTheRest : {C A : Type 0} → DeskRules C A → ℕ → List (JournalEntry C A) → List Mark → Type 0
EachWriteTakesTheRest d c es tape =
    (front back : List Mark) (bytes : List ℕ) → tape ≡ front ++ Wrote c bytes ∷ back → WritesTheRest d es (marks_of c front) bytes
