-- How much each write of a connection takes, where rules govern writes.
use Rattle.std.specs.Prelude.{◌≡◌, ℕ, ◌+◌, ◌<◌, Option, None, Some, List, [], ◌∷◌, ◌++◌, length, take}
use Rattle.streams.specs.declared.marks.Mark.{Mark}
use Rattle.streams.specs.declared.marks.Mark.TheVariants.{Wrote, WriteFailed}
use Rattle.host_model.specs.Frames.{Frames}
use Rattle.host_model.specs.Marks.{marks_of, input, output}
use Rattle.host_model.specs.Journal.{JournalEntry}
use Rattle.host_model.specs.DeskRules.{DeskRules}
use Rattle.host_model.specs.Conversation.{sent}
use Rattle.script_model.specs.Sending.{WritesTheRest}
use Rattle.script_model.specs.ScriptLines.{PlanRule, takes_most, blocks, fails, ScriptPlan, rule_of}

-- one, where a mark is of a write
abbrev pub write_in : Mark → ℕ
write_in (Wrote c bytes) = 1
write_in (WriteFailed c) = 1
write_in _ = 0

-- how many writes were made
abbrev pub writes_in : List Mark → ℕ
writes_in [] = 0
writes_in (mark ∷ marks) = write_in mark + writes_in marks

-- After these marks of a connection with these entries, these bytes are written, one at least: of what was left of what was to be sent by then, so many at
-- most.
pub record WritesAtMost {C A : Type 0} (count : ℕ) (d : DeskRules C A) (es : List (JournalEntry C A)) (marks : List Mark) (bytes : List ℕ) : Type 0 where
  pub payloads : List (List ℕ)
  pub rest : List ℕ
  pub frames : Frames d.max (input marks) payloads rest
  pub offered : List ℕ
  pub left : output marks ++ offered ≡ sent d es 0 payloads
  pub some : 0 < length bytes
  pub part : bytes ≡ take count offered

-- what a write does under this rule, or under none
abbrev pub WritesUnder : {C A : Type 0} → Option PlanRule → DeskRules C A → List (JournalEntry C A) → List Mark → List ℕ → Type 0
WritesUnder None d es marks bytes = WritesTheRest d es marks bytes
WritesUnder (Some (takes_most count)) d es marks bytes = WritesAtMost count d es marks bytes
WritesUnder (Some blocks) d es marks bytes = ⊥
WritesUnder (Some fails) d es marks bytes = ⊥

-- each write of connection c, which has these entries, is under its rule, and one fails where its rule says so
pub record KeepsItsRules {C A : Type 0} (d : DeskRules C A) (script : ScriptPlan) (c : ℕ) (es : List (JournalEntry C A)) (tape : List Mark) : Type 0 where
  pub writes : (front back : List Mark) (bytes : List ℕ) → tape ≡ front ++ Wrote c bytes ∷ back
      → WritesUnder (rule_of script c (writes_in (marks_of c front))) d es (marks_of c front) bytes
  pub fails_so : (front back : List Mark) → tape ≡ front ++ WriteFailed c ∷ back → rule_of script c (writes_in (marks_of c front)) ≡ Some fails
