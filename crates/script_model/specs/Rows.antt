-- Scripts of a tiny desk, for examples.
use Rattle.std.specs.Prelude.{◌≡◌, ℕ, true, ◌==◌, if◌then◌else◌, Option, Some, List, [], ◌∷◌, ◌++◌, map, option_map}
use Rattle.streams.specs.declared.marks.Mark.{Mark}
use Rattle.host_model.specs.declared.cause.EndCause.{EndCause}
use Rattle.host_model.specs.Journal.{JournalEntry}
use Rattle.host_model.specs.TinyDesk.{tiny_desk, counting, size_of_one}
use Rattle.machine_model.specs.Tiny.{tiny_hall, causes_from}
use Rattle.machine_model.specs.Machine.{Cell}
use Rattle.machine_model.specs.Merge.{cell_at_first}
use Rattle.script_model.specs.ScriptLines.{PlanLine, PlanRule, ScriptPlan}
use Rattle.script_model.specs.Fed.{IsFedBy}
use Rattle.script_model.specs.Playing.{MemoryAt, ample, always_ample, Play}
use Rattle.script_model.specs.Rehearsing.{rehearsal}
use Rattle.script_model.specs.Showing.{IsRehearsedTo}

-- a script with these lines, and these rules of connection 0
abbrev pub tiny_script : List PlanLine → List PlanRule → ScriptPlan
tiny_script lines rules = record { lines = lines; rules = rules ∷ [] }

-- a frame whose payload is this one byte
abbrev pub frame_of_one : ℕ → List ℕ
frame_of_one kind = size_of_one ++ kind ∷ []

-- the tape, the journal and the causes of a play
abbrev pub played_so : Play ℕ ℕ ℕ → List Mark × List (JournalEntry ℕ ℕ) × List (Option EndCause)
played_so play = (play.cell.loop.tape, play.cell.hall.journal, causes_from play.cell.loop.conns 0 play.cell.loop.count)

-- the tiny desk's rehearsal of a script, with this memory at its moves, this budget and so many workers, comes to this tape, this journal and these causes
abbrev pub RehearsesWith : (ℕ → MemoryAt) → ℕ → ℕ → ScriptPlan → List Mark → List (JournalEntry ℕ ℕ) → List EndCause → Type 0
RehearsesWith memory budget workers script tape journal causes =
    option_map played_so (rehearsal tiny_desk counting memory 20 budget workers script (cell_at_first tiny_hall)) ≡ Some (tape, journal, map Some causes)

-- the same where memory is ample
abbrev pub RehearsesTo : ℕ → ℕ → ScriptPlan → List Mark → List (JournalEntry ℕ ℕ) → List EndCause → Type 0
RehearsesTo budget workers script tape journal causes = RehearsesWith always_ample budget workers script tape journal causes

-- the causes of its connections, where memory is ample; those that haven't ended have none
abbrev pub EndsWith : ℕ → ℕ → ScriptPlan → List (Option EndCause) → Type 0
EndsWith budget workers script causes =
    option_map (λ play. causes_from play.cell.loop.conns 0 play.cell.loop.count) (rehearsal tiny_desk counting always_ample 20 budget workers script (cell_at_first tiny_hall)) ≡ Some causes

-- memory is so at move number n, and ample at the others
abbrev pub once : ℕ → MemoryAt → ℕ → MemoryAt
once n memory move = if move == n then memory else ample

-- the tape and the journal of a play
abbrev pub told_by : Play ℕ ℕ ℕ → List Mark × List (JournalEntry ℕ ℕ)
told_by play = (play.cell.loop.tape, play.cell.hall.journal)

-- The tiny desk's rehearsal of a script comes to this tape and this journal, where memory is ample and its services have these memories; but the script
-- doesn't feed this run.
abbrev pub ComesToNoRest : List ℕ → ℕ → ℕ → ScriptPlan → List Mark → List (JournalEntry ℕ ℕ) → Type 0
ComesToNoRest memories budget workers script tape journal =
    (option_map told_by (rehearsal tiny_desk counting always_ample 20 budget workers script (cell_at_first (record tiny_hall { memories = memories }))) ≡ Some (tape, journal))
    × (IsFedBy tiny_desk budget script tape journal → ⊥)

-- the tiny desk's machine before it has done anything, with a hall that is closed
abbrev pub closed_at_first : Cell ℕ ℕ ℕ
closed_at_first = cell_at_first (record tiny_hall { closed = true })

-- its rehearsal shows this tape, this journal and these causes, where memory is ample
abbrev pub ShowsAll : ℕ → ℕ → ScriptPlan → List Mark → List (JournalEntry ℕ ℕ) → List EndCause → Type 0
ShowsAll budget workers script tape journal causes = IsRehearsedTo tiny_desk counting (5 ∷ []) always_ample budget workers script 0 tape journal causes
