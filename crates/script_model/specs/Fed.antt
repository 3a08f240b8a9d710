-- A run that a script feeds: what it may read and when, how its writes go, and where it rests.
use Rattle.std.specs.Prelude.{◌≡◌, ℕ, true, List, [], ◌∷◌, ◌++◌, map}
use Rattle.streams.specs.declared.marks.Mark.{Mark}
use Rattle.streams.specs.declared.marks.Mark.TheVariants.{Ended, ReadFailed}
use Rattle.host_model.specs.Marks.{marks_of, input}
use Rattle.host_model.specs.Journal.{JournalEntry, entries_of}
use Rattle.host_model.specs.DeskRules.{DeskRules}
use Rattle.host_model.specs.Conversation.{IsPrefix}
use Rattle.script_model.specs.Arrival.{bytes_of_pieces, ends_from}
use Rattle.script_model.specs.Feeding.{EachReadTakesItsPart}
use Rattle.script_model.specs.ScriptLines.{PlanLine, opening, piece, input_end, resting, ScriptPlan, openings, pieces_on, ends_input, fails_input, some_line, count_up}
use Rattle.script_model.specs.Writing.{KeepsItsRules}
use Rattle.script_model.specs.RestLines.{opened_in, HasPlaceFor}

-- What is read of connection c: a beginning of its pieces, each read with its part of one of them; its input ends, or fails, after all of them, where the
-- script says so.
pub record IsReadFrom (max : ℕ) (script : ScriptPlan) (tape : List Mark) (c : ℕ) : Type 0 where
  pub bytes : IsPrefix (input (marks_of c tape)) (bytes_of_pieces (pieces_on c script.lines))
  pub reads : EachReadTakesItsPart max c (ends_from 0 (pieces_on c script.lines)) tape
  pub ended : (front back : List Mark) → tape ≡ front ++ Ended c ∷ back
      → (some_line (ends_input c) script.lines ≡ true) × (input (marks_of c front) ≡ bytes_of_pieces (pieces_on c script.lines))
  pub failed : (front back : List Mark) → tape ≡ front ++ ReadFailed c ∷ back
      → (some_line (fails_input c) script.lines ≡ true) × (input (marks_of c front) ≡ bytes_of_pieces (pieces_on c script.lines))

-- The script feeds the run of this tape and this journal: it opens every connection, in order; each is read from its pieces, and its writes keep its rules;
-- and for each line of rest there is a place.
pub record IsFedBy {C A : Type 0} (d : DeskRules C A) (budget : ℕ) (script : ScriptPlan) (tape : List Mark) (journal : List (JournalEntry C A)) : Type 0 where
  pub opened : opened_in tape ≡ count_up 0 (openings script.lines)
  pub each_read : (c : ℕ) → IsReadFrom d.max script tape c
  pub each_written : (c : ℕ) → KeepsItsRules d script c (entries_of c journal) tape
  pub rests : (before behind : List PlanLine) → script.lines ≡ before ++ resting ∷ behind → HasPlaceFor d budget before tape journal

-- the script of one connection that these pieces arrive on, and that ends then
abbrev pub script_of_one : List (List ℕ) → ScriptPlan
script_of_one pieces = record { lines = opening ∷ (map (piece 0) pieces ++ input_end 0 ∷ []); rules = [] ∷ [] }
