-- What each mark of links over a script shows: that what happened is as the script says.
use Rattle.std.specs.Prelude.{◌≡◌, ℕ, ◌+◌, ◌-◌, ◌<◌, true, min, Option, None, Some, List, [], ◌∷◌, ◌++◌, length, slice_get}
use Rattle.streams.specs.declared.marks.Mark.{Mark}
use Rattle.streams.specs.declared.marks.Mark.TheVariants.{Opened, Read, Ended, Wrote, ReadFailed, WriteFailed, Closed}
use Rattle.host_model.specs.Marks.{marks_of, input}
use Rattle.script_model.specs.Arrival.{bytes_of_pieces, ends_from}
use Rattle.script_model.specs.Feeding.{piece_end}
use Rattle.script_model.specs.ScriptLines.{PlanLine, PlanRule, takes_most, blocks, fails, ScriptPlan, pieces_on, ends_input, fails_input, some_line, rule_of}
use Rattle.script_model.specs.Playing.{most_read}
use Rattle.script_model.specs.Writing.{writes_in}

-- one, where a mark has bytes that were read or written
abbrev pub transfer_in : Mark → ℕ
transfer_in (Read c bytes) = 1
transfer_in (Wrote c bytes) = 1
transfer_in _ = 0

-- how many marks have
abbrev pub transfers_in : List Mark → ℕ
transfers_in [] = 0
transfers_in (mark ∷ marks) = transfer_in mark + transfers_in marks

-- the length of what was lent for the mark of bytes that stands behind these marks
abbrev pub lent_behind : List ℕ → List Mark → Option ℕ
lent_behind lengths front = slice_get lengths (transfers_in front)

-- Of these pieces some bytes were read, and these are read next, one at least: as many as were lent, at most 65,536, and at most those that are left of the
-- piece under way.
pub record IsNextOfPiece (pieces : List (List ℕ)) (read bytes : List ℕ) (lent : ℕ) : Type 0 where
  pub some : 0 < length bytes
  pub count : length bytes ≡ min (min lent most_read) (piece_end (ends_from 0 pieces) (length read) - length read)

-- how much a write takes under this rule, or under none, to which so much is offered; one that takes nothing isn't made
abbrev pub taken_under : Option PlanRule → ℕ → Option ℕ
taken_under None offered = Some offered
taken_under (Some (takes_most count)) offered = Some (min count offered)
taken_under (Some blocks) offered = None
taken_under (Some fails) offered = None

-- after these marks all pieces of connection c have been read
abbrev pub IsReadThrough : ScriptPlan → ℕ → List Mark → Type 0
IsReadThrough script c front = input (marks_of c front) ≡ bytes_of_pieces (pieces_on c script.lines)

-- What a mark shows after these marks, once these lines were done: bytes were read of the piece under way; an input ended, or failed, after all pieces, where
-- a line said so; bytes were written, or a write failed, under the rule whose turn it was.
abbrev pub ShowsItsScript : ScriptPlan → List PlanLine → List ℕ → List Mark → Mark → Type 0
ShowsItsScript script done lengths front (Read c bytes) =
    (lent : ℕ) × (lent_behind lengths front ≡ Some lent) × IsNextOfPiece (pieces_on c script.lines) (input (marks_of c front)) bytes lent
ShowsItsScript script done lengths front (Ended c) = (some_line (ends_input c) done ≡ true) × IsReadThrough script c front
ShowsItsScript script done lengths front (ReadFailed c) = (some_line (fails_input c) done ≡ true) × IsReadThrough script c front
ShowsItsScript script done lengths front (Wrote c bytes) =
    (offered : ℕ) × (lent_behind lengths front ≡ Some offered) × (0 < length bytes) × (taken_under (rule_of script c (writes_in (marks_of c front))) offered ≡ Some (length bytes))
ShowsItsScript script done lengths front (WriteFailed c) = rule_of script c (writes_in (marks_of c front)) ≡ Some fails
ShowsItsScript script done lengths front (Opened c) = Unit {0}
ShowsItsScript script done lengths front (Closed c) = Unit {0}

-- each mark of a tape shows it
abbrev pub EachShowsItsScript : ScriptPlan → List PlanLine → List ℕ → List Mark → Type 0
EachShowsItsScript script done lengths tape = (front back : List Mark) (mark : Mark) → tape ≡ front ++ mark ∷ back → ShowsItsScript script done lengths front mark
