-- What a line of rest asks of a run: a place on its tape at which all that came before is done.
use Rattle.std.specs.Prelude.{◌≡◌, ℕ, ◌<◌, ◌≤◌, ◌⊎◌, true, List, [], ◌∷◌, ◌++◌}
use Rattle.std.specs.List.{flat_map}
use Rattle.streams.specs.declared.marks.Mark.{Mark}
use Rattle.streams.specs.declared.marks.Mark.TheVariants.{Opened, Ended, ReadFailed}
use Rattle.host_model.specs.Marks.{marks_of, input}
use Rattle.host_model.specs.Journal.{JournalEntry}
use Rattle.host_model.specs.DeskRules.{DeskRules}
use Rattle.host_model.specs.Conversation.{IsPrefix}
use Rattle.machine_model.specs.AtFronts.{IsOpenBehind, size_in, AreSizesBehind, summed}
use Rattle.machine_model.specs.Resting.{IsPlaceOfRest}
use Rattle.script_model.specs.Arrival.{bytes_of_pieces}
use Rattle.script_model.specs.ScriptLines.{PlanLine, openings, pieces_on, ends_input, fails_input, some_line, count_up}

-- the connection that a mark opens
abbrev pub opened_by : Mark → List ℕ
opened_by (Opened c) = c ∷ []
opened_by _ = []

-- the connections that were opened, in order
abbrev pub opened_in : List Mark → List ℕ
opened_in tape = flat_map opened_by tape

-- No mark of these tells of more than these lines say of connection c: its bytes are theirs, and its input has ended, or failed, only where they say so.
pub record TellsNoMore (lines : List PlanLine) (front : List Mark) (c : ℕ) : Type 0 where
  pub bytes : IsPrefix (input (marks_of c front)) (bytes_of_pieces (pieces_on c lines))
  pub ended : (before behind : List Mark) → front ≡ before ++ Ended c ∷ behind → some_line (ends_input c) lines ≡ true
  pub failed : (before behind : List Mark) → front ≡ before ++ ReadFailed c ∷ behind → some_line (fails_input c) lines ≡ true

-- After these marks the whole sizes of the frames under way, each one that a frame may have, add up to more than the budget.
pub record IsOverBudget (max budget : ℕ) (front : List Mark) : Type 0 where
  pub sizes : ℕ → ℕ
  pub count : ℕ
  pub each : AreSizesBehind max size_in front sizes
  pub within : (c : ℕ) → sizes c ≤ max
  pub more : budget < summed sizes count

-- A place of the tape for a line of rest behind these lines: just the connections that they open were opened; nothing of a later line was seen; nothing is
-- owed; and their pieces were read, but where connections that are open hold more than the budget.
pub record HasPlaceFor {C A : Type 0} (d : DeskRules C A) (budget : ℕ) (lines : List PlanLine) (tape : List Mark) (journal : List (JournalEntry C A)) : Type 0 where
  pub front : List Mark
  pub back : List Mark
  pub split : tape ≡ front ++ back
  pub opened : opened_in front ≡ count_up 0 (openings lines)
  pub no_more : (c : ℕ) → TellsNoMore lines front c
  pub at_rest : IsPlaceOfRest d journal front
  pub all_read : ((c : ℕ) → IsOpenBehind c front → input (marks_of c front) ≡ bytes_of_pieces (pieces_on c lines)) ⊎ IsOverBudget d.max budget front
