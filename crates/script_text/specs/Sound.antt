-- What holds of each script that was read.
use Rattle.std.specs.Prelude.{◌≡◌, ℕ, ◌<◌, ◌≤◌, Bool, true, false, ◌||◌, List, [], ◌∷◌, ◌++◌, map, length, get_or, Some, Ok}
use Rattle.script_model.specs.ScriptLines.{PlanLine, piece, turn_of_worker, PlanRule, takes_most, ScriptPlan, openings, pieces_on, ends_input, fails_input, some_line, rules_of}
use Rattle.script_model.specs.Rehearsing.{workers_among}
use Rattle.script_text.specs.Reading.{most_connections, conn_of_line, is_turn, is_resting, plan_of_lines}
use Rattle.script_text.specs.Printing.{said_text, said_in}

-- the lines of a script's print are read as the script
abbrev pub IsReadBack : ℕ → Bool → Bool → ScriptPlan → Type 0
IsReadBack workers schedule rest script = plan_of_lines workers schedule rest (map said_text (said_in script)) ≡ Ok script

-- the most workers that a script may speak of
abbrev pub most_workers : ℕ
most_workers = 8

-- the print of a script has no fault, whatever its length, for 8 workers, with lines of a schedule and with `rest` lines
abbrev pub IsKeptScript : ScriptPlan → Type 0
IsKeptScript script = IsReadBack most_workers true true script

-- no line is one of a schedule
abbrev pub IsUnscheduled : ScriptPlan → Type 0
IsUnscheduled script = some_line is_turn script.lines ≡ false

-- no line is a `rest` line
abbrev pub NeverRests : ScriptPlan → Type 0
NeverRests script = some_line is_resting script.lines ≡ false

-- a line lets the input of connection c end or fail
abbrev pub closes_input : ℕ → PlanLine → Bool
closes_input c line = ends_input c line || fails_input c line

-- the input of connection c ends or fails just once, after its pieces
pub record EndsOnce (lines : List PlanLine) (c : ℕ) : Type 0 where
  pub above : List PlanLine
  pub line : PlanLine
  pub behind : List PlanLine
  pub split : lines ≡ above ++ line ∷ behind
  pub closes : closes_input c line ≡ true
  pub not_before : some_line (closes_input c) above ≡ false
  pub not_again : some_line (closes_input c) behind ≡ false
  pub no_piece : pieces_on c behind ≡ []

-- What a script is sound by: each line speaks of a connection that is opened above it; at most 1,024 are; each has rules, one input that ends or fails once,
-- pieces of bytes, one at least, and writes of a byte at least.
pub record IsSoundPlan (script : ScriptPlan) : Type 0 where
  pub opened : (above behind : List PlanLine) (line : PlanLine) (c : ℕ) → script.lines ≡ above ++ line ∷ behind → conn_of_line line ≡ Some c → c < openings above
  pub few : openings script.lines ≤ most_connections
  pub with_rules : length script.rules ≡ openings script.lines
  pub ends : (c : ℕ) → c < openings script.lines → EndsOnce script.lines c
  pub pieces : (above behind : List PlanLine) (c : ℕ) (bytes : List ℕ) → script.lines ≡ above ++ piece c bytes ∷ behind → (0 < length bytes) × ((i : ℕ) → get_or bytes i 0 < 256)
  pub writes : (c count : ℕ) (above behind : List PlanRule) → rules_of c script ≡ above ++ takes_most count ∷ behind → 0 < count

-- each line that moves a worker moves one that there is, among so many: one at least
abbrev pub MovesItsWorkers : ℕ → ScriptPlan → Type 0
MovesItsWorkers workers script = (above behind : List PlanLine) (w : ℕ) → script.lines ≡ above ++ turn_of_worker w ∷ behind → w < workers_among workers
