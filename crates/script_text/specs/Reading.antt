-- The reading of a script, line by line: what was read so far, and the first fault.
use Rattle.std.specs.Prelude.{ℕ, ◌+◌, max, nat_lt, nat_le, Bool, true, false, not, ◌&&◌, List, [], ◌∷◌, ◌++◌, length, slice_index_or, slice_set, Option, None, Some, Result, Ok, Err, if◌then◌else◌}
use Rattle.std.specs.List.{list_any}
use Rattle.script_model.specs.ScriptLines.{PlanLine, opening, piece, input_end, input_fault, resting, turn_of_conn, turn_of_worker, turn_of_outcome, PlanRule, ScriptPlan}
use Rattle.script_text.specs.declared.fault.ScriptFault.{ScriptFault}
use Rattle.script_text.specs.declared.fault.ScriptKind.{ScriptKind}
use Rattle.script_text.specs.declared.fault.ScriptKind.TheVariants.{TooLong, BadLine, NoConnection, AfterEnd, NoEnd, TooMany, NoWorker, Schedule, Rest}
use Rattle.script_text.specs.TextLines.{longest_script, text_lines, is_passed_over}
use Rattle.script_text.specs.LineForms.{SaidLine, runs, rules_so, said_of}
pub use Rattle.limits.specs.Limits.{most_connections}

-- What was read so far: the lines that aren't rules, each connection's rules, and, for each connection, whether its input has ended or failed.
pub record ScriptSoFar : Type 0 where
  pub lines : List PlanLine
  pub rules : List (List PlanRule)
  pub over : List Bool

-- nothing was read yet
abbrev pub nothing_read : ScriptSoFar
nothing_read = record { lines = []; rules = []; over = [] }

-- the script that was read
abbrev pub plan_so_far : ScriptSoFar → ScriptPlan
plan_so_far so = record { lines = so.lines; rules = so.rules }

-- the connection that a line speaks of
abbrev pub conn_of_line : PlanLine → Option ℕ
conn_of_line (piece c bytes) = Some c
conn_of_line (input_end c) = Some c
conn_of_line (input_fault c) = Some c
conn_of_line (turn_of_conn c) = Some c
conn_of_line _ = None

-- the same of what is said
abbrev pub conn_said : SaidLine → Option ℕ
conn_said (runs line) = conn_of_line line
conn_said (rules_so c rule) = Some c

-- a line of a schedule
abbrev pub is_turn : PlanLine → Bool
is_turn (turn_of_conn c) = true
is_turn (turn_of_worker w) = true
is_turn turn_of_outcome = true
is_turn _ = false

-- what is said is one
abbrev pub is_turn_said : SaidLine → Bool
is_turn_said (runs line) = is_turn line
is_turn_said (rules_so c rule) = false

-- a line at which nothing goes on until all that is under way is done
abbrev pub is_resting : PlanLine → Bool
is_resting resting = true
is_resting _ = false

-- what is said is one
abbrev pub is_resting_said : SaidLine → Bool
is_resting_said (runs line) = is_resting line
is_resting_said (rules_so c rule) = false

-- it speaks of a connection that isn't opened above, where so many are
abbrev pub is_unopened : ℕ → Option ℕ → Bool
is_unopened opened None = false
is_unopened opened (Some c) = nat_le opened c

-- it speaks of a worker that there isn't: there is always worker 0
abbrev pub is_no_worker : ℕ → SaidLine → Bool
is_no_worker workers (runs (turn_of_worker w)) = nat_le (max workers 1) w
is_no_worker workers _ = false

-- the connection of a piece, or of an end of input
abbrev pub input_of : SaidLine → Option ℕ
input_of (runs (piece c bytes)) = Some c
input_of (runs (input_end c)) = Some c
input_of (runs (input_fault c)) = Some c
input_of _ = None

-- it is one behind the end of its connection's input
abbrev pub is_behind_end : List Bool → Option ℕ → Bool
is_behind_end over None = false
is_behind_end over (Some c) = slice_index_or over c false

-- it opens a connection too many
abbrev pub is_one_too_many : ℕ → SaidLine → Bool
is_one_too_many opened (runs opening) = nat_le most_connections opened
is_one_too_many opened _ = false

-- the first fault of a line behind those above it
abbrev pub fault_of_line : ℕ → Bool → Bool → List Bool → SaidLine → Option ScriptKind
fault_of_line workers schedule rest over said =
    if is_turn_said said && not schedule then Some Schedule
    else if is_resting_said said && not rest then Some Rest
    else if is_unopened (length over) (conn_said said) then Some NoConnection
    else if is_no_worker workers said then Some NoWorker
    else if is_behind_end over (input_of said) then Some AfterEnd
    else if is_one_too_many (length over) said then Some TooMany
    else None

-- it opens a connection
abbrev pub is_opening : PlanLine → Bool
is_opening opening = true
is_opening _ = false

-- the rules of a connection that a line opens: none yet
abbrev pub rules_opened : PlanLine → List (List PlanRule)
rules_opened line = if is_opening line then [] ∷ [] else []

-- the connections' inputs after a line
abbrev pub over_behind : PlanLine → List Bool → List Bool
over_behind opening over = over ++ false ∷ []
over_behind (input_end c) over = slice_set over c true
over_behind (input_fault c) over = slice_set over c true
over_behind _ over = over

-- connection c has one rule more
abbrev pub with_rule : ℕ → PlanRule → List (List PlanRule) → List (List PlanRule)
with_rule c rule rules = slice_set rules c (slice_index_or rules c [] ++ rule ∷ [])

-- what was read, and a line more
abbrev pub with_said : ScriptSoFar → SaidLine → ScriptSoFar
with_said so (runs line) = record { lines = so.lines ++ line ∷ []; rules = so.rules ++ rules_opened line; over = over_behind line so.over }
with_said so (rules_so c rule) = record so { rules = with_rule c rule so.rules }

-- it, where the line has no fault
abbrev pub unless_fault : ScriptSoFar → Option ScriptKind → Result ScriptSoFar ScriptKind
unless_fault so None = Ok so
unless_fault so (Some kind) = Err kind

-- what was read, and what a line says
abbrev pub read_said : ℕ → Bool → Bool → ScriptSoFar → Option SaidLine → Result ScriptSoFar ScriptKind
read_said workers schedule rest so None = Err BadLine
read_said workers schedule rest so (Some said) = unless_fault (with_said so said) (fault_of_line workers schedule rest so.over said)

-- what was read, and a line
abbrev pub read_line : ℕ → Bool → Bool → ScriptSoFar → List ℕ → Result ScriptSoFar ScriptKind
read_line workers schedule rest so line = if is_passed_over line then Ok so else read_said workers schedule rest so (said_of line)

-- a fault of some kind on the line with this number
abbrev pub fault_at : ℕ → ScriptKind → ScriptFault
fault_at number kind = record { line = number; kind = kind }

-- what stands behind the last line: each input has ended
abbrev pub at_end : ℕ → ScriptSoFar → Result ScriptSoFar ScriptFault
at_end number so = if list_any not so.over then Err (fault_at number NoEnd) else Ok so

-- the reading goes on behind a line without fault
abbrev pub reads_on : ℕ → (ScriptSoFar → Result ScriptSoFar ScriptFault) → Result ScriptSoFar ScriptKind → Result ScriptSoFar ScriptFault
reads_on number further (Ok so) = further so
reads_on number further (Err kind) = Err (fault_at number kind)

-- the reading of these lines, of which the first has this number
abbrev pub read_from : ℕ → Bool → Bool → ℕ → ScriptSoFar → List (List ℕ) → Result ScriptSoFar ScriptFault
read_from workers schedule rest number so [] = at_end number so
read_from workers schedule rest number so (line ∷ lines) =
    reads_on number (λ next. read_from workers schedule rest (number + 1) next lines) (read_line workers schedule rest so line)

-- the script of what was read
abbrev pub plan_read : Result ScriptSoFar ScriptFault → Result ScriptPlan ScriptFault
plan_read (Ok so) = Ok (plan_so_far so)
plan_read (Err fault) = Err fault

-- the script of a text's lines, or the first fault
abbrev pub plan_of_lines : ℕ → Bool → Bool → List (List ℕ) → Result ScriptPlan ScriptFault
plan_of_lines workers schedule rest lines = plan_read (read_from workers schedule rest 1 nothing_read lines)

-- the script of a text, or its first fault; for so many workers, with lines of a schedule or without, and with `rest` lines or without
abbrev pub script_of_text : ℕ → Bool → Bool → List ℕ → Result ScriptPlan ScriptFault
script_of_text workers schedule rest text =
    if nat_lt longest_script (length text) then Err (fault_at 0 TooLong) else plan_of_lines workers schedule rest (text_lines text)
