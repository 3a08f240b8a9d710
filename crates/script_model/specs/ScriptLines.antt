-- A script of many connections: its lines in order, and what they say of each connection.
use Rattle.std.specs.Prelude.{ℕ, zero, suc, ◌+◌, Bool, true, false, ◌||◌, ◌==◌, if◌then◌else◌, Option, List, [], ◌∷◌, filter, slice_get, slice_index_or}
use Rattle.std.specs.List.{flat_map}

-- a line: the next connection is opened; bytes arrive on a connection, its input ends, or a read after its pieces fails; nothing goes on until all calls
-- are done and their replies written; or, on schedule, one move of a connection, of a worker, or one outcome collected
pub data PlanLine : Type 0 where
  opening : PlanLine
  piece : (c : ℕ) (bytes : List ℕ) → PlanLine
  input_end : (c : ℕ) → PlanLine
  input_fault : (c : ℕ) → PlanLine
  resting : PlanLine
  turn_of_conn : (c : ℕ) → PlanLine
  turn_of_worker : (w : ℕ) → PlanLine
  turn_of_outcome : PlanLine

-- what a write comes to: it takes so many bytes at most, it isn't possible yet, or it fails
pub data PlanRule : Type 0 where
  takes_most : (count : ℕ) → PlanRule
  blocks : PlanRule
  fails : PlanRule

-- a script: its lines, and each connection's rules in order
pub record ScriptPlan : Type 0 where
  pub lines : List PlanLine
  pub rules : List (List PlanRule)

-- one connection, where a line opens one
abbrev pub one_if_opens : PlanLine → ℕ
one_if_opens opening = 1
one_if_opens _ = 0

-- how many connections are opened
abbrev pub openings : List PlanLine → ℕ
openings [] = 0
openings (line ∷ lines) = one_if_opens line + openings lines

-- the piece of connection c that a line brings
abbrev pub piece_by : ℕ → PlanLine → List (List ℕ)
piece_by c (piece x bytes) = if x == c then bytes ∷ [] else []
piece_by c _ = []

-- the pieces of connection c
abbrev pub pieces_on : ℕ → List PlanLine → List (List ℕ)
pieces_on c lines = flat_map (piece_by c) lines

-- a line ends the input of connection c
abbrev pub ends_input : ℕ → PlanLine → Bool
ends_input c (input_end x) = x == c
ends_input c _ = false

-- a line lets its read fail
abbrev pub fails_input : ℕ → PlanLine → Bool
fails_input c (input_fault x) = x == c
fails_input c _ = false

-- some line does so
abbrev pub some_line : (PlanLine → Bool) → List PlanLine → Bool
some_line test [] = false
some_line test (line ∷ lines) = test line || some_line test lines

-- the rules of connection c
abbrev pub rules_of : ℕ → ScriptPlan → List PlanRule
rules_of c script = slice_index_or script.rules c []

-- a rule governs a write that is made
abbrev pub governs : PlanRule → Bool
governs blocks = false
governs _ = true

-- the rule of write number k of connection c that is made, where there is one
abbrev pub rule_of : ScriptPlan → ℕ → ℕ → Option PlanRule
rule_of script c k = slice_get (filter governs (rules_of c script)) k

-- n numbers from this one on
abbrev pub count_up : ℕ → ℕ → List ℕ
count_up from zero = []
count_up from (suc n) = from ∷ count_up (suc from) n
