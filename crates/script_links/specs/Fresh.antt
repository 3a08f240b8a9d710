-- Links over a script before anything has happened.
use Rattle.std.specs.Prelude.{◌≡◌, ℕ, ◌<◌, false, None, List, [], ◌∷◌, ◌++◌, map, take, length, slice_set, slice_index_or}
use Rattle.script_model.specs.ScriptLines.{PlanLine, opening, piece, input_end, input_fault, resting, turn_of_conn, turn_of_worker, turn_of_outcome, PlanRule, ScriptPlan, pieces_on, rules_of}
use Rattle.script_links.specs.declared.link.LinkStage.TheVariants.{Coming}
use Rattle.script_links.specs.ServedScript.{PlainLink, ServedScript, link_at}
use Rattle.script_links.specs.Steps.{step_of}

-- a connection that is to be opened, with these pieces to come and these rules
abbrev pub fresh_link : List (List ℕ) → List PlanRule → PlainLink
fresh_link pieces rules = record { stage = Coming; brought = pieces; pieces = pieces; arrived = 0; finish = None; ruled = rules; rules = rules; faults = 0; written = [] }

-- All lines are to be done; each connection is to come, and all that the script gives it.
pub record IsFresh (script : ScriptPlan) (s : ServedScript) : Type 0 where
  pub lines : s.lines ≡ map step_of script.lines
  pub steps : s.steps ≡ s.lines
  pub opened : s.opened ≡ 0
  pub count : length s.links ≡ length script.rules
  pub each : (c : ℕ) → c < length s.links → link_at s.links c ≡ fresh_link (pieces_on c script.lines) (rules_of c script)
  pub blocked : s.blocked ≡ []
  pub over : s.over ≡ false
  pub tape : s.tape ≡ []
  pub rests : s.rests ≡ []
  pub lengths : s.lengths ≡ []

-- Nothing has happened: all lines are to be done, and each connection is to come, with all that it is brought.
pub record HaveNotBegun (s : ServedScript) : Type 0 where
  pub steps : s.steps ≡ s.lines
  pub opened : s.opened ≡ 0
  pub each : (c : ℕ) → c < length s.links → link_at s.links c ≡ fresh_link (link_at s.links c).brought (link_at s.links c).ruled
  pub blocked : s.blocked ≡ []
  pub over : s.over ≡ false
  pub tape : s.tape ≡ []
  pub rests : s.rests ≡ []
  pub lengths : s.lengths ≡ []

-- only the first connections, so many at most
abbrev pub first_connections : ℕ → ServedScript → ServedScript
first_connections most s = record s { links = take most s.links }

-- a piece is added to the row of connection c
abbrev pub with_piece : ℕ → List ℕ → List (List (List ℕ)) → List (List (List ℕ))
with_piece c bytes rows = slice_set rows c (slice_index_or rows c [] ++ bytes ∷ [])

-- what a line adds to the rows
abbrev pub with_line : PlanLine → List (List (List ℕ)) → List (List (List ℕ))
with_line (piece c bytes) rows = with_piece c bytes rows
with_line opening rows = rows
with_line (input_end c) rows = rows
with_line (input_fault c) rows = rows
with_line resting rows = rows
with_line (turn_of_conn c) rows = rows
with_line (turn_of_worker w) rows = rows
with_line turn_of_outcome rows = rows

-- what lines add
abbrev pub dealt : List PlanLine → List (List (List ℕ)) → List (List (List ℕ))
dealt [] rows = rows
dealt (line ∷ lines) rows = dealt lines (with_line line rows)

-- connections to come, of these rows and rules
abbrev pub fresh_links : List (List (List ℕ)) → List (List PlanRule) → List PlainLink
fresh_links (row ∷ rows) (rules ∷ more) = fresh_link row rules ∷ fresh_links rows more
fresh_links [] rules = []
fresh_links (row ∷ rows) [] = []
