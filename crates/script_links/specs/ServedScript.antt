-- What is kept of a script that links serve: of each connection what the script still gives it, and what has happened.
use Rattle.std.specs.Prelude.{ℕ, ◌-◌, ◌^◌, Bool, true, false, ◌&&◌, nat_lt, nat_le, Option, None, List, [], slice_index_or, slice_set, length, sum_by}
use Rattle.std.specs.List.{list_all}
use Rattle.streams.specs.declared.marks.Mark.{Mark}
use Rattle.streams.specs.declared.rest_place.RestPlace.{RestPlace}
use Rattle.script_model.specs.ScriptLines.{PlanRule, takes_most, blocks, fails}
use Rattle.script_model.specs.Playing.{InputFinish}
use Rattle.script_links.specs.declared.link.LinkStage.{LinkStage}
use Rattle.script_links.specs.declared.link.LinkStage.TheVariants.{Coming, Open, Ended, Closed}
use Rattle.script_links.specs.declared.step.Step.{Step}

-- A connection: how it stands; all pieces that the script brings it, those of them that aren't read, and how many of these have arrived; what comes after
-- them, once that line was done; all rules, and those that are left; how many faults were counted; and what was written to it.
pub record PlainLink : Type 0 where
  pub stage : LinkStage
  pub brought : List (List ℕ)
  pub pieces : List (List ℕ)
  pub arrived : ℕ
  pub finish : Option InputFinish
  pub ruled : List PlanRule
  pub rules : List PlanRule
  pub faults : ℕ
  pub written : List ℕ

-- Links over a script: the steps of all its lines, and of those that are left; how many connections were opened; the connections; those of which a write wasn't possible, which
-- is to be told; whether it was said that all is over; the tape, the places of rest, and the lengths of what was lent for bytes.
pub record ServedScript : Type 0 where
  pub lines : List Step
  pub steps : List Step
  pub opened : ℕ
  pub links : List PlainLink
  pub blocked : List ℕ
  pub over : Bool
  pub tape : List Mark
  pub rests : List RestPlace
  pub lengths : List ℕ

-- a connection that there isn't
abbrev pub no_link : PlainLink
no_link = record { stage = Closed; brought = []; pieces = []; arrived = 0; finish = None; ruled = []; rules = []; faults = 0; written = [] }

-- the connection of this number
abbrev pub link_at : List PlainLink → ℕ → PlainLink
link_at links c = slice_index_or links c no_link

-- the connections with this one changed so
abbrev pub with_link : ℕ → (PlainLink → PlainLink) → List PlainLink → List PlainLink
with_link c change links = slice_set links c (change (link_at links c))

-- it isn't opened yet
abbrev pub is_coming : LinkStage → Bool
is_coming Coming = true
is_coming _ = false

-- it is open
abbrev pub is_open_stage : LinkStage → Bool
is_open_stage Coming = false
is_open_stage Open = true
is_open_stage Ended = true
is_open_stage Closed = false

-- it is open, and no end and no fault of it was marked
abbrev pub is_fit_for_end : LinkStage → Bool
is_fit_for_end Coming = false
is_fit_for_end Open = true
is_fit_for_end Ended = false
is_fit_for_end Closed = false

-- it is closed
abbrev pub is_closed_stage : LinkStage → Bool
is_closed_stage Closed = true
is_closed_stage _ = false

-- connection c is open
abbrev pub is_open_at : List PlainLink → ℕ → Bool
is_open_at links c = is_open_stage (link_at links c).stage

-- For how many marks there is room: of a connection that is to come, its opening, one of its end or of a fault, and its closing.
abbrev pub marks_owed_at : LinkStage → ℕ
marks_owed_at Coming = 3
marks_owed_at Open = 2
marks_owed_at Ended = 1
marks_owed_at Closed = 0

-- for how many marks there is room on all connections
abbrev pub marks_owed : List PlainLink → ℕ
marks_owed links = sum_by (λ link. marks_owed_at link.stage) links

-- a write under this rule takes a byte, where it takes any
abbrev pub lets_some : PlanRule → Bool
lets_some (takes_most count) = nat_lt 0 count
lets_some blocks = true
lets_some fails = true

-- a piece has a byte
abbrev pub has_bytes : List ℕ → Bool
has_bytes piece = nat_lt 0 (length piece)

-- no piece is empty, no more have arrived than there are, no rule lets a write take nothing, and the count of faults is one in memory
abbrev pub is_sound_link : PlainLink → Bool
is_sound_link link = list_all has_bytes link.pieces && (nat_le link.arrived (length link.pieces) && (list_all lets_some link.rules && nat_le link.faults (2 ^ 64 - 1)))
