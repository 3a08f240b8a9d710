-- What links over a script have done of it, so far and once all is over.
use Rattle.std.specs.Prelude.{◌≡◌, ℕ, min, ◌+◌, ◌<◌, ◌≤◌, true, false, Some, List, [], ◌∷◌, ◌++◌, map, filter, length, drop, slice_get}
use Rattle.streams.specs.declared.marks.Mark.{Mark}
use Rattle.streams.specs.declared.rest_place.RestPlace.{RestPlace}
use Rattle.host_model.specs.Marks.{marks_of, input}
use Rattle.host_model.specs.Conversation.{IsPrefix}
use Rattle.machine_model.specs.OpenAtFronts.{opening_of, closing_of, marks_counted}
use Rattle.machine_model.specs.AtFronts.{IsOpenBehind}
use Rattle.script_model.specs.Arrival.{bytes_of_pieces, ends_from}
use Rattle.script_model.specs.Feeding.{piece_end}
use Rattle.script_model.specs.ScriptLines.{PlanLine, opening, piece, input_end, input_fault, resting, turn_of_conn, turn_of_worker, turn_of_outcome, PlanRule, ScriptPlan, openings, pieces_on, ends_input, fails_input, some_line, rules_of, governs, count_up}
use Rattle.script_model.specs.Playing.{finishes, faults}
use Rattle.script_model.specs.RestLines.{opened_in, TellsNoMore}
use Rattle.script_model.specs.Writing.{writes_in}
use Rattle.script_text.specs.Sound.{IsSoundPlan}
use Rattle.script_links.specs.declared.step.Step.{Step}
use Rattle.script_links.specs.ServedScript.{PlainLink, ServedScript, link_at, is_coming, is_open_stage, is_closed_stage}
use Rattle.script_links.specs.Steps.{step_of}
use Rattle.script_links.specs.Shows.{transfers_in, EachShowsItsScript}

-- one, where links rest at a line
abbrev pub one_if_rests : PlanLine → ℕ
one_if_rests resting = 1
one_if_rests _ = 0

-- at how many lines links rest
abbrev pub rests_in : List PlanLine → ℕ
rests_in [] = 0
rests_in (line ∷ lines) = one_if_rests line + rests_in lines

-- Links noted a place for the line of rest behind these lines: by then just the connections that these open were opened, and nothing of a later line was seen;
-- and all pieces were read of those that are open, but where some connection was held.
pub record HasRestedBehind (lines : List PlanLine) (tape : List Mark) (rests : List RestPlace) : Type 0 where
  pub front : List Mark
  pub back : List Mark
  pub split : tape ≡ front ++ back
  pub at : RestPlace
  pub noted : slice_get rests (rests_in lines) ≡ Some at
  pub place : at.place ≡ length front
  pub opened : opened_in front ≡ count_up 0 (openings lines)
  pub no_more : (c : ℕ) → TellsNoMore lines front c
  pub all_read : at.held ≡ false → (c : ℕ) → IsOpenBehind c front → input (marks_of c front) ≡ bytes_of_pieces (pieces_on c lines)

-- The tape, the places of rest and the lengths of links follow a script to its end: each connection was opened, in order; each mark is as the script says; what
-- was read of a connection is a beginning of its pieces; and a place was noted for each line of rest.
pub record FollowsScript (script : ScriptPlan) (tape : List Mark) (places : List RestPlace) (lengths : List ℕ) : Type 0 where
  pub opened : opened_in tape ≡ count_up 0 (openings script.lines)
  pub marks : EachShowsItsScript script script.lines lengths tape
  pub bytes : (c : ℕ) → IsPrefix (input (marks_of c tape)) (bytes_of_pieces (pieces_on c script.lines))
  pub rests : (before behind : List PlanLine) → script.lines ≡ before ++ resting ∷ behind → HasRestedBehind before tape places

-- What links were made of: the steps of all lines, how many connections there are, and what each is brought and is ruled by.
pub record LinksPlan : Type 0 where
  pub lines : List Step
  pub count : ℕ
  pub pieces : ℕ → List (List ℕ)
  pub rules : ℕ → List PlanRule

-- what these links were made of
abbrev pub plan_of_links : ServedScript → LinksPlan
plan_of_links s = record { lines = s.lines; count = length s.links; pieces = λ c. (link_at s.links c).brought; rules = λ c. (link_at s.links c).ruled }

-- Links that were made of this are those of this script, which is sound: its lines are theirs, and each connection is brought its pieces and has its rules.
pub record AreMadeOf (script : ScriptPlan) (plan : LinksPlan) : Type 0 where
  pub sound : IsSoundPlan script
  pub lines : plan.lines ≡ map step_of script.lines
  pub count : plan.count ≡ length script.rules
  pub pieces : (c : ℕ) → c < plan.count → plan.pieces c ≡ pieces_on c script.lines
  pub rules : (c : ℕ) → c < plan.count → plan.rules c ≡ rules_of c script

-- these are links of this script
abbrev pub AreLinksOf : ScriptPlan → ServedScript → Type 0
AreLinksOf script s = AreMadeOf script (plan_of_links s)

-- These are links of this script's first connections, so many at most: the lines of the others are passed over.
pub record AreFirstLinksOf (most : ℕ) (script : ScriptPlan) (s : ServedScript) : Type 0 where
  pub lines : s.lines ≡ map step_of script.lines
  pub count : length s.links ≡ min most (length script.rules)
  pub pieces : (c : ℕ) → c < length s.links → (link_at s.links c).brought ≡ pieces_on c script.lines
  pub rules : (c : ℕ) → c < length s.links → (link_at s.links c).ruled ≡ rules_of c script

-- Of all pieces these bytes were read, and these pieces are left, which end where the others do.
pub record LeavesPieces (all : List (List ℕ)) (read : List ℕ) (left : List (List ℕ)) : Type 0 where
  pub bytes : read ++ bytes_of_pieces left ≡ bytes_of_pieces all
  pub ends : (at : ℕ) → length read ≤ at → piece_end (ends_from 0 all) at ≡ piece_end (ends_from (length read) left) at

-- Connection c follows a script of which these lines are done and those are left: what was read of it leaves its pieces; those of the lines that are done have
-- arrived, but where it is closed; what comes after them was said by a line; each write used up the next rule that governs one; and it is open where the
-- tape says so.
pub record LinkFollows (script : ScriptPlan) (done left : List PlanLine) (tape : List Mark) (c : ℕ) (link : PlainLink) : Type 0 where
  pub leaves : LeavesPieces (pieces_on c script.lines) (input (marks_of c tape)) link.pieces
  pub arrived : is_closed_stage link.stage ≡ false → drop link.arrived link.pieces ≡ pieces_on c left
  pub seen : IsPrefix (input (marks_of c tape)) (bytes_of_pieces (pieces_on c done))
  pub ends : link.finish ≡ Some finishes → some_line (ends_input c) done ≡ true
  pub fails : link.finish ≡ Some faults → some_line (fails_input c) done ≡ true
  pub rules : filter governs link.rules ≡ drop (writes_in (marks_of c tape)) (filter governs (rules_of c script))
  pub is_open : IsOpenBehind c tape → is_open_stage link.stage ≡ true
  pub once : marks_counted opening_of (marks_of c tape) ≤ 1 + marks_counted closing_of (marks_of c tape)

-- Links follow this script so far, of which some lines are done, and others left.
pub record FollowsSoFar (script : ScriptPlan) (s : ServedScript) : Type 0 where
  pub done : List PlanLine
  pub left : List PlanLine
  pub split : script.lines ≡ done ++ left
  pub steps : s.steps ≡ map step_of left
  pub opened : s.opened ≡ openings done
  pub told : opened_in s.tape ≡ count_up 0 s.opened
  pub lent : length s.lengths ≡ transfers_in s.tape
  pub marks : EachShowsItsScript script done s.lengths s.tape
  pub each : (c : ℕ) → c < length s.links → LinkFollows script done left s.tape c (link_at s.links c)
  pub coming : (c : ℕ) → c < length s.links → s.opened ≤ c → is_coming (link_at s.links c).stage ≡ true
  pub came : (c : ℕ) → c < s.opened → is_coming (link_at s.links c).stage ≡ false
  pub none : (c : ℕ) → length s.links ≤ c → marks_of c s.tape ≡ []
  pub rest_count : length s.rests ≡ rests_in done
  pub rests : (before behind : List PlanLine) → done ≡ before ++ resting ∷ behind → HasRestedBehind before s.tape s.rests

-- links follow each script whose links they are
abbrev pub FollowsItsScript : ServedScript → Type 0
FollowsItsScript s = (script : ScriptPlan) → AreLinksOf script s → FollowsSoFar script s
