-- What a rehearsal in memory was given, as its laws ask for it.
use Rattle.std.proofs.Common.{◌≡◌, ℕ, ◌≤◌, List, map, length, sym, ◌∙◌, subst, arith}
use Rattle.std.proofs.lemmas.List.{length-map}
use Rattle.std.specs.List.{AllByRecursion}
use Rattle.streams.specs.declared.marks.Mark.{Mark}
use Rattle.streams.specs.Cause.{Rose}
use Rattle.script_model.specs.ScriptLines.{PlanLine}
use Rattle.cell_loop.specs.Settings.{CellSetting}
use Rattle.cell_loop.specs.Moving.{all_lines}
use Rattle.cell_core.specs.Parts.{Parts}
use Rattle.cell_core.specs.Machines.{IsLineFor, HasCrew, ComesThrough}
use Rattle.cell_core.specs.Rehearsed.{AreWritten, AreWrittenOrNone}
use Rattle.call_rules.specs.Desks.{longest_payload}

-- the longest payload is no longer than payloads may be, and the budget has room for it
pub max_given : (max limit budget : ℕ) → max ≡ limit → limit ≤ budget → budget ≤ longest_payload → max ≤ longest_payload
max_given max limit budget same within few = omega arith

pub within_given : (max limit budget : ℕ) → max ≡ limit → limit ≤ budget → max ≤ budget
within_given max limit budget same within = omega arith

-- there is a slot for each handler's service
pub slots_given : {H X : Type 0} (service : H → X) (handlers : List H) (slots : ℕ) → length handlers ≡ slots → slots ≡ length (map service handlers)
slots_given service handlers slots same = sym same ∙ sym (length-map handlers service)

-- lines of a plan are good for a machine
pub lines_good : (feeds count workers : ℕ) (lines plan : List PlanLine) → count ≡ workers → lines ≡ plan → AllByRecursion (IsLineFor feeds workers) plan → AllByRecursion (IsLineFor feeds count) lines
lines_good feeds count workers lines plan same is good =
    subst (λ (ls : List PlanLine). AllByRecursion (IsLineFor feeds count) ls) (sym is) (subst (λ (n : ℕ). AllByRecursion (IsLineFor feeds n) plan) (sym same) good)

-- the lines that were done are those of the plan
pub plan_through : (s : CellSetting) (count : ℕ) (old new : Parts) (lines plan : List PlanLine) → lines ≡ plan → ComesThrough (HasCrew s.desk count) (λ t. all_lines t lines) old new
    → ComesThrough (HasCrew s.desk count) (λ t. all_lines t plan) old new
plan_through s count old new lines plan is through = subst (λ (ls : List PlanLine). ComesThrough (HasCrew s.desk count) (λ t. all_lines t ls) old new) is through

-- what was written is told of another tape and count that are the same
pub written_as : (count other : ℕ) (tape same : List Mark) (outs : List (List ℕ)) → count ≡ other → tape ≡ same → AreWritten other same outs → AreWritten count tape outs
written_as count other tape same outs counted is written =
    subst (λ (n : ℕ). AreWritten n tape outs) (sym counted) (subst (λ (t : List Mark). AreWritten other t outs) (sym is) written)

-- so is what was written or is left out
pub or_none_as : (count other : ℕ) (tape same : List Mark) (outs : List (List ℕ)) → count ≡ other → tape ≡ same → AreWrittenOrNone other same outs → AreWrittenOrNone count tape outs
or_none_as count other tape same outs counted is written =
    subst (λ (n : ℕ). AreWrittenOrNone n tape outs) (sym counted) (subst (λ (t : List Mark). AreWrittenOrNone other t outs) (sym is) written)

-- and a rise of two counts that are the same
pub rose_as : (a b c d : ℕ) → a ≡ b → c ≡ d → Rose b d → Rose a c
rose_as a b c d first last rose = subst (λ (n : ℕ). Rose n c) (sym first) (subst (Rose b) (sym last) rose)
