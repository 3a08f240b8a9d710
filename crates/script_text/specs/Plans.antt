-- The lines and rules of a script in memory, as the definitions see them.
use Rattle.std.specs.Prelude.{List, map}
use Rattle.script_model.specs.ScriptLines.{PlanLine, opening, piece, input_end, input_fault, resting, turn_of_conn, turn_of_worker, turn_of_outcome, PlanRule, takes_most, blocks, fails, ScriptPlan}
use Rattle.script_text.specs.declared.lines.ScriptLine.{ScriptLine as LineKept}
use Rattle.script_text.specs.declared.lines.ScriptLine.TheVariants.{Opens, Piece as PieceKept, Ends, FailsRead, Rest, Loop, Work, Collect}
use Rattle.script_text.specs.declared.lines.WriteRule.{WriteRule as RuleKept}
use Rattle.script_text.specs.declared.lines.WriteRule.TheVariants.{Takes, Block, Fails as FailsKept}

-- a line
abbrev pub plain_line : LineKept → PlanLine
plain_line Opens = opening
plain_line (PieceKept c bytes) = piece c bytes
plain_line (Ends c) = input_end c
plain_line (FailsRead c) = input_fault c
plain_line Rest = resting
plain_line (Loop c) = turn_of_conn c
plain_line (Work w) = turn_of_worker w
plain_line Collect = turn_of_outcome

-- a rule
abbrev pub plain_rule : RuleKept → PlanRule
plain_rule (Takes count) = takes_most count
plain_rule Block = blocks
plain_rule FailsKept = fails

-- the rules of a connection
abbrev pub plain_rules : List RuleKept → List PlanRule
plain_rules rules = map plain_rule rules

-- a script
abbrev pub plan_of : List LineKept → List (List RuleKept) → ScriptPlan
plan_of lines rules = record { lines = map plain_line lines; rules = map plain_rules rules }
