use Rattle.std.proofs.Common.{◌≡◌, ◌++◌, map}
use Rattle.std.specs.List.{flat_map}
use Rattle.script_model.specs.ScriptLines.{count_up}
use Rattle.script_text.specs.Plans.{plain_line}
use Rattle.workload.specs.LoadPlan.{round}
use Rattle.workload.proofs.lines.put_rounds.Given as goal

abbrev pub invariant-loop-i : goal.invariant-loop-i
invariant-loop-i l = map plain_line l.into.items ≡ map plain_line l.fn.into.items ++ flat_map (round l.streams) (count_up 0 l.i)
