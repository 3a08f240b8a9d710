use Rattle.std.proofs.Common.{◌≡◌, ◌++◌, map}
use Rattle.script_model.specs.ScriptLines.{input_end, count_up}
use Rattle.script_text.specs.Plans.{plain_line}
use Rattle.workload.proofs.lines.put_ends.Given as goal

abbrev pub invariant-loop-c : goal.invariant-loop-c
invariant-loop-c l = map plain_line l.into.items ≡ map plain_line l.fn.into.items ++ map input_end (count_up 0 l.c)
