use Rattle.std.proofs.Common.{◌≡◌, ◌++◌, map, replicate}
use Rattle.script_model.specs.ScriptLines.{opening}
use Rattle.script_text.specs.Plans.{plain_line}
use Rattle.workload.proofs.lines.put_openings.Given as goal

abbrev pub invariant-loop : goal.invariant-loop
invariant-loop l = map plain_line l.into.items ≡ map plain_line l.fn.into.items ++ replicate l.counter opening
