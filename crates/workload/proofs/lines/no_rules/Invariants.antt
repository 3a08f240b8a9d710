use Rattle.std.proofs.Common.{◌≡◌, [], map, replicate}
use Rattle.script_text.specs.Plans.{plain_rules}
use Rattle.workload.proofs.lines.no_rules.Given as goal

abbrev pub invariant-loop : goal.invariant-loop
invariant-loop l = map plain_rules l.rules.items ≡ replicate l.counter []
