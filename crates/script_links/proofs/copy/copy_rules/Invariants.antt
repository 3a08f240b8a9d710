use Rattle.std.proofs.Common.{◌≡◌, ◌≤◌, ◌-◌, length, take}
use Rattle.script_links.proofs.copy.copy_rules.Given as goal

abbrev pub invariant-rules : goal.invariant-rules
invariant-rules l = (l.copy.items ≡ take (length l.copy.items) l.fn.rules) × (length l.copy.items ≤ length l.fn.rules)

abbrev pub decreases-rules : goal.decreases-rules
decreases-rules l = length l.fn.rules - length l.copy.items
