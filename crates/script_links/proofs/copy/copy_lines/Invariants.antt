use Rattle.std.proofs.Common.{◌≡◌, ◌≤◌, ◌-◌, length, take}
use Rattle.script_links.proofs.copy.copy_lines.Given as goal

abbrev pub invariant-lines : goal.invariant-lines
invariant-lines l = (l.copy.items ≡ take (length l.copy.items) l.fn.lines) × (length l.copy.items ≤ length l.fn.lines)

abbrev pub decreases-lines : goal.decreases-lines
decreases-lines l = length l.fn.lines - length l.copy.items
