use Rattle.std.proofs.Common.{◌≡◌, ◌≤◌, ◌-◌, List, [], ℕ, length, replicate}
use Rattle.script_links.proofs.building.empty_rows.Given as goal

abbrev pub invariant-rows : goal.invariant-rows
invariant-rows l = (l.rows.items ≡ replicate (length l.rows.items) []) × (length l.rows.items ≤ l.count)

abbrev pub decreases-rows : goal.decreases-rows
decreases-rows l = l.count - length l.rows.items
