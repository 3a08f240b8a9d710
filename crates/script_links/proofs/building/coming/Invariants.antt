use Rattle.std.proofs.Common.{◌≡◌, map, length, drop}
use Rattle.script_text.specs.Plans.{plain_rules}
use Rattle.script_links.specs.Fresh.{fresh_links}
use Rattle.script_links.specs.Kept.{plain_links}
use Rattle.script_links.proofs.building.coming.Given as goal

abbrev pub invariant-rules : goal.invariant-rules
invariant-rules l =
    (plain_links l.items.items ≡ fresh_links l.fn.rows.items (map plain_rules l.yielded)) × (l.left.items ≡ drop (length l.yielded) l.fn.rows.items)
    × (length l.items.items ≡ length l.yielded)
