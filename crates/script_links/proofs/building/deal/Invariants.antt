use Rattle.std.proofs.Common.{◌≡◌, map}
use Rattle.script_text.specs.Plans.{plain_line}
use Rattle.script_links.specs.Steps.{step_of}
use Rattle.script_links.specs.Fresh.{dealt}
use Rattle.script_links.proofs.building.deal.Given as goal

abbrev pub invariant-lines : goal.invariant-lines
invariant-lines l =
    (l.steps.items ≡ map step_of (map plain_line l.yielded)) × (l.rows.items ≡ dealt (map plain_line l.yielded) l.initial.rows.items)
