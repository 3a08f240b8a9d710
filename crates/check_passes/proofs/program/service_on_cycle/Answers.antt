use Rattle.std.proofs.Common.{map, subst, ap, ◌∙◌}
use Rattle.graph_cycles.specs.Walks.{Graph, OnCycle, IsLowest}
use Rattle.check_passes.proofs.program.service_on_cycle.Goals as goal

pub returns : goal.returns
returns c program same =
    let P : Graph → Type 0 = λ graph. IsLowest (OnCycle graph) c.in_ok-first.first in
    subst P (ap (map (λ row. row.items)) c.as_slice.ensures.value ∙ c.in_ok-rows.ensures.graph program same) c.in_ok-first.ensures
