use Rattle.std.proofs.Common.{map, subst, ap, ◌∙◌}
use Rattle.graph_cycles.specs.Walks.{Graph, OnCycle, IsLowest}
use Rattle.check_passes.proofs.program.typedef_on_cycle.Goals as goal

pub returns : goal.returns
returns c =
    let P : Graph → Type 0 = λ graph. IsLowest (OnCycle graph) c.in_ok-first.first in
    subst P (ap (map (λ row. row.items)) c.as_slice-2.ensures.value ∙ c.in_ok-rows.ensures) c.in_ok-first.ensures
