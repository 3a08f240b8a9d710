use Rattle.std.proofs.Common.{drop, map}
use Rattle.graph_cycles.specs.Walks.{Walk}
use Rattle.graph_cycles.proofs.checks.is_cycle.Given as goal

abbrev pub invariant-loop-next : goal.invariant-loop-next
invariant-loop-next l =
    Walk (map (λ row. row.items) l.graph) l.last (drop l.next-index l.between) l.node → Walk (map (λ row. row.items) l.graph) l.node l.between l.node
