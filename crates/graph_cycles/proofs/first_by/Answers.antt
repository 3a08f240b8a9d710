use Rattle.std.proofs.Common.{map, suc, refl, arith}
use Rattle.graph_cycles.proofs.Falling.{no_cycle}
use Rattle.graph_cycles.proofs.first_by.Goals as goal

pub returns-in-None : goal.returns-in-None
returns-in-None c = λ k cycle. no_cycle (map (λ row. row.items) c.args.graph.now) c.args.labels.now (suc k) (c.if-not-rises_nowhere.ensures refl)
    (c.in-None.ensures (suc k)) k (omega arith) cycle

pub returns-then-is_cycle : goal.returns-then-is_cycle
returns-then-is_cycle c = (
  (c.as_slice.result.now, c.if-is_cycle.ensures refl),
  λ j l cycle. no_cycle (map (λ row. row.items) c.args.graph.now) c.args.labels.now c.in-Some.node (c.if-not-rises_nowhere.ensures refl) c.in-Some.ensures j
      (let h = c.in-Ok.ensures in omega arith) cycle,
)
