use Rattle.std.proofs.Common.{refl, slice_index, arith}
use Rattle.graph_cycles.specs.Certified.{LeadsNoHigher}
use Rattle.graph_cycles.proofs.Rows.{of_each_row}
use Rattle.graph_cycles.proofs.checks.rises_nowhere.Goals as goal

pub returns : goal.returns
returns c = λ t. of_each_row (λ row. row.items) (λ a row. LeadsNoHigher c.args.labels.now (slice_index c.args.labels.now a) row) (λ a. refl) c.args.graph.now
    (λ k d l. c.loop-node.invariant k d (let h = c.loop-node-test.false in omega arith))
