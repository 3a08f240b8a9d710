use Rattle.std.proofs.Common.{refl, slice_index, arith}
use Rattle.graph_cycles.specs.Certified.{LeadsLower}
use Rattle.graph_cycles.proofs.Rows.{of_first_rows}
use Rattle.graph_cycles.proofs.checks.first_level.Goals as goal

pub returns-then-not-leads_lower : goal.returns-then-not-leads_lower
returns-then-not-leads_lower c =
    of_first_rows (λ row. row.items) (λ a row. LeadsLower c.args.labels.now (slice_index c.args.labels.now a) row) (λ a. refl) c.args.graph.now c.loop-node.node
    (λ k d l m. c.loop-node.invariant k d m)

pub returns : goal.returns
returns c = λ count. of_first_rows (λ row. row.items) (λ a row. LeadsLower c.args.labels.now (slice_index c.args.labels.now a) row) (λ a. refl) c.args.graph.now count
    (λ k d l m. c.loop-node.invariant k d (let h = c.loop-node-test.false in omega arith))
