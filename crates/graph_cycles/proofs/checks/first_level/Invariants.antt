use Rattle.std.proofs.Common.{ℕ, ◌<◌, slice_index, slice_index_or}
use Rattle.graph_cycles.specs.Certified.{LeadsLower}
use Rattle.graph_cycles.proofs.checks.first_level.Given as goal

abbrev pub invariant-loop-node : goal.invariant-loop-node
invariant-loop-node l = (k : ℕ) (d : _) → k < l.node → LeadsLower l.labels (slice_index l.labels k) (slice_index_or l.graph k d).items
