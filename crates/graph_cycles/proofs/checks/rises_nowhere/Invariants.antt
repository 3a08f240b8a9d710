use Rattle.std.proofs.Common.{ℕ, ◌<◌, slice_index, slice_index_or}
use Rattle.graph_cycles.specs.Certified.{LeadsNoHigher}
use Rattle.graph_cycles.proofs.checks.rises_nowhere.Given as goal

abbrev pub invariant-loop-node : goal.invariant-loop-node
invariant-loop-node l = (k : ℕ) (d : _) → k < l.node → LeadsNoHigher l.labels (slice_index l.labels k) (slice_index_or l.graph k d).items
