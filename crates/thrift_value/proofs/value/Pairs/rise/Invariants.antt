use Rattle.std.specs.Prelude.{◌↔◌}
use Rattle.std.proofs.Common.{◌-◌, drop, map}
use Rattle.thrift_value.specs.Tidy.{AreRisingPairs}
use Rattle.thrift_value.specs.TreeOf.{pair_tree, pair_trees, pairs_tree, pairs_of}
use Rattle.thrift_value.proofs.value.Pairs.rise.Given as goal

-- from the last pair that was looked at the keys rise exactly where all do
abbrev pub invariant-loop-i : goal.invariant-loop-i
invariant-loop-i l = AreRisingPairs (pair_trees (map pair_tree (drop (l.i - 1) (pairs_of l.self)))) ↔ AreRisingPairs (pairs_tree l.self)
