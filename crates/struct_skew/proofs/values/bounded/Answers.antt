use Rattle.std.proofs.Common.{arith}
use Rattle.thrift_value.specs.TreeOf.{tree_of}
use Rattle.struct_skew.proofs.Filling.{within_bounds}
use Rattle.struct_skew.proofs.values.bounded.Goals as goal

pub returns : goal.returns
returns c =
    within_bounds (tree_of c.args.value) (omega (arith, c.depth.ensures, c.if-depth-gt-MOST_LEVELS.false)) (omega (arith, c.count.ensures, c.if-count.false))
