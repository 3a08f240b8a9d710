use Rattle.std.proofs.Common.{map}
use Rattle.std.specs.Bool.{one_answer}
use Rattle.thrift_value.specs.TreeOf.{pair_tree, pair_trees}
use Rattle.struct_skew.specs.TidyTests.{are_rising_pairs}
use Rattle.struct_skew.proofs.RisingParts.{pairs_rise}
use Rattle.struct_skew.proofs.rising.keys_rise.Goals as goal

pub returns : goal.returns
returns c = one_answer c.is_rising.result (are_rising_pairs (pair_trees (map pair_tree c.args.pairs.now))) c.is_rising.ensures (pairs_rise c.args.pairs.now)
