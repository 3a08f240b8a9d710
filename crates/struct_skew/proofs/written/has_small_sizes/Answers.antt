use Rattle.std.specs.Bool.{one_answer}
use Rattle.thrift_value.specs.TreeOf.{tree_of}
use Rattle.struct_skew.specs.TidyTests.{has_small_sizes}
use Rattle.struct_skew.proofs.Deciding.{decides_sizes}
use Rattle.struct_skew.proofs.written.has_small_sizes.Goals as goal

pub returns : goal.returns
returns c = one_answer c.has_small_sizes.result (has_small_sizes (tree_of c.args.value.now)) c.has_small_sizes.ensures (decides_sizes (tree_of c.args.value.now))
