use Rattle.std.specs.Bool.{one_answer}
use Rattle.thrift_value.specs.TreeOf.{tree_of}
use Rattle.struct_skew.specs.TidyTests.{is_tidy}
use Rattle.struct_skew.proofs.Deciding.{decides_tidy}
use Rattle.client_desk.proofs.arguments.is_tidy.Goals as goal

pub returns : goal.returns
returns c = one_answer c.is_tidy.result (is_tidy (tree_of c.args.value.now)) c.is_tidy.ensures (decides_tidy (tree_of c.args.value.now))
