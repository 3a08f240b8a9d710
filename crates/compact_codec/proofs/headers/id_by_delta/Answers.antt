use Rattle.std.proofs.Common.{arith}
use Rattle.std.proofs.lemmas.Bool.Decides.{nat_tests}
use Rattle.std.proofs.lemmas.Int.{ints}
use Rattle.compact_codec.proofs.headers.id_by_delta.Goals as goal

pub returns : goal.returns
returns c = grind (arith, ints, nat_tests)
