use Rattle.std.proofs.Common.{arith}
use Rattle.std.proofs.lemmas.Int.{ints}
use Rattle.compact_codec.proofs.headers.short_delta.Goals as goal

pub returns-in-1-to-15-clause-half : goal.returns-in-1-to-15-clause-half
returns-in-1-to-15-clause-half c = omega (arith, ints)
