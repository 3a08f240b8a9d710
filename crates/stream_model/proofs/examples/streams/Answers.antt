use Rattle.std.proofs.Common.{refl}
use Rattle.binary_codec.specs.Codes.{tag_of_code}
use Rattle.stream_model.proofs.examples.streams.Goals as goal

pub returns-clause-body : goal.returns-clause-body
unfolding tag_of_code
returns-clause-body c = refl
