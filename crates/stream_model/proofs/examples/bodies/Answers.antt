use Rattle.std.proofs.Common.{refl}
use Rattle.binary_codec.specs.Codes.{tag_of_code}
use Rattle.stream_model.proofs.examples.bodies.Goals as goal

pub returns-clause-code : goal.returns-clause-code
unfolding tag_of_code
returns-clause-code c = refl

pub returns-clause-size : goal.returns-clause-size
unfolding tag_of_code
returns-clause-size c = refl

pub returns-clause-long : goal.returns-clause-long
unfolding tag_of_code
returns-clause-long c = refl

pub returns-clause-items : goal.returns-clause-items
unfolding tag_of_code
returns-clause-items c = refl

pub returns-clause-empty : goal.returns-clause-empty
unfolding tag_of_code
returns-clause-empty c = refl
