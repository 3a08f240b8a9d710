use Rattle.std.proofs.Common.{refl}
use Rattle.binary_codec.specs.Codes.{tag_of_code}
use Rattle.stream_model.proofs.examples.messages.Goals as goal

pub returns-clause-add : goal.returns-clause-add
unfolding tag_of_code
returns-clause-add c = refl

pub returns-clause-exact : goal.returns-clause-exact
unfolding tag_of_code
returns-clause-exact c = refl

pub returns-clause-long : goal.returns-clause-long
unfolding tag_of_code
returns-clause-long c = refl

pub returns-clause-list : goal.returns-clause-list
unfolding tag_of_code
returns-clause-list c = refl

pub returns-clause-uuid : goal.returns-clause-uuid
unfolding tag_of_code
returns-clause-uuid c = refl
