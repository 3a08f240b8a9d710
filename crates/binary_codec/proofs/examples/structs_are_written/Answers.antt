use Rattle.std.proofs.Common.{refl}
use Rattle.binary_codec.proofs.examples.structs_are_written.Goals as goal

pub returns-clause-numbers : goal.returns-clause-numbers
returns-clause-numbers c = refl

pub returns-clause-own_tag : goal.returns-clause-own_tag
returns-clause-own_tag c = refl

pub returns-clause-map : goal.returns-clause-map
returns-clause-map c = refl

pub returns-clause-signed : goal.returns-clause-signed
returns-clause-signed c = refl

pub returns-clause-bools : goal.returns-clause-bools
returns-clause-bools c = refl

pub returns-clause-uuid : goal.returns-clause-uuid
returns-clause-uuid c = refl

pub returns-clause-double : goal.returns-clause-double
returns-clause-double c = refl
