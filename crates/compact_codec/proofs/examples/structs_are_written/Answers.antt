use Rattle.std.proofs.Common.{refl}
use Rattle.compact_codec.proofs.examples.structs_are_written.Goals as goal

pub returns-clause-numbers : goal.returns-clause-numbers
returns-clause-numbers c = refl

pub returns-clause-success : goal.returns-clause-success
returns-clause-success c = refl

pub returns-clause-headers : goal.returns-clause-headers
returns-clause-headers c = refl

pub returns-clause-map : goal.returns-clause-map
returns-clause-map c = refl

pub returns-clause-own_tag : goal.returns-clause-own_tag
returns-clause-own_tag c = refl

pub returns-clause-empty_map : goal.returns-clause-empty_map
returns-clause-empty_map c = refl

pub returns-clause-signed : goal.returns-clause-signed
returns-clause-signed c = refl

pub returns-clause-uuid : goal.returns-clause-uuid
returns-clause-uuid c = refl

pub returns-clause-double : goal.returns-clause-double
returns-clause-double c = refl
