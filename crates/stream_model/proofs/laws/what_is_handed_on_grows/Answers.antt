use Rattle.stream_model.proofs.Handing.{handed_grows, handed_stands}
use Rattle.stream_model.proofs.laws.what_is_handed_on_grows.Goals as goal

pub returns-clause-grows : goal.returns-clause-grows
returns-clause-grows c = handed_grows

pub returns-clause-stands : goal.returns-clause-stands
returns-clause-stands c = handed_stands
