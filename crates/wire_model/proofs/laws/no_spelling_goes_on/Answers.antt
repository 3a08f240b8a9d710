use Rattle.wire_model.proofs.Places.{one_value}
use Rattle.wire_model.proofs.laws.no_spelling_goes_on.Goals as goal

pub returns : goal.returns
returns g c = one_value g.P.WireProtocol.wire g.P.WireProtocol.format g.P.WireProtocol.encoder c.parts_agree.ensures
