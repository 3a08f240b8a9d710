use Rattle.wire_model.proofs.Giving.{spelled_given}
use Rattle.wire_model.proofs.laws.value_spelled_is_read.Goals as goal

pub returns : goal.returns
returns g c = spelled_given g.P.WireProtocol.wire g.P.WireProtocol.format g.P.WireProtocol.encoder c.parts_agree.ensures
