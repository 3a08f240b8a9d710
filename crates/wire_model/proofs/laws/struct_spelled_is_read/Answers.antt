use Rattle.wire_model.proofs.Places.{place_given}
use Rattle.wire_model.proofs.laws.struct_spelled_is_read.Goals as goal

pub returns : goal.returns
returns g c = place_given g.P.WireProtocol.wire g.P.WireProtocol.format g.P.WireProtocol.encoder c.parts_agree.ensures
