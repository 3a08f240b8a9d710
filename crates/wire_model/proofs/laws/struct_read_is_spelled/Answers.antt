use Rattle.wire_model.proofs.Places.{place_taken}
use Rattle.wire_model.proofs.laws.struct_read_is_spelled.Goals as goal

pub returns : goal.returns
returns g c = place_taken g.P.WireProtocol.wire g.P.WireProtocol.format g.P.WireProtocol.encoder c.parts_agree.ensures
