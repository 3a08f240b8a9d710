use Rattle.wire_model.proofs.Encoding.{value_written}
use Rattle.wire_model.proofs.laws.written_is_spelled.Goals as goal

pub returns : goal.returns
returns g c x = value_written g.P.WireProtocol.wire g.P.WireProtocol.format g.P.WireProtocol.encoder c.parts_agree.ensures c.plain_value_is_alike.ensures.measures x
