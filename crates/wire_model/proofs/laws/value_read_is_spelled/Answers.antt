use Rattle.wire_model.proofs.Taking.{value_taken}
use Rattle.wire_model.proofs.laws.value_read_is_spelled.Goals as goal

pub returns : goal.returns
returns g c levels tag before after x fits e = value_taken g.P.WireProtocol.wire g.P.WireProtocol.format g.P.WireProtocol.encoder c.parts_agree.ensures levels tag before after x fits e
