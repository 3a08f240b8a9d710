use Rattle.wire_model.proofs.Raws.{raw_value}
use Rattle.wire_model.proofs.laws.spelled_value_is_raw.Goals as goal

pub returns : goal.returns
returns g c = raw_value g.P.WireProtocol.wire g.P.WireProtocol.format g.P.WireProtocol.encoder c.parts_agree.ensures
