use Rattle.thrift_value.specs.Plain.{plain}
use Rattle.wire_model.specs.Encoder.{text}
use Rattle.wire_model.proofs.Places.{place_written}
use Rattle.wire_model.proofs.Encoding.{value_written}
use Rattle.wire_model.proofs.laws.written_is_read.Goals as goal

pub returns : goal.returns
returns g c x front more tagged range sizes bounds =
    place_written g.P.WireProtocol.wire g.P.WireProtocol.format g.P.WireProtocol.encoder c.parts_agree.ensures x (plain x) (c.plain_value_is_alike.ensures.measures x) (text g.P.WireProtocol.encoder x) front more
    (value_written g.P.WireProtocol.wire g.P.WireProtocol.format g.P.WireProtocol.encoder c.parts_agree.ensures c.plain_value_is_alike.ensures.measures x tagged range sizes) bounds
