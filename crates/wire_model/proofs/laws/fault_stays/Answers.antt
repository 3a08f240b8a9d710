use Rattle.wire_model.proofs.Staying.{value_fault_stays}
use Rattle.wire_model.proofs.laws.fault_stays.Goals as goal

pub returns : goal.returns
returns g c = value_fault_stays g.P.WireProtocol.wire c.parts_agree.ensures.stays
