use Rattle.wire_model.proofs.Staying.{struct_fault_stays}
use Rattle.wire_model.proofs.laws.struct_fault_stays.Goals as goal

pub returns : goal.returns
returns g c = struct_fault_stays g.P.WireProtocol.wire c.parts_agree.ensures.stays
