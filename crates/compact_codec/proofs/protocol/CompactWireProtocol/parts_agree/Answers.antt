use Rattle.compact_codec.proofs.Agree.{leaves_agree}
use Rattle.compact_codec.proofs.protocol.CompactWireProtocol.parts_agree.Goals as goal

pub returns : goal.returns
returns c = leaves_agree
