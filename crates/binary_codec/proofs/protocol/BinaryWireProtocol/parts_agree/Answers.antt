use Rattle.binary_codec.proofs.Agree.{leaves_agree}
use Rattle.binary_codec.proofs.protocol.BinaryWireProtocol.parts_agree.Goals as goal

pub returns : goal.returns
returns c = leaves_agree
