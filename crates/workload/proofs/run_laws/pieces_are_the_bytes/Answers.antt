use Rattle.workload.proofs.Pieces.{pieces_joined}
use Rattle.workload.proofs.run_laws.pieces_are_the_bytes.Goals as goal

pub returns : goal.returns
returns c = λ seed size conn within. pieces_joined seed size conn within
