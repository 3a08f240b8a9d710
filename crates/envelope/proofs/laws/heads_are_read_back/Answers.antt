use Rattle.envelope.proofs.Heads.{read_back}
use Rattle.envelope.proofs.laws.heads_are_read_back.Goals as goal

pub returns : goal.returns
returns c = read_back
