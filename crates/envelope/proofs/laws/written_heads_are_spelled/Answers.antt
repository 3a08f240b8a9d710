use Rattle.envelope.proofs.Heads.{written_is_spelled}
use Rattle.envelope.proofs.laws.written_heads_are_spelled.Goals as goal

pub returns : goal.returns
returns c = written_is_spelled
