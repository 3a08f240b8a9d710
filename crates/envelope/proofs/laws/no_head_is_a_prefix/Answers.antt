use Rattle.envelope.proofs.Heads.{no_prefix, one_head}
use Rattle.envelope.proofs.laws.no_head_is_a_prefix.Goals as goal

pub returns : goal.returns
returns c = record { alone = no_prefix; one = one_head }
