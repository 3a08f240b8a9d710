use Rattle.check_model.proofs.OneVerdict.{no_flaw_beside}
use Rattle.check_model.proofs.laws.a_schema_excludes_a_flaw.Goals as goal

pub returns : goal.returns
returns c = λ program schema flaw p q. no_flaw_beside program flaw p.faultless q
