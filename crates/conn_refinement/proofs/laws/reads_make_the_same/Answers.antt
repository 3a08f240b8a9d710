use Rattle.conn_refinement.proofs.Taking.{took_is_read}
use Rattle.conn_refinement.proofs.laws.reads_make_the_same.Goals as goal

pub returns : goal.returns
returns c max view conn bytes small reading tied most are = took_is_read max view conn bytes small reading tied most are
