use Rattle.schema.proofs.WholeLines.{whole_lineage}
use Rattle.schema.proofs.laws.a_lineage_is_whole.Goals as goal

pub returns : goal.returns
returns c = whole_lineage
