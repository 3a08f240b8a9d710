use Rattle.host_model.proofs.Framing.{a_split, only_split}
use Rattle.host_model.proofs.laws.one_split.Goals as goal

pub returns-clause-split : goal.returns-clause-split
returns-clause-split c = a_split

pub returns-clause-only : goal.returns-clause-only
returns-clause-only c = only_split
