use Rattle.host_model.proofs.RightRuns.{replied, stopped}
use Rattle.host_model.proofs.examples.runs.Goals as goal

pub returns-clause-replied : goal.returns-clause-replied
returns-clause-replied c = replied

pub returns-clause-stopped : goal.returns-clause-stopped
returns-clause-stopped c = stopped
