use Rattle.machine_model.proofs.Singling.{may_apply, collected_once}
use Rattle.machine_model.proofs.laws.single_keys.Goals as goal

pub returns-clause-taken : goal.returns-clause-taken
returns-clause-taken g c r opening log front seat key payload call history allowed is slot = may_apply r opening log front seat key payload call history allowed is slot

pub returns-clause-collected : goal.returns-clause-collected
returns-clause-collected g c r opening log front seat key settled history allowed is = collected_once r opening log front seat key settled history allowed is
