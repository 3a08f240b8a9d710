use Rattle.machine_model.proofs.Owning.{suffices}
use Rattle.machine_model.proofs.laws.own_calls_suffice.Goals as goal

pub returns : goal.returns
returns g c r opening seat log op history allowed may = suffices r opening seat log op history allowed may
