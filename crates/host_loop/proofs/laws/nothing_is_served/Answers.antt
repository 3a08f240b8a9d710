use Rattle.host_loop.proofs.Nothing.{nothing_served}
use Rattle.host_loop.proofs.laws.nothing_is_served.Goals as goal

pub returns : goal.returns
returns c s run e = nothing_served s run e
