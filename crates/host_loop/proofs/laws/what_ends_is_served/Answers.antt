use Rattle.host_loop.proofs.Ends.{ends_served}
use Rattle.host_loop.proofs.laws.what_ends_is_served.Goals as goal

pub returns : goal.returns
returns c s run e = ends_served s run e
