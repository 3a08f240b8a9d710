use Rattle.hall_pool.proofs.Applying.{closes}
use Rattle.host_loop.proofs.asking.close.Goals as goal

pub returns-clause-closed : goal.returns-clause-closed
returns-clause-closed g c = closes c.args.booth.now c.args.seat.now c.call.new.seat c.call.result c.call.ensures.call
