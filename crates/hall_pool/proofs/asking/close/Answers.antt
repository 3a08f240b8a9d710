use Rattle.hall_pool.proofs.Applying.{closes}
use Rattle.hall_pool.proofs.asking.close.Goals as goal

pub returns-clause-closed : goal.returns-clause-closed
returns-clause-closed g c = closes c.args.booth.now c.args.seat.now c.call-reply.new.seat c.call-reply.result c.call-reply.ensures.call
