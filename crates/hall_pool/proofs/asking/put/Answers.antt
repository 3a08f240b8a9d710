use Rattle.hall_pool.proofs.Applying.{puts}
use Rattle.hall_pool.proofs.asking.put.Goals as goal

pub returns-clause-put : goal.returns-clause-put
returns-clause-put g c = puts c.args.booth.now c.args.seat.now c.call-reply.new.seat c.args.key c.args.settled c.call-reply.result c.call-reply.ensures.call
