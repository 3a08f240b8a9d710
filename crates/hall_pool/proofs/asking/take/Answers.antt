use Rattle.hall_pool.proofs.Taking.{takes}
use Rattle.hall_pool.proofs.asking.take.Goals as goal

pub returns-clause-taken : goal.returns-clause-taken
returns-clause-taken g c = takes c.args.booth.now c.args.seat.now c.call-reply.new.seat c.requires.hall c.call-reply.result c.taken.result c.call-reply.ensures.call c.taken.ensures
