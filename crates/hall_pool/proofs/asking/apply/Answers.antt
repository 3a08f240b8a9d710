use Rattle.hall_pool.proofs.Applying.{applies}
use Rattle.hall_pool.proofs.asking.apply.Goals as goal

pub returns-clause-applied : goal.returns-clause-applied
returns-clause-applied g c =
    applies c.args.booth.now c.args.seat.now c.call-reply.new.seat c.args.key c.args.call c.call-reply.result c.applied.result c.call-reply.ensures.call c.applied.ensures
