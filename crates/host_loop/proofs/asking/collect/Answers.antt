use Rattle.hall_core.specs.declared.operation.HallOp.TheVariants.{Collect}
use Rattle.host_loop.proofs.BoothCalls.{collects_its_own, collects}
use Rattle.host_loop.proofs.asking.collect.Goals as goal

pub returns-clause-collected : goal.returns-clause-collected
returns-clause-collected g c =
    collects c.args.booth.now c.args.seat.now c.call-reply.new.seat c.call-reply.result c.meant.result c.call-reply.ensures.call c.meant.ensures

pub returns-clause-own : goal.returns-clause-own
returns-clause-own g c =
    collects_its_own c.args.booth.now c.args.seat.now c.call-reply.new.seat Collect c.call-reply.result c.requires.hall c.requires.zeroth c.call-reply.ensures.call
