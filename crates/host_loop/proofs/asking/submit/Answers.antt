use Rattle.hall_core.specs.declared.operation.HallOp.TheVariants.{Submit}
use Rattle.host_loop.proofs.BoothCalls.{collects_its_own, submits}
use Rattle.host_loop.proofs.asking.submit.Goals as goal

pub returns-clause-submitted : goal.returns-clause-submitted
returns-clause-submitted g c =
    submits c.args.booth.now c.args.seat.now c.call-reply.new.seat c.args.key c.args.payload c.call-reply.result c.took.result c.call-reply.ensures.call c.took.ensures

pub returns-clause-own : goal.returns-clause-own
returns-clause-own g c =
    collects_its_own c.args.booth.now c.args.seat.now c.call-reply.new.seat (Submit c.args.key c.args.payload) c.call-reply.result c.requires.hall c.requires.zeroth c.call-reply.ensures.call
