use Rattle.std.proofs.Common.{sym, subst}
use Rattle.seat_booth.specs.Seats.{MakesCall}
use Rattle.job_halls.proofs.working.put.Goals as goal

pub call-reply-requires-clause-may : goal.call-reply-requires-clause-may
call-reply-requires-clause-may g c =
    subst (λ op. g.O.Object.may c.args.booth.now.opening c.args.seat.now.number c.args.seat.now.mine op) (sym c.put_op-op.ensures) c.requires.may

pub returns-clause-put : goal.returns-clause-put
returns-clause-put g c =
    g.met.O.JobHall.puts c.args.booth.now c.args.seat.now c.call-reply.new.seat c.args.key c.args.settled c.call-reply.result
    (subst (λ op. MakesCall g.O.Object.gives g.O.Object.may c.args.booth.now c.args.seat.now op c.call-reply.result c.call-reply.new.seat) c.put_op-op.ensures c.call-reply.ensures.call)
