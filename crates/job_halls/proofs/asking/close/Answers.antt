use Rattle.std.proofs.Common.{sym, subst}
use Rattle.seat_booth.specs.Seats.{MakesCall}
use Rattle.job_halls.proofs.asking.close.Goals as goal

pub call-reply-requires-clause-may : goal.call-reply-requires-clause-may
call-reply-requires-clause-may g c =
    subst (λ op. g.O.Object.may c.args.booth.now.opening c.args.seat.now.number c.args.seat.now.mine op) (sym c.close_op-op.ensures)
    (g.met.O.JobHall.may_close c.args.booth.now.opening c.args.seat.now.number c.args.seat.now.mine (g.met.O.JobHall.opens c.args.side c.args.booth.now.opening c.requires.hall))

pub returns-clause-fits : goal.returns-clause-fits
returns-clause-fits g c =
    (g.met.O.JobHall.closes c.args.side c.args.booth.now c.args.seat.now c.call-reply.new.seat c.call-reply.result c.requires.hall c.requires.own c.requires.fits
    (subst (λ op. MakesCall g.O.Object.gives g.O.Object.may c.args.booth.now c.args.seat.now op c.call-reply.result c.call-reply.new.seat) c.close_op-op.ensures c.call-reply.ensures.call)).1

pub returns-clause-closed : goal.returns-clause-closed
returns-clause-closed g c =
    (g.met.O.JobHall.closes c.args.side c.args.booth.now c.args.seat.now c.call-reply.new.seat c.call-reply.result c.requires.hall c.requires.own c.requires.fits
    (subst (λ op. MakesCall g.O.Object.gives g.O.Object.may c.args.booth.now c.args.seat.now op c.call-reply.result c.call-reply.new.seat) c.close_op-op.ensures c.call-reply.ensures.call)).0
