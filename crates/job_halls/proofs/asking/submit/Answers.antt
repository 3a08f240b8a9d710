use Rattle.std.proofs.Common.{sym, subst}
use Rattle.seat_booth.specs.Seats.{MakesCall}
use Rattle.job_halls.specs.Asking.{HandsInJob}
use Rattle.job_halls.proofs.asking.submit.Goals as goal

pub call-reply-requires-clause-may : goal.call-reply-requires-clause-may
call-reply-requires-clause-may g c =
    subst (λ op. g.O.Object.may c.args.booth.now.opening c.args.seat.now.number c.args.seat.now.mine op) (sym c.submit_op-op.ensures)
    (subst (λ n. g.O.Object.may c.args.booth.now.opening n c.args.seat.now.mine (g.O.JobHall.the_submit c.args.side c.args.key c.args.payload)) (sym c.requires.own)
    (g.met.O.JobHall.may_submit c.args.side c.args.booth.now.opening c.args.seat.now.mine c.args.key c.args.payload c.requires.hall c.requires.fits c.requires.may))

pub returns-clause-fits : goal.returns-clause-fits
returns-clause-fits g c =
    (g.met.O.JobHall.submits c.args.side c.args.booth.now c.args.seat.now c.call-reply.new.seat c.args.key c.args.payload c.call-reply.result c.requires.hall c.requires.own c.requires.fits
    (subst (λ op. MakesCall g.O.Object.gives g.O.Object.may c.args.booth.now c.args.seat.now op c.call-reply.result c.call-reply.new.seat) c.submit_op-op.ensures c.call-reply.ensures.call)).1

pub returns-clause-submitted : goal.returns-clause-submitted
returns-clause-submitted g c =
    subst (HandsInJob (g.O.JobHall.asks c.args.side c.args.seat.now.mine) (g.O.JobHall.asks c.args.side c.call-reply.new.seat.mine) c.args.key c.args.payload) (sym c.took.ensures)
    (g.met.O.JobHall.submits c.args.side c.args.booth.now c.args.seat.now c.call-reply.new.seat c.args.key c.args.payload c.call-reply.result c.requires.hall c.requires.own c.requires.fits
    (subst (λ op. MakesCall g.O.Object.gives g.O.Object.may c.args.booth.now c.args.seat.now op c.call-reply.result c.call-reply.new.seat) c.submit_op-op.ensures c.call-reply.ensures.call)).0

pub returns-clause-own : goal.returns-clause-own
returns-clause-own g c =
    g.met.O.JobHall.its_own c.args.side c.args.booth.now c.args.seat.now c.call-reply.new.seat c.submit_op-op.result c.call-reply.result c.requires.hall c.requires.own c.call-reply.ensures.call
